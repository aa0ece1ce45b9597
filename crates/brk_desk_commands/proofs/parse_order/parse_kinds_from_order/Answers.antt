use Rattle.std.proofs.Common.{codes}
use Rattle.brk_ref.specs.Fields.{texts_of_fields}
use Rattle.brk_desk_commands.proofs.Unknown.{no_trading, other_text, same_text}
use Rattle.brk_desk_commands.proofs.parse_order.parse_kinds_from_order.Goals as goal

pub returns-then-eq : goal.returns-then-eq
returns-then-eq c =
    rw (same_text c.args.kind.now c.as_slice.result.now (codes "order") c.eq.result c.eq.ensures c.as_slice.ensures c.if-eq.true)
    c.order_command.ensures

pub returns-then-eq-2 : goal.returns-then-eq-2
returns-then-eq-2 c =
    rw (same_text c.args.kind.now c.as_slice-2.result.now (codes "feed") c.eq-2.result c.eq-2.ensures c.as_slice-2.ensures c.if-eq-2.true)
    c.feed_command.ensures

pub returns-then-eq-3 : goal.returns-then-eq-3
returns-then-eq-3 c =
    rw (same_text c.args.kind.now c.as_slice-3.result.now (codes "cancel") c.eq-3.result c.eq-3.ensures c.as_slice-3.ensures c.if-eq-3.true)
    c.cancel_command.ensures

pub returns-then-eq-4 : goal.returns-then-eq-4
returns-then-eq-4 c =
    rw (same_text c.args.kind.now c.as_slice-4.result.now (codes "result") c.eq-4.result c.eq-4.ensures c.as_slice-4.ensures c.if-eq-4.true)
    c.result_command.ensures

pub returns : goal.returns
returns c =
    rw (no_trading c.args.kind.now (texts_of_fields c.args.fields.now)
    (other_text c.args.kind.now c.as_slice.result.now (codes "order") c.eq.result c.eq.ensures c.as_slice.ensures c.if-eq.false)
    (other_text c.args.kind.now c.as_slice-2.result.now (codes "feed") c.eq-2.result c.eq-2.ensures c.as_slice-2.ensures c.if-eq-2.false)
    (other_text c.args.kind.now c.as_slice-3.result.now (codes "cancel") c.eq-3.result c.eq-3.ensures c.as_slice-3.ensures c.if-eq-3.false)
    (other_text c.args.kind.now c.as_slice-4.result.now (codes "result") c.eq-4.result c.eq-4.ensures c.as_slice-4.ensures c.if-eq-4.false))
    c.parse_kinds_from_upname.ensures
