use Rattle.std.proofs.Common.{codes}
use Rattle.brk_ref.specs.Fields.{texts_of_fields}
use Rattle.brk_desk_commands.proofs.Unknown.{no_party, other_text, same_text}
use Rattle.brk_desk_commands.proofs.parse.parse_any_kind.Goals as goal

pub returns-then-eq : goal.returns-then-eq
returns-then-eq c =
    rw (same_text c.args.kind.now c.as_slice.result.now (codes "broker") c.eq.result c.eq.ensures c.as_slice.ensures c.if-eq.true)
    c.broker_command.ensures

pub returns-then-eq-2 : goal.returns-then-eq-2
returns-then-eq-2 c =
    rw (same_text c.args.kind.now c.as_slice-2.result.now (codes "customer") c.eq-2.result c.eq-2.ensures c.as_slice-2.ensures c.if-eq-2.true)
    c.customer_command.ensures

pub returns-then-eq-3 : goal.returns-then-eq-3
returns-then-eq-3 c =
    rw (same_text c.args.kind.now c.as_slice-3.result.now (codes "account") c.eq-3.result c.eq-3.ensures c.as_slice-3.ensures c.if-eq-3.true)
    c.account_command.ensures

pub returns : goal.returns
returns c =
    rw (no_party c.args.kind.now (texts_of_fields c.args.fields.now)
    (other_text c.args.kind.now c.as_slice.result.now (codes "broker") c.eq.result c.eq.ensures c.as_slice.ensures c.if-eq.false)
    (other_text c.args.kind.now c.as_slice-2.result.now (codes "customer") c.eq-2.result c.eq-2.ensures c.as_slice-2.ensures c.if-eq-2.false)
    (other_text c.args.kind.now c.as_slice-3.result.now (codes "account") c.eq-3.result c.eq-3.ensures c.as_slice-3.ensures c.if-eq-3.false))
    c.parse_kinds_from_permission.ensures
