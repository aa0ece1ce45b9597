use Rattle.std.proofs.Common.{codes}
use Rattle.brk_ref.specs.Fields.{texts_of_fields}
use Rattle.brk_desk_commands.proofs.Unknown.{no_update, other_text, same_text}
use Rattle.brk_desk_commands.proofs.parse_update.parse_kinds_from_upname.Goals as goal

pub returns-then-eq : goal.returns-then-eq
returns-then-eq c =
    rw (same_text c.args.kind.now c.as_slice.result.now (codes "upname") c.eq.result c.eq.ensures c.as_slice.ensures c.if-eq.true)
    c.executor_command.ensures

pub returns-then-eq-2 : goal.returns-then-eq-2
returns-then-eq-2 c =
    rw (same_text c.args.kind.now c.as_slice-2.result.now (codes "upcash") c.eq-2.result c.eq-2.ensures c.as_slice-2.ensures c.if-eq-2.true)
    c.cash_type_command.ensures

pub returns-then-eq-3 : goal.returns-then-eq-3
returns-then-eq-3 c =
    rw (same_text c.args.kind.now c.as_slice-3.result.now (codes "uptext") c.eq-3.result c.eq-3.ensures c.as_slice-3.ensures c.if-eq-3.true)
    c.cash_name_command.ensures

pub returns : goal.returns
returns c =
    rw (no_update c.args.kind.now (texts_of_fields c.args.fields.now)
    (other_text c.args.kind.now c.as_slice.result.now (codes "upname") c.eq.result c.eq.ensures c.as_slice.ensures c.if-eq.false)
    (other_text c.args.kind.now c.as_slice-2.result.now (codes "upcash") c.eq-2.result c.eq-2.ensures c.as_slice-2.ensures c.if-eq-2.false)
    (other_text c.args.kind.now c.as_slice-3.result.now (codes "uptext") c.eq-3.result c.eq-3.ensures c.as_slice-3.ensures c.if-eq-3.false))
    c.parse_movement_kinds.ensures
