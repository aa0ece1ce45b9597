use Rattle.std.proofs.Common.{codes}
use Rattle.brk_ref.specs.Fields.{texts_of_fields}
use Rattle.brk_desk_commands.proofs.Unknown.{other_text, same_text, unknown_kind}
use Rattle.brk_desk_commands.proofs.parse_movement.parse_movement_kinds.Goals as goal

pub returns-then-eq : goal.returns-then-eq
returns-then-eq c =
    rw (same_text c.args.kind.now c.as_slice.result.now (codes "deposit") c.eq.result c.eq.ensures c.as_slice.ensures c.if-eq.true)
    c.move_command.ensures

pub returns-then-eq-2 : goal.returns-then-eq-2
returns-then-eq-2 c =
    rw (same_text c.args.kind.now c.as_slice-2.result.now (codes "withdraw") c.eq-2.result c.eq-2.ensures c.as_slice-2.ensures c.if-eq-2.true)
    c.move_command-then-eq-2.ensures

pub returns-then-eq-3 : goal.returns-then-eq-3
returns-then-eq-3 c =
    rw (same_text c.args.kind.now c.as_slice-3.result.now (codes "oneday") c.eq-3.result c.eq-3.ensures c.as_slice-3.ensures c.if-eq-3.true)
    c.oneday_command.ensures

pub returns : goal.returns
returns c =
    unknown_kind c.args.kind.now (texts_of_fields c.args.fields.now)
    (other_text c.args.kind.now c.as_slice.result.now (codes "deposit") c.eq.result c.eq.ensures c.as_slice.ensures c.if-eq.false)
    (other_text c.args.kind.now c.as_slice-2.result.now (codes "withdraw") c.eq-2.result c.eq-2.ensures c.as_slice-2.ensures c.if-eq-2.false)
    (other_text c.args.kind.now c.as_slice-3.result.now (codes "oneday") c.eq-3.result c.eq-3.ensures c.as_slice-3.ensures c.if-eq-3.false)
