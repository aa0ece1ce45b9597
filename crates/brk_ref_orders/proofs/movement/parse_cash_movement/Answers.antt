use Rattle.std.proofs.Common.{arith, sym}
use Rattle.std.proofs.lemmas.Bool.{ltb-true, ltb-false}
use Rattle.brk_ref_orders.specs.Records.{cash_movement_command}
use Rattle.brk_ref_orders.proofs.Counts.{no_account, not_movement}
use Rattle.brk_ref_orders.proofs.movement.parse_cash_movement.Goals as goal
use Rattle.brk_ref_orders.proofs.movement.parse_cash_movement.Goals.{in_default-via-then-fields-lt2, in_default-via-else-fields-lt2+else-fields-lt3}

pub returns-in_default : goal.returns-in_default
returns-in_default c =
    elim c.in_default.branch [
      | in_default-via-then-fields-lt2 w ↦ not_movement (cash_movement_command c.args.direction) c.args.fields.now (λ e. omega (arith, ltb-true, ltb-false))
      | in_default-via-else-fields-lt2+else-fields-lt3 w ↦ not_movement (cash_movement_command c.args.direction) c.args.fields.now (λ e. omega (arith, ltb-true, ltb-false))
    ]

pub returns-in_default-parse_id : goal.returns-in_default-parse_id
returns-in_default-parse_id c =
    no_account (cash_movement_command c.args.direction) c.args.fields.now _ (omega (arith, c.in-len2.len_at_least, c.in-len2.len_below)) (sym c.in_default-parse_id.ensures)
