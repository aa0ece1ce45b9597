use Rattle.std.proofs.Common.{arith}
use Rattle.std.proofs.lemmas.Bool.{ltb-true, ltb-false}
use Rattle.brk_ref_orders.proofs.Counts.{not_cancel}
use Rattle.brk_ref_orders.proofs.cancel.parse_cancel.Goals as goal
use Rattle.brk_ref_orders.proofs.cancel.parse_cancel.Goals.{in_default-via-then-fields-lt1, in_default-via-else-fields-lt1+else-fields-lt2}

pub returns-in_default : goal.returns-in_default
returns-in_default c =
    elim c.in_default.branch [
      | in_default-via-then-fields-lt1 w ↦ not_cancel c.args.fields.now (λ e. omega (arith, ltb-true, ltb-false))
      | in_default-via-else-fields-lt1+else-fields-lt2 w ↦ not_cancel c.args.fields.now (λ e. omega (arith, ltb-true, ltb-false))
    ]
