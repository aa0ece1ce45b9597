use Rattle.std.proofs.Common.{arith}
use Rattle.std.proofs.lemmas.Bool.{ltb-true, ltb-false}
use Rattle.brk_ref_orders.proofs.Counts.{not_one_day}
use Rattle.brk_ref_orders.proofs.one_day.parse_one_day.Goals as goal
use Rattle.brk_ref_orders.proofs.one_day.parse_one_day.Goals.{in_default-via-then-fields-lt1, in_default-via-else-fields-lt1+else-fields-lt2}

pub returns-in_default : goal.returns-in_default
returns-in_default c =
    elim c.in_default.branch [
      | in_default-via-then-fields-lt1 w ↦ not_one_day c.args.fields.now (λ e. omega (arith, ltb-true, ltb-false))
      | in_default-via-else-fields-lt1+else-fields-lt2 w ↦ not_one_day c.args.fields.now (λ e. omega (arith, ltb-true, ltb-false))
    ]
