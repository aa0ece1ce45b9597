use Rattle.std.proofs.Common.{arith}
use Rattle.std.proofs.lemmas.Int.{ints}
use Rattle.brk_audit_sums.proofs.balances.is_balance_after.Goals as goal

pub returns : goal.returns
returns c = (
  (λ t. let e = c.same_numbers.ensures.0 t in let d = c.above_opening-left.ensures in omega (arith, ints, e, d)),
  (λ e. let d = c.above_opening-left.ensures in c.same_numbers.ensures.1 (omega (arith, ints, e, d))),
)
