use Rattle.std.proofs.Common.{◌≤◌, arith}
use Rattle.std.specs.Prelude.{◌+ℤ◌, nat_abs}
use Rattle.std.proofs.lemmas.Bool.{le-ltb}
use Rattle.std.proofs.lemmas.Int.{ints}
use Rattle.brk_model.specs.Limits.{greatest_summary_quantity}
use Rattle.brk_trade.proofs.outcome.add_within_summary_limit.Goals as goal

pub returns : goal.returns
returns c =
    let low : nat_abs (c.args.held +ℤ c.args.traded) ≤ greatest_summary_quantity = omega (arith, ints) in
    (omega (arith, ints), le-ltb greatest_summary_quantity (nat_abs (c.args.held +ℤ c.args.traded)) low)
