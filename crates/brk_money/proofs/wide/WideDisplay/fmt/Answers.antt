use Rattle.std.proofs.Common.{ap, rules, ◌∙◌}
use Rattle.std.specs.Int.{w128}
use Rattle.std.proofs.Math.Facts.{to_z-of_z}
use Rattle.std.proofs.Output.{has_written_of_eq}
use Rattle.brk_money.proofs.Printed.{printed_below, printed_from_zero}
use Rattle.brk_money.proofs.wide.WideDisplay.fmt.Goals as goal
use Rattle.brk_money.proofs.wide.WideDisplay.fmt.Goals.{then-amount-lt0, else-amount-lt0}

pub returns-clause-writes : goal.returns-clause-writes
returns-clause-writes g c plain ok =
    let same = to_z-of_z {w = w128} {z = c.get-amount.result} (search rules) ∙ c.get-amount.ensures in
    let size = c.unsigned_abs-cents.ensures.value in
    has_written_of_eq _ _ _ _ _ (elim c.if-amount-lt0.branch [
      | then-amount-lt0 w ↦ printed_below _ _ _ _ same size w.if-amount-lt0.true (ap (λ s. s.now) w.sign-is)
      | else-amount-lt0 w ↦ printed_from_zero _ _ _ _ same size w.if-amount-lt0.false (ap (λ s. s.now) w.sign-is)
    ]) (c.write.ensures.writes plain ok)
