use Rattle.std.proofs.Common.{◌≡◌, ◌≤◌, take}
use Rattle.std.specs.Prelude.{sum_by}
use Rattle.brk_ref.proofs.taxes.tax_sum.Given as goal

abbrev pub invariant-loop-tax : goal.invariant-loop-tax
invariant-loop-tax l = (l.sum ≡ sum_by (λ tax. tax.rate) (take l.tax-index l.taxes)) × (l.sum ≤ 100000)
