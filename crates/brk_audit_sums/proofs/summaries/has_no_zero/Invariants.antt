use Rattle.std.proofs.Common.{◌≡◌, false, take}
use Rattle.std.specs.List.{AllByRecursion}
use Rattle.brk_model.specs.Lists.{is_zero}
use Rattle.brk_audit_sums.proofs.summaries.has_no_zero.Given as goal

abbrev pub invariant-loop-row : goal.invariant-loop-row
invariant-loop-row l = AllByRecursion (λ r. is_zero r.qty ≡ false) (take l.row-index l.rows)
