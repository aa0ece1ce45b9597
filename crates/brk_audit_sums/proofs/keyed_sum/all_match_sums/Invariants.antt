use Rattle.std.proofs.Common.{take}
use Rattle.std.specs.List.{AllByRecursion}
use Rattle.brk_audit_sums.proofs.keyed_sum.all_match_sums.Given as goal

abbrev pub invariant-loop-row : goal.invariant-loop-row
invariant-loop-row g l = AllByRecursion (g.S.KeyedSum.has_sum l.sums) (take l.row-index l.rows)
