use Rattle.std.proofs.Common.{◌≡◌, take}
use Rattle.std.specs.List.{AllByRecursion}
use Rattle.brk_audit_sums.specs.Tally.{sum_at_key}
use Rattle.brk_audit_sums.proofs.summaries.sums_agree.Given as goal

abbrev pub invariant-loop-posting : goal.invariant-loop-posting
invariant-loop-posting g l = AllByRecursion (λ p. sum_at_key g.K.Ord.cmp l.sums p.key ≡ sum_at_key g.K.Ord.cmp l.claimed p.key) (take l.posting-index l.postings)
