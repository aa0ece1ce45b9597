use Rattle.std.proofs.Common.{◌≡◌, ◌≤◌, ◌*◌, ◌^◌, take}
use Rattle.std.specs.Prelude.{nat_abs}
use Rattle.brk_audit_sums.specs.Tally.{sum_at_key, total_amount_at_key}
use Rattle.brk_audit_sums.proofs.tally.sum_by_key.Given as goal

abbrev pub invariant-loop-posting : goal.invariant-loop-posting
invariant-loop-posting g l = record {
  sums : (q : g.row.K.Denot) → sum_at_key g.K.Ord.cmp l.tally q ≡ total_amount_at_key g.K.Ord.cmp (take l.posting-index l.postings) q;
  small : (q : g.row.K.Denot) → nat_abs (sum_at_key g.K.Ord.cmp l.tally q) ≤ l.posting-index * 2 ^ 63;
}
