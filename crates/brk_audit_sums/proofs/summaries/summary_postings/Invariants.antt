use Rattle.std.proofs.Common.{◌≡◌, map, take}
use Rattle.brk_ref.specs.Rows.{abstract_summary_row}
use Rattle.brk_audit_sums.specs.PositionSums.{posting_with_owned_symbol, share_posting_of_summary}
use Rattle.brk_audit_sums.proofs.summaries.summary_postings.Given as goal

abbrev pub invariant-loop-row : goal.invariant-loop-row
invariant-loop-row l = map posting_with_owned_symbol l.all.items ≡ map (λ r. share_posting_of_summary (abstract_summary_row r)) (take l.row-index l.rows)
