use Rattle.std.proofs.Common.{◌≡◌, ◌++◌, take}
use Rattle.std.specs.List.{filter_map}
use Rattle.brk_ref.specs.Rows.{abstract_cash_row}
use Rattle.brk_audit_sums.specs.Sums.{movement_posting_of_row}
use Rattle.brk_audit_sums.proofs.balances.append_movement_postings.Given as goal

abbrev pub invariant-loop-row : goal.invariant-loop-row
invariant-loop-row l = l.all.items ≡ l.fn.all.items ++ filter_map (λ r. movement_posting_of_row (abstract_cash_row r)) (take l.row-index l.moves)
