use Rattle.std.proofs.Common.{◌≡◌, map, take}
use Rattle.std.specs.List.{filter_map}
use Rattle.brk_ref.specs.Rows.{abstract_cash_row}
use Rattle.brk_audit.specs.CashMoveFigures.{abstract_posted_figures}
use Rattle.brk_audit_sums.specs.Settling.{posted_figures_of_row}
use Rattle.brk_audit.proofs.cash.figures_of_rows.Given as goal

abbrev pub invariant-loop-row : goal.invariant-loop-row
invariant-loop-row l = map abstract_posted_figures l.all.items ≡ filter_map (λ r. posted_figures_of_row (abstract_cash_row r)) (take l.row-index l.moves)
