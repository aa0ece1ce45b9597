-- The walk over the cash rows of an account up to a day writes the opening amount and the rows of
-- the days.
use Rattle.std.proofs.Common.{◌≡◌, ℕ, ◌+◌, ◌*◌, ◌≤◌, ℤ, ◌+ℤ◌, List, ◌++◌, ap, length, ◌∙◌}
use Rattle.brk_model.specs.Statement.{cash_move_rows_before_day, sorted_cash_rows_of_account, cash_move_rows_within_days, cash_row_total}
use Rattle.brk_model.specs.Tables.{CashRow, Tables}
use Rattle.brk_store.specs.Walked.{cash_rows_in_span}
use Rattle.brk_report.specs.CashWalk.{opening_and_cash_lines, progress_after_cash_rows, progress_before_cash_rows}
use Rattle.brk_report.specs.declared.statements.visitors.CashProgress.{CashProgress}
use Rattle.brk_report.proofs.CashLists.{count_split, lines_split, lines_with_opening, total_split}
use Rattle.brk_report.proofs.Days.{before_first, not_before_first, rows_up_to}

module _ (t : Tables) (account from to first last : ℕ) (opening : ℤ) (span : from ≤ to) (f : first ≡ from * 86400000) (l : last ≡ to * 86400000 + 86399999) where
  abbrev rows : List CashRow
  rows = sorted_cash_rows_of_account t account

  abbrev early : List CashRow
  early = cash_move_rows_before_day from rows

  abbrev late : List CashRow
  late = cash_move_rows_within_days from to rows

  parts : cash_rows_in_span account 0 last t ≡ early ++ late
  parts = rows_up_to t account from to last span l

  -- How far the walk has come at its end.
  abbrev pub end_of_walk : CashProgress
  end_of_walk = progress_after_cash_rows first (progress_before_cash_rows opening) (cash_rows_in_span account 0 last t)

  pub walk_lines : lines_with_opening first opening (progress_before_cash_rows opening) (cash_rows_in_span account 0 last t) ≡ opening_and_cash_lines t account from to opening
  walk_lines = ap (lines_with_opening first opening (progress_before_cash_rows opening)) parts
      ∙ lines_split first opening early late (before_first from first rows f) (not_before_first from to first rows f)

  pub walk_count : end_of_walk.count ≡ length late
  walk_count = ap (λ rows. (progress_after_cash_rows first (progress_before_cash_rows opening) rows).count) parts
      ∙ count_split first opening early late (before_first from first rows f) (not_before_first from to first rows f)

  pub walk_total : end_of_walk.total ≡ opening +ℤ cash_row_total early +ℤ cash_row_total late
  walk_total = ap (λ rows. (progress_after_cash_rows first (progress_before_cash_rows opening) rows).total) parts
      ∙ total_split first opening early late (before_first from first rows f) (not_before_first from to first rows f)
