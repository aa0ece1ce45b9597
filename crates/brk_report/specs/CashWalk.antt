-- The lines of a walk over an account's cash rows, and its progress. `from` and `to` are UTC days
-- since 1970-01-01. The first stamp is the first millisecond of `from`: earlier rows only add to
-- the opening amount. Output conditions (`Appends`) are vacuous if the content before is unknown.
use Rattle.std.specs.Prelude.{◌≡◌, ℕ, ◌+◌, ℤ, ◌+ℤ◌, Bool, true, false, List, [], ◌∷◌, ◌++◌, Option, Result, Ok, Err, codes, length, map, nat_lt}
use Rattle.std.specs.Io.KnownBytes.{Appends}
use Rattle.brk_money.specs.Spelling.{Text}
use Rattle.brk_model.specs.Statement.{amount_line, cash_move_rows_before_day, sorted_cash_rows_of_account, cash_move_rows_within_days}
use Rattle.brk_model.specs.Statement.{cash_row_line, cash_row_total, text_of_lines}
use Rattle.brk_model.specs.Tables.{CashRow, Tables}
use Rattle.brk_report.specs.declared.statements.visitors.CashProgress.{CashProgress}
use Rattle.brk_report_lines.specs.Written.{FailsWithinFirstLines}
use Rattle.brk_io.specs.declared.report_fault.LinesFault.{LinesFault}

-- The line of the opening amount `opening`, in cents, or none if it is written already (true).
abbrev pub opening_line_unless_written : Bool → ℤ → List Text
opening_line_unless_written true opening = []
opening_line_unless_written false opening = amount_line (codes "Opening") opening ∷ []

-- The progress before the first cash row: no line, no row, and the total `opening`, in cents.
abbrev pub progress_before_cash_rows : ℤ → CashProgress
progress_before_cash_rows opening = record { is_opened = false; count = 0; total = opening }

-- The progress after the cash row `row`, if it was `p` before: the amount is added to the total
-- and, if the Boolean is false, the row is counted and the opening line recorded as written. The
-- Boolean is true if the row is before the first stamp.
abbrev pub progress_after_cash_row : Bool → CashProgress → CashRow → CashProgress
progress_after_cash_row true p row = record { is_opened = p.is_opened; count = p.count; total = p.total +ℤ row.amount }
progress_after_cash_row false p row = record { is_opened = true; count = p.count + 1; total = p.total +ℤ row.amount }

-- The lines for the cash row `row`, if the progress before it is `p`: none if the Boolean is true
-- (the row is before the first stamp); otherwise the line of the opening amount, the total of `p`,
-- unless it is written already, and the line of the row.
abbrev pub lines_of_cash_row : Bool → CashProgress → CashRow → List Text
lines_of_cash_row true p row = []
lines_of_cash_row false p row = opening_line_unless_written p.is_opened p.total ++ cash_row_line row ∷ []

-- The progress after the cash rows, in order, if it was `p` before and `first` is the first stamp.
abbrev pub progress_after_cash_rows : ℕ → CashProgress → List CashRow → CashProgress
progress_after_cash_rows first p [] = p
progress_after_cash_rows first p (row ∷ rows) = progress_after_cash_rows first (progress_after_cash_row (nat_lt row.stamp first) p row) rows

-- The lines for the cash rows, in order, if the progress before is `p` and `first` the first stamp.
abbrev pub lines_of_cash_rows : ℕ → CashProgress → List CashRow → List Text
lines_of_cash_rows first p [] = []
lines_of_cash_rows first p (row ∷ rows) =
    lines_of_cash_row (nat_lt row.stamp first) p row ++ lines_of_cash_rows first (progress_after_cash_row (nat_lt row.stamp first) p row) rows

-- The result of a walk over the cash rows `rows` from the balance `opening`, in cents, with the
-- first stamp `first`. `Ok`: exactly `lines_of_cash_rows` were written, and `moved` is the progress
-- after them. `Err`: as `FailsWithinFirstLines` specifies.
abbrev pub WritesLinesOfCashWalk : List CashRow → ℕ → ℤ → Option Text → Option Text → Result CashProgress LinesFault → Type 0
WritesLinesOfCashWalk rows first opening old new (Ok moved) =
    Appends old new (text_of_lines (lines_of_cash_rows first (progress_before_cash_rows opening) rows))
    × (moved ≡ progress_after_cash_rows first (progress_before_cash_rows opening) rows)
WritesLinesOfCashWalk rows first opening old new (Err e) = FailsWithinFirstLines (lines_of_cash_rows first (progress_before_cash_rows opening) rows) old new e

-- The line of the opening amount, `opening` plus the amounts of the account's cash rows before the
-- day `from`, in cents, and a line for each cash row from `from` to `to`, both included, by stamp.
abbrev pub opening_and_cash_lines : Tables → ℕ → ℕ → ℕ → ℤ → List Text
opening_and_cash_lines t account from to opening =
    amount_line (codes "Opening") (opening +ℤ cash_row_total (cash_move_rows_before_day from (sorted_cash_rows_of_account t account)))
    ∷ map cash_row_line (cash_move_rows_within_days from to (sorted_cash_rows_of_account t account))

-- The result of writing `opening_and_cash_lines`. `Ok`: exactly these were written; `moved` has the
-- number of cash rows of `account` from the day `from` to `to`, both included, and the total, in
-- cents, of `opening`, the amounts of the rows before `from` and of the counted ones. `Err`: as
-- `FailsWithinFirstLines` specifies.
abbrev pub WritesCashLines : Tables → ℕ → ℕ → ℕ → ℤ → Option Text → Option Text → Result CashProgress LinesFault → Type 0
WritesCashLines t account from to opening old new (Ok moved) =
    Appends old new (text_of_lines (opening_and_cash_lines t account from to opening))
    × (moved.count ≡ length (cash_move_rows_within_days from to (sorted_cash_rows_of_account t account)))
    × (moved.total ≡ opening +ℤ cash_row_total (cash_move_rows_before_day from (sorted_cash_rows_of_account t account))
    +ℤ cash_row_total (cash_move_rows_within_days from to (sorted_cash_rows_of_account t account)))
WritesCashLines t account from to opening old new (Err e) = FailsWithinFirstLines (opening_and_cash_lines t account from to opening) old new e
