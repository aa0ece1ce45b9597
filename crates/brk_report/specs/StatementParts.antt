-- The lines of the parts of a statement. `from` and `to` are UTC days since 1970-01-01. Output
-- conditions (`Appends`) are vacuous if the writer's content before is unknown.
use Rattle.std.specs.Prelude.{◌≡◌, ℕ, ℤ, ◌+ℤ◌, List, [], ◌∷◌, ◌++◌, Option, Result, Ok, Err, codes, decimal, length, map}
use Rattle.std.specs.Io.KnownBytes.{Appends}
use Rattle.brk_money.specs.Spelling.{Text, day_text}
use Rattle.brk_model.specs.Statement.{amount_line, cash_move_rows_before_day, sorted_cash_rows_of_account, cash_row_total}
use Rattle.brk_model.specs.Statement.{cash_move_rows_within_days, text_of_lines, lot_line, holding_rows_of_account}
use Rattle.brk_model.specs.Tables.{Tables}
use Rattle.brk_desk_queries.specs.declared.statement_head.Head.{Head}
use Rattle.brk_report.specs.CashWalk.{opening_and_cash_lines}
use Rattle.brk_report_lines.specs.Written.{FailsWithinLines}
use Rattle.brk_io.specs.declared.report_fault.LinesFault.{LinesFault}

-- The first three lines of a statement: the title with the account's id, its name, and its days.
abbrev pub statement_header_lines : ℕ → Text → ℕ → ℕ → List Text
statement_header_lines account name from to =
    (codes "Statement of account " ++ decimal account) ∷ name ∷ (codes "From " ++ day_text from ++ codes " to " ++ day_text to) ∷ []

-- `opening_and_cash_lines` from the day `from` to `to`, both included, and the line of the closing
-- amount: the opening amount plus the amounts of the cash rows that have a line, in cents.
abbrev pub cash_and_closing_lines : Tables → ℕ → ℕ → ℕ → ℤ → List Text
cash_and_closing_lines t account from to opening =
    opening_and_cash_lines t account from to opening
    ++ amount_line (codes "Closing") (opening +ℤ cash_row_total (cash_move_rows_before_day from (sorted_cash_rows_of_account t account))
    +ℤ cash_row_total (cash_move_rows_within_days from to (sorted_cash_rows_of_account t account)))
    ∷ []

-- The result of writing `cash_and_closing_lines`. `Ok`: exactly these were written, and `count` is
-- the number of cash rows from the day `from` to `to`, both included. `Err`: `FailsWithinLines`.
abbrev pub WritesCashAndClosingLines : Tables → ℕ → ℕ → ℕ → ℤ → Option Text → Option Text → Result ℕ LinesFault → Type 0
WritesCashAndClosingLines t account from to opening old new (Ok count) =
    Appends old new (text_of_lines (cash_and_closing_lines t account from to opening))
    × (count ≡ length (cash_move_rows_within_days from to (sorted_cash_rows_of_account t account)))
WritesCashAndClosingLines t account from to opening old new (Err e) = FailsWithinLines (cash_and_closing_lines t account from to opening) old new e

-- A line for each lot of `account`, sorted by symbol, then opening stamp, the line of the market
-- value `holdings`, in cents, and the line of the numbers of cash rows, `cash`, and of lots.
abbrev pub lot_and_total_lines : Tables → ℕ → ℤ → ℕ → List Text
lot_and_total_lines t account holdings cash =
    map lot_line (holding_rows_of_account t account) ++ amount_line (codes "Holdings") holdings
    ∷ (codes "Cash rows " ++ decimal cash ++ codes ", lots " ++ decimal (length (holding_rows_of_account t account))) ∷ []

-- All lines of the statement of `account` for the days `from` to `to`, with the values of `head`.
abbrev pub all_statement_lines : Tables → ℕ → Head → ℕ → ℕ → List Text
all_statement_lines t account head from to =
    statement_header_lines account head.name from to ++ cash_and_closing_lines t account from to head.opening
    ++ lot_and_total_lines t account head.holdings (length (cash_move_rows_within_days from to (sorted_cash_rows_of_account t account)))
