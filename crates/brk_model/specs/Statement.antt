-- The text of an account's statement, computed from the tables.
use Rattle.std.specs.Prelude.{ℕ, ◌-◌, ◌&&◌, ◌||◌, ◌==◌, nat_lt, if◌then◌else◌, List, [], ◌∷◌, ◌++◌, map, flat_map, filter, length, replicate, Option, Some}
use Rattle.std.specs.Prelude.{None, Result, Ok, Err, ℤ, ◌+ℤ◌, codes, decimal, bytes_eq}
use Rattle.std.specs.Fmt.{signed_decimal}
use Rattle.brk_money.specs.Spelling.{Text, cents_text, day_text}
use Rattle.brk_money.specs.Moments.{day_of}
use Rattle.brk_money.specs.declared.refusal.Refusal.{Refusal}
use Rattle.brk_money.specs.declared.refusal.Refusal.TheVariants.{BadText, NoAccount}
use Rattle.brk_model.specs.Limits.{is_in_range}
use Rattle.brk_model.specs.Lists.{sort_by, sort_by_key, total_by, is_text_less}
use Rattle.brk_model.specs.Tables.{Tables, AccountRow, HoldingRow, CashRow}
use Rattle.brk_model.specs.Rows.{nonnegative_cents_text}
use Rattle.brk_model.specs.Joins.{account_row_with_id, cash_move_rows_of_account}
use Rattle.brk_model.specs.PositionView.{market_value_of_account_row}

-- The text padded with spaces on its right to `places` bytes; unchanged if it is not shorter.
abbrev pub left_aligned_text : ℕ → Text → Text
left_aligned_text places text = text ++ replicate (places - length text) 32

-- The text padded with spaces on its left to `places` bytes; unchanged if it is not shorter.
abbrev pub right_aligned_text : ℕ → Text → Text
right_aligned_text places text = replicate (places - length text) 32 ++ text

-- The statement line of an amount in cents: `word`, padded on its right to 10 bytes, a space, and
-- the text of the amount, padded on its left to 22 bytes.
abbrev pub amount_line : Text → ℤ → Text
amount_line word amount = left_aligned_text 10 word ++ 32 ∷ right_aligned_text 22 (cents_text amount)

-- The CASH_MOVE rows of the account `account`, sorted by stamp, ascending; the sort is stable.
abbrev pub sorted_cash_rows_of_account : Tables → ℕ → List CashRow
sorted_cash_rows_of_account tables account = sort_by_key (λ row. row.stamp) (cash_move_rows_of_account tables account)

-- The CASH_MOVE rows with stamps before the UTC day `from`, in days since 1970-01-01.
abbrev pub cash_move_rows_before_day : ℕ → List CashRow → List CashRow
cash_move_rows_before_day from rows = filter (λ row. nat_lt (day_of row.stamp) from) rows

-- The CASH_MOVE rows with stamps on the UTC days `from` to `to`, both included.
abbrev pub cash_move_rows_within_days : ℕ → ℕ → List CashRow → List CashRow
cash_move_rows_within_days from to rows = filter (λ row. is_in_range from to (day_of row.stamp)) rows

-- The sum of the amounts of the CASH_MOVE rows, in cents.
abbrev pub cash_row_total : List CashRow → ℤ
cash_row_total rows = total_by (λ row. row.amount) rows

-- The HOLDING rows of the account, stably sorted by symbol, then by stamp, both ascending.
abbrev pub holding_rows_of_account : Tables → ℕ → List HoldingRow
holding_rows_of_account tables account =
    sort_by (λ a b. is_text_less a.symbol b.symbol || (bytes_eq a.symbol b.symbol && nat_lt a.stamp b.stamp))
    (filter (λ row. row.account == account) tables.holdings)

-- The line of a cash row: UTC day, amount, padded on its left to 22 bytes, name, joined by spaces.
abbrev pub cash_row_line : CashRow → Text
cash_row_line row = day_text (day_of row.stamp) ++ 32 ∷ right_aligned_text 22 (cents_text row.amount) ++ 32 ∷ row.name

-- The line of a lot: symbol, padded on its right to 15 bytes, and id of the opening trade, quantity
-- and price, padded on their left to 13, 11 and 10 bytes, separated by spaces.
abbrev pub lot_line : HoldingRow → Text
lot_line row =
    left_aligned_text 15 row.symbol ++ 32 ∷ right_aligned_text 13 (decimal row.trade) ++ 32 ∷ right_aligned_text 11 (signed_decimal row.qty) ++ 32
    ∷ right_aligned_text 10 (nonnegative_cents_text row.price)

-- The lines of the statement of account `a` over the UTC days `from` to `to`, both included and
-- counted from 1970-01-01: title, name, period, balance before the period, cash rows of the period,
-- balance after it, lots, market value, and the counts of its cash rows and of the lots. Balances
-- are the opening balance plus the amounts of the account's cash `rows` until then; lots and market
-- value are read from `tables`, whatever the period.
abbrev pub statement_lines : Tables → AccountRow → ℕ → ℕ → List CashRow → List Text
statement_lines tables a from to rows =
    (codes "Statement of account " ++ decimal a.id)
    ∷ a.name
    ∷ (codes "From " ++ day_text from ++ codes " to " ++ day_text to)
    ∷ amount_line (codes "Opening") (a.opening +ℤ cash_row_total (cash_move_rows_before_day from rows))
    ∷ map cash_row_line (cash_move_rows_within_days from to rows)
    ++ amount_line (codes "Closing") (a.opening +ℤ cash_row_total (cash_move_rows_before_day from rows)
    +ℤ cash_row_total (cash_move_rows_within_days from to rows))
    ∷ map lot_line (holding_rows_of_account tables a.id)
    ++ amount_line (codes "Holdings") (market_value_of_account_row tables a)
    ∷ (codes "Cash rows " ++ decimal (length (cash_move_rows_within_days from to rows)) ++ codes ", lots "
    ++ decimal (length (holding_rows_of_account tables a.id)))
    ∷ []

-- The text of the lines, each followed by a line feed.
abbrev pub text_of_lines : List Text → Text
text_of_lines lines = flat_map (λ line. line ++ 10 ∷ []) lines

-- The statement of the account over the UTC days `from` to `to`, or `NoAccount` without an account.
abbrev pub statement_or_refusal : Tables → Option AccountRow → ℕ → ℕ → Result Text Refusal
statement_or_refusal tables None from to = Err NoAccount
statement_or_refusal tables (Some a) from to = Ok (text_of_lines (statement_lines tables a from to (sorted_cash_rows_of_account tables a.id)))

-- The statement of the account `account` over the UTC days `from` to `to`, both included; refused
-- with `BadText` if `to` is before `from`, otherwise with `NoAccount` if there is no account.
unfoldable pub statement : Tables → ℕ → ℕ → ℕ → Result Text Refusal
statement tables account from to = if nat_lt to from then Err BadText else statement_or_refusal tables (account_row_with_id tables account) from to
