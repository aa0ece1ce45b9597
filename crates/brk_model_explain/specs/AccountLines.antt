-- The lines of the explanation of an account.
use Rattle.std.specs.Prelude.{ℕ, ◌==◌, List, [], ◌∷◌, ◌++◌, map, filter, length, Option, ℤ, pos, ◌+ℤ◌, ◌*ℤ◌, codes, decimal}
use Rattle.std.specs.Fmt.{signed_decimal}
use Rattle.std.specs.Option.{option_map_or}
use Rattle.brk_money.specs.Spelling.{Text}
use Rattle.brk_money.specs.Kinds.{tax_status_number}
use Rattle.brk_money.specs.Moments.{greatest_day}
use Rattle.brk_model.specs.Lists.{total_by}
use Rattle.brk_model.specs.Rows.{nonnegative_cents_text}
use Rattle.brk_model.specs.Tables.{Tables, AccountRow, HoldingRow, CashRow, SummaryRow}
use Rattle.brk_model.specs.Joins.{last_price_in_tables}
use Rattle.brk_model.specs.Statement.{left_aligned_text, right_aligned_text, sorted_cash_rows_of_account, cash_move_rows_within_days, lot_line}
use Rattle.brk_model.specs.Statement.{holding_rows_of_account}
use Rattle.brk_model_explain.specs.Texts.{amount_column, labeled_number, timestamp_text, labeled_amount, labeled_text}
use Rattle.brk_model_explain.specs.Running.{lines_with_running_total}

-- The first lines of the explanation of the account `a`: the title with its id, its name, customer,
-- broker, tax status and opening balance, and the column headings of the cash rows.
unfoldable pub account_header_lines : AccountRow → List Text
account_header_lines a =
    (codes "Account " ++ decimal a.id ++ codes ", times in UTC")
    ∷ labeled_text (codes "Name") a.name
    ∷ labeled_number (codes "Customer") a.customer
    ∷ labeled_number (codes "Broker") a.broker
    ∷ labeled_number (codes "Tax status") (tax_status_number a.tax_status)
    ∷ labeled_amount (codes "Opening") a.opening
    ∷ codes "#      posted                       cash row         trade                 amount                balance name"
    ∷ []

-- The cash rows of `account` until 9999-12-31, included, sorted by stamp, ascending.
abbrev pub account_cash_rows_by_stamp : Tables → ℕ → List CashRow
account_cash_rows_by_stamp tables account = cash_move_rows_within_days 0 greatest_day (sorted_cash_rows_of_account tables account)

-- The optional id `trade` in decimal digits, or a hyphen if there is none.
abbrev pub trade_id_or_hyphen : Option ℕ → Text
trade_id_or_hyphen trade = option_map_or decimal trade (codes "-")

-- The line of the cash row `row`, with columns separated by spaces: `Posted`, timestamp, id, id of
-- its trade or a hyphen, amount, the balance `balance`, in cents, and name.
unfoldable pub cash_posting_line : CashRow → ℤ → Text
cash_posting_line row balance =
    left_aligned_text 6 (codes "Posted") ++ 32 ∷ timestamp_text row.stamp ++ 32 ∷ right_aligned_text 13 (decimal row.id) ++ 32
    ∷ right_aligned_text 13 (trade_id_or_hyphen row.trade)
    ++ amount_column row.amount ++ amount_column balance ++ 32 ∷ row.name

-- One line for each of `rows`, with the running balance after it, from `opening` cents on.
abbrev pub cash_posting_lines : ℤ → List CashRow → List Text
cash_posting_lines opening rows = lines_with_running_total (λ row. row.amount) cash_posting_line opening rows

-- The line of the balance of the account `a`, and the column headings of its lots and holdings.
unfoldable pub balance_and_lot_header_lines : AccountRow → List Text
balance_and_lot_header_lines a =
    labeled_amount (codes "Balance") a.balance ∷ codes "#      symbol                    lot      shares      price                  worth" ∷ []

-- The line of the lot `row`: the word `Lot`, and the line of the lot in a statement (`lot_line`).
unfoldable pub open_lot_line : HoldingRow → Text
open_lot_line row = left_aligned_text 6 (codes "Lot") ++ 32 ∷ lot_line row

-- A holding summary (a row of HOLDING_SUMMARY), and the last price of its symbol, in cents.
pub record PricedHolding : Type 0 where
  pub summary : SummaryRow
  pub price : ℕ

-- The market value of the holding `held`, in cents: its signed quantity times the last price.
abbrev pub market_value_of_holding : PricedHolding → ℤ
market_value_of_holding held = held.summary.qty *ℤ pos held.price

-- The sum of the market values of the holdings `all`, in cents.
abbrev pub market_value_of_holdings : List PricedHolding → ℤ
market_value_of_holdings all = total_by market_value_of_holding all

-- The first columns of a holding's line: `Held` in 6, `symbol` in 15, left-aligned, and 13 blanks.
unfoldable pub holding_line_start : Text → Text
holding_line_start symbol = left_aligned_text 6 (codes "Held") ++ 32 ∷ left_aligned_text 15 symbol ++ 32 ∷ right_aligned_text 13 []

-- The columns of the quantity `qty` and of the last price `price`, which is given in cents, each
-- after a space and right-aligned, in 11 and 10 places.
unfoldable pub quantity_and_price_columns : ℤ → ℕ → Text
quantity_and_price_columns qty price = 32 ∷ right_aligned_text 11 (signed_decimal qty) ++ 32 ∷ right_aligned_text 10 (nonnegative_cents_text price)

-- The line of the holding `held`: `Held`, symbol, empty column, quantity, last price, market value.
unfoldable pub holding_line : PricedHolding → Text
holding_line held =
    holding_line_start held.summary.symbol ++ quantity_and_price_columns held.summary.qty held.price ++ amount_column (market_value_of_holding held)

-- The holding summary `row` with the last price of its symbol, 0 without a LAST_TRADE row.
abbrev pub priced_holding : Tables → SummaryRow → PricedHolding
priced_holding tables row = record { summary = row; price = last_price_in_tables tables row.symbol }

-- The `priced_holding` of each summary of `account`, in the order of the table HOLDING_SUMMARY.
abbrev pub priced_holdings_of_account : Tables → ℕ → List PricedHolding
priced_holdings_of_account tables account = map (priced_holding tables) (filter (λ row. row.account == account) tables.summaries)

-- The last line: the numbers of the account's cash rows (`cash`), lots and symbols.
abbrev pub account_counts_line : ℕ → ℕ → ℕ → Text
account_counts_line cash lots symbols = codes "Cash rows " ++ decimal cash ++ codes ", lots " ++ decimal lots ++ codes ", symbols " ++ decimal symbols

-- The last lines of the explanation of an account, from its balance and the market value
-- `holdings`, in cents: the market value, the assets (their sum), and `account_counts_line`.
unfoldable pub account_total_lines : ℤ → ℤ → ℕ → ℕ → ℕ → List Text
account_total_lines balance holdings cash lots symbols =
    labeled_amount (codes "Holdings") holdings
    ∷ labeled_amount (codes "Assets") (balance +ℤ holdings)
    ∷ account_counts_line cash lots symbols
    ∷ []

-- A line for each of the holdings `held` of the account `a`, then the last lines, with the numbers
-- of its cash rows (`cash`), its lots (`lots`) and its symbols, one for each of `held`.
abbrev pub holding_and_total_lines : AccountRow → List PricedHolding → ℕ → ℕ → List Text
holding_and_total_lines a held cash lots = map holding_line held ++ account_total_lines a.balance (market_value_of_holdings held) cash lots (length held)

-- The explanation of the account `a`: first lines, cash rows with the balance after each, balance,
-- lots by symbol, then by stamp, holdings in the order of HOLDING_SUMMARY, and last lines.
unfoldable pub account_explanation_lines : Tables → AccountRow → List Text
account_explanation_lines tables a =
    account_header_lines a
    ++ cash_posting_lines a.opening (account_cash_rows_by_stamp tables a.id)
    ++ balance_and_lot_header_lines a
    ++ map open_lot_line (holding_rows_of_account tables a.id)
    ++ holding_and_total_lines a (priced_holdings_of_account tables a.id) (length (account_cash_rows_by_stamp tables a.id))
    (length (holding_rows_of_account tables a.id))
