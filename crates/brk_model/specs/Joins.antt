-- Lookups in the tables by symbol, trade or account, and rows of TRADE sorted by stamp.
use Rattle.std.specs.Prelude.{ℕ, Bool, false, ◌==◌, List, filter, find, Option, bytes_eq}
use Rattle.std.specs.Option.{option_map_or}
use Rattle.brk_money.specs.Spelling.{Text}
use Rattle.brk_model.specs.Lists.{sort_by, is_pair_less}
use Rattle.brk_model.specs.Tables.{Tables, AccountRow, SecurityRow, TradeRow, HistoryRow, CashRow}

-- The price, in cents, of the first LAST_TRADE row with the symbol `symbol`, or 0.
abbrev pub last_price_in_tables : Tables → Text → ℕ
last_price_in_tables tables symbol = option_map_or (λ row. row.price) (find (λ row. bytes_eq row.symbol symbol) tables.last_trades) 0

-- The first SECURITY row with the symbol `symbol`, in the sequence of the table, or none.
abbrev pub security_row_with_symbol : Tables → Text → Option SecurityRow
security_row_with_symbol tables symbol = find (λ row. bytes_eq row.symbol symbol) tables.securities

-- The first TRADE row with the id `id`, in the sequence of the table, or none.
abbrev pub trade_row_with_id : Tables → ℕ → Option TradeRow
trade_row_with_id tables id = find (λ row. row.id == id) tables.trades

-- The first CUSTOMER_ACCOUNT row with the id `id`, in the sequence of the table, or none.
abbrev pub account_row_with_id : Tables → ℕ → Option AccountRow
account_row_with_id tables id = find (λ row. row.id == id) tables.accounts

-- True if the optional trade id `id` is present and equals `trade`.
abbrev pub is_id_of_trade : ℕ → Option ℕ → Bool
is_id_of_trade trade id = option_map_or (λ n. n == trade) id false

-- The TRADE rows of the account `account`, in the sequence of the table.
abbrev pub trade_rows_of_account : Tables → ℕ → List TradeRow
trade_rows_of_account tables account = filter (λ row. row.account == account) tables.trades

-- The CASH_MOVE rows of the account `account`, in the sequence of the table.
abbrev pub cash_move_rows_of_account : Tables → ℕ → List CashRow
cash_move_rows_of_account tables account = filter (λ row. row.account == account) tables.moves

-- The TRADE_HISTORY rows of the trade with the id `trade`, in the sequence of the table.
abbrev pub history_rows_with_trade_id : Tables → ℕ → List HistoryRow
history_rows_with_trade_id tables trade = filter (λ row. row.trade == trade) tables.history

-- The TRADE rows, sorted by T_DTS, then by T_ID, both descending.
abbrev pub trade_rows_recent_first : List TradeRow → List TradeRow
trade_rows_recent_first rows = sort_by (λ a b. is_pair_less b.stamp a.stamp b.id a.id) rows

-- The TRADE rows, sorted by T_DTS, then by T_ID, both ascending.
abbrev pub trade_rows_oldest_first : List TradeRow → List TradeRow
trade_rows_oldest_first rows = sort_by (λ a b. is_pair_less a.stamp b.stamp a.id b.id) rows
