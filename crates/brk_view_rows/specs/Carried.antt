-- The typed rows that a view has, in addition to the texts that it shows.
use Rattle.std.specs.Prelude.{◌≡◌, ◌&&◌, ◌==◌, ℕ, Bool, List, Option, bytes_eq, filter, map, take}
use Rattle.brk_ref.specs.Rows.{abstract_trade_row}
use Rattle.brk_model.specs.Joins.{trade_rows_oldest_first, trade_rows_recent_first, trade_rows_of_account}
use Rattle.brk_model.specs.Lists.{contains_number}
use Rattle.brk_model.specs.LookupView.{row_stamp_is_between}
use Rattle.brk_model.specs.PositionView.{last_ten_trade_rows}
use Rattle.brk_model.specs.Queries.{Query, PositionOf, PositionOfTaxId, RecentOf, StatusOf, SubmittedTrades, EstimateOf}
use Rattle.brk_model.specs.Queries.{TradesWith, TradesOfAccount, TradesOfSymbol, LotsTouched, VolumeOf}
use Rattle.brk_model.specs.Tables.{SecurityRow, Tables, TradeRow}
use Rattle.brk_view_rows.specs.Lookup.{LookedUpRows, rows_of_looked_up_trade, table_rows_of_trade}
use Rattle.brk_view_rows.specs.Lots.{AreTouchedLots}
use Rattle.brk_view_rows.specs.Status.{rows_of_trade_status, trade_row_with_security}
use Rattle.brk_view_rows.specs.declared.view.View.{View}
use Rattle.brk_view_rows.specs.declared.view.View.TheVariants as view

-- The first twenty trades of the tables `t` that pass `test`, or all if there are fewer, sorted by
-- stamp, then by id, ascending, each with its settlements, its cash rows and its statuses.
abbrev pub first_twenty_trades_with_rows : Tables → (TradeRow → Bool) → List LookedUpRows
first_twenty_trades_with_rows t test = map (table_rows_of_trade t) (take 20 (trade_rows_oldest_first (filter test t.trades)))

-- The last fifty trades of `account` in the tables `t`, or all if it has fewer, sorted by stamp,
-- then by id, descending, each with its security, or with none if this security does not exist.
abbrev pub last_fifty_trades_with_security : Tables → ℕ → List (TradeRow × Option SecurityRow)
last_fifty_trades_with_security t account = map (trade_row_with_security t) (take 50 (trade_rows_recent_first (trade_rows_of_account t account)))

-- The view is of the kind of the query, and these rows of it equal, in order and in all columns,
-- those that the query selects from the tables `t`: recent trades; an account's trades with their
-- securities; looked-up trades with their settlements, cash rows and statuses; lot changes and the
-- id of their trade. For the values of a customer's accounts, submitted trades, estimates and
-- volumes only the kind is stated.
abbrev pub HasRowsOfQuery : Query → View → Tables → Type 0
HasRowsOfQuery (PositionOf customer) (view.Position accounts) t = Unit {0}
HasRowsOfQuery (PositionOfTaxId tax_id) (view.Position accounts) t = Unit {0}
HasRowsOfQuery (RecentOf account) (view.Recent recent) t = map abstract_trade_row recent.trades.items ≡ last_ten_trade_rows t account
HasRowsOfQuery (StatusOf account) (view.Status status) t = map rows_of_trade_status status.trades.items ≡ last_fifty_trades_with_security t account
HasRowsOfQuery SubmittedTrades (view.Submitted trades) t = Unit {0}
HasRowsOfQuery (EstimateOf order) (view.Estimate estimate) t = Unit {0}
HasRowsOfQuery (TradesWith ids) (view.Lookup trades) t =
    map rows_of_looked_up_trade trades.items ≡ first_twenty_trades_with_rows t (λ row. contains_number row.id ids)
HasRowsOfQuery (TradesOfAccount account first last) (view.Lookup trades) t =
    map rows_of_looked_up_trade trades.items ≡ first_twenty_trades_with_rows t (λ row. (row.account == account) && row_stamp_is_between first last row)
HasRowsOfQuery (TradesOfSymbol symbol first last) (view.Lookup trades) t =
    map rows_of_looked_up_trade trades.items ≡ first_twenty_trades_with_rows t (λ row. bytes_eq row.symbol symbol && row_stamp_is_between first last row)
HasRowsOfQuery (LotsTouched account first) (view.Lots lots) t = AreTouchedLots t account first lots
HasRowsOfQuery (VolumeOf sector names) (view.Volume brokers) t = Unit {0}
HasRowsOfQuery _ _ _ = ⊥
