-- Written by tools/generate/tables.py.
-- The raw rows of all tables, as the reads return them: SQL values that are not yet decoded. Of KEPT
-- the code keeps the keys alone, so its raw rows stand beside those of the other tables.
use Rattle.std.specs.Prelude.{◌≡◌, List, IsTrue}
use Rattle.sqlite_value.specs.Order.{Row}
use Rattle.sqlite.specs.State.{State}
use Rattle.brk_tables_schema.specs.Desk.{DeskTable, TheDesk, KeptRows, Brokers, Customers, Accounts, Permissions, Securities, LastTrades, Charges}
use Rattle.brk_tables_schema.specs.Desk.{Bands, TaxRates, CustomerTaxes, Trades, TradeHistory, Requests, Holdings, Summaries, HoldingHistory}
use Rattle.brk_tables_schema.specs.Desk.{Settlements, CashRows, CashMoves, SettleRules}
use Rattle.brk_model.specs.Schemas.{Schema}
use Rattle.brk_tables_scan.specs.Whole.{ShowsAllRows, ShowsRowsIfInSchema}
use Rattle.brk_tables_scan.specs.declared.all_tables.RawSheets.{RawSheets}
use Rattle.brk_tables_scan.specs.declared.all_tables.ListingRows.{ListingRows}
use Rattle.brk_tables_scan.specs.declared.all_tables.TermsRows.{TermsRows}
use Rattle.brk_tables_scan.specs.declared.all_tables.TradeRows.{TradeRows}
use Rattle.brk_tables_scan.specs.declared.all_tables.BookingRows.{BookingRows}
use Rattle.brk_tables_scan.specs.declared.all_tables.LaterRows.{LaterRows}

-- The database was open in the state `old`, and its contents are unchanged in `new`.
abbrev pub IsUnchangedAndOpen : State → State → Type 0
IsUnchangedAndOpen old new = IsTrue old.is_open × (new.now ≡ old.now)

-- The database was open, and the reads changed nothing. The lists `a`, `b`, `c` and `d` are all
-- rows of the tables `first`, `second`, `third` and `fourth` (`ShowsAllRows`).
pub record ShowsFourTables (first second third fourth : DeskTable) (a b c d : List Row) (old new : State) : Type 0 where
  pub stays : IsUnchangedAndOpen old new
  pub one : ShowsAllRows first a old.now
  pub two : ShowsAllRows second b old.now
  pub three : ShowsAllRows third c old.now
  pub four : ShowsAllRows fourth d old.now

-- `ShowsFourTables` of the raw rows of CUSTOMER_ACCOUNT, ACCOUNT_PERMISSION, SECURITY and
-- LAST_TRADE.
abbrev pub ShowsListingTables : ListingRows → State → State → Type 0
ShowsListingTables raw = ShowsFourTables Accounts Permissions Securities LastTrades raw.accounts.items raw.permissions.items raw.securities.items raw.last_trades.items

-- `ShowsFourTables` of the raw rows of CHARGE, COMMISSION_RATE, TAXRATE and CUSTOMER_TAXRATE.
abbrev pub ShowsTermsTables : TermsRows → State → State → Type 0
ShowsTermsTables raw = ShowsFourTables Charges Bands TaxRates CustomerTaxes raw.charges.items raw.bands.items raw.tax_rates.items raw.customer_taxes.items

-- `ShowsFourTables` of the raw rows of TRADE, TRADE_HISTORY, TRADE_REQUEST and HOLDING.
abbrev pub ShowsTradeTables : TradeRows → State → State → Type 0
ShowsTradeTables raw = ShowsFourTables Trades TradeHistory Requests Holdings raw.trades.items raw.history.items raw.requests.items raw.holdings.items

-- `ShowsFourTables` of the raw rows of HOLDING_SUMMARY, HOLDING_HISTORY, SETTLEMENT and
-- CASH_TRANSACTION.
abbrev pub ShowsBookingTables : BookingRows → State → State → Type 0
ShowsBookingTables raw = ShowsFourTables Summaries HoldingHistory Settlements CashRows raw.summaries.items raw.holding_history.items raw.settlements.items raw.cash.items

-- The reads changed nothing. The lists `a` and `b` are all rows of CASH_MOVE and SETTLE_RULE, or
-- none of a table that the schema `desk` does not have (`ShowsRowsIfInSchema`).
pub record ShowsTwoLaterTables (desk : Schema) (a b : List Row) (old new : State) : Type 0 where
  pub same : new.now ≡ old.now
  pub moves : ShowsRowsIfInSchema desk CashMoves a old.now
  pub rule : ShowsRowsIfInSchema desk SettleRules b old.now

-- `ShowsTwoLaterTables` of the raw rows of CASH_MOVE and SETTLE_RULE.
abbrev pub ShowsLaterTables : Schema → LaterRows → State → State → Type 0
ShowsLaterTables desk raw = ShowsTwoLaterTables desk raw.moves.items raw.rule.items

-- The raw rows of one table: `kept` of KEPT, and those in `raw` of the others.
abbrev pub raw_rows_of_table : List Row → RawSheets → DeskTable → List Row
raw_rows_of_table kept raw TheDesk = raw.owners.desk.items
raw_rows_of_table kept raw KeptRows = kept
raw_rows_of_table kept raw Brokers = raw.owners.brokers.items
raw_rows_of_table kept raw Customers = raw.owners.customers.items
raw_rows_of_table kept raw Accounts = raw.listings.accounts.items
raw_rows_of_table kept raw Permissions = raw.listings.permissions.items
raw_rows_of_table kept raw Securities = raw.listings.securities.items
raw_rows_of_table kept raw LastTrades = raw.listings.last_trades.items
raw_rows_of_table kept raw Charges = raw.terms.charges.items
raw_rows_of_table kept raw Bands = raw.terms.bands.items
raw_rows_of_table kept raw TaxRates = raw.terms.tax_rates.items
raw_rows_of_table kept raw CustomerTaxes = raw.terms.customer_taxes.items
raw_rows_of_table kept raw Trades = raw.trades.trades.items
raw_rows_of_table kept raw TradeHistory = raw.trades.history.items
raw_rows_of_table kept raw Requests = raw.trades.requests.items
raw_rows_of_table kept raw Holdings = raw.trades.holdings.items
raw_rows_of_table kept raw Summaries = raw.bookings.summaries.items
raw_rows_of_table kept raw HoldingHistory = raw.bookings.holding_history.items
raw_rows_of_table kept raw Settlements = raw.bookings.settlements.items
raw_rows_of_table kept raw CashRows = raw.bookings.cash.items
raw_rows_of_table kept raw CashMoves = raw.later.moves.items
raw_rows_of_table kept raw SettleRules = raw.later.rule.items

-- The database was open, and the reads changed nothing. The raw rows are all rows of each table of
-- the schema `desk`, and none of other tables (`ShowsRowsIfInSchema`).
pub record ShowsAllTables (desk : Schema) (kept : List Row) (raw : RawSheets) (a b : State) : Type 0 where
  pub stays : IsUnchangedAndOpen a b
  pub shown : (w : DeskTable) → ShowsRowsIfInSchema desk w (raw_rows_of_table kept raw w) a.now
