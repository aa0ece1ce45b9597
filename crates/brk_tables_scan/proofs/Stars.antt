-- Written by tools/generate/tables.py: the columns of a table, from preparing a statement that selects all of them.
use Rattle.std.proofs.Common.{◌≡◌, ℕ, codes, map, Some, Ok, refl, slice_get}
use Rattle.sqlite_schema.specs.declared.schema.Schema.{Schema}
use Rattle.sqlite_schema.specs.declared.schema.Table.{Table}
use Rattle.sqlite_schema.specs.Names.{table_named}
use Rattle.sqlite_resolve.specs.declared.compiled.Compiled.{Compiled}
use Rattle.sqlite.specs.Listing.{listing_schema, understood}
use Rattle.sqlite.specs.Steps.{column_names}
use Rattle.sqlite_tied.specs.Compute.{everything}
use Rattle.brk_tables_sql.proofs.Stars.{shown_columns}
use Rattle.brk_tables_sql.proofs.Texts.{read}
use Rattle.brk_tables_schema.specs.Desk.{DeskTable, TheDesk, KeptRows, Brokers, Customers, Accounts, Permissions, Securities, LastTrades, Charges, Bands}
use Rattle.brk_tables_schema.specs.Desk.{TaxRates, CustomerTaxes, Trades, TradeHistory, Requests, Holdings, Summaries, HoldingHistory, Settlements, CashRows}
use Rattle.brk_tables_schema.specs.Desk.{CashMoves, SettleRules, table_definition_at_tree}
use Rattle.brk_tables_scan.specs.Headings.{select_all_text}

pub columns_told : (w : DeskTable) (schema : Schema) (at : ℕ) (table : Table) → table_named schema (table_definition_at_tree w 0).name ≡ Some at → slice_get schema.tables at ≡ Some table
    → (c : Compiled) → understood schema (select_all_text w) ≡ Ok c → column_names c ≡ map (λ c. c.name) table.columns
unfolding everything listing_schema
columns_told TheDesk = shown_columns (select_all_text TheDesk) (read (select_all_text TheDesk)) (codes "DESK") refl refl refl refl
columns_told KeptRows = shown_columns (select_all_text KeptRows) (read (select_all_text KeptRows)) (codes "KEPT") refl refl refl refl
columns_told Brokers = shown_columns (select_all_text Brokers) (read (select_all_text Brokers)) (codes "BROKER") refl refl refl refl
columns_told Customers = shown_columns (select_all_text Customers) (read (select_all_text Customers)) (codes "CUSTOMER") refl refl refl refl
columns_told Accounts = shown_columns (select_all_text Accounts) (read (select_all_text Accounts)) (codes "CUSTOMER_ACCOUNT") refl refl refl refl
columns_told Permissions = shown_columns (select_all_text Permissions) (read (select_all_text Permissions)) (codes "ACCOUNT_PERMISSION") refl refl refl refl
columns_told Securities = shown_columns (select_all_text Securities) (read (select_all_text Securities)) (codes "SECURITY") refl refl refl refl
columns_told LastTrades = shown_columns (select_all_text LastTrades) (read (select_all_text LastTrades)) (codes "LAST_TRADE") refl refl refl refl
columns_told Charges = shown_columns (select_all_text Charges) (read (select_all_text Charges)) (codes "CHARGE") refl refl refl refl
columns_told Bands = shown_columns (select_all_text Bands) (read (select_all_text Bands)) (codes "COMMISSION_RATE") refl refl refl refl
columns_told TaxRates = shown_columns (select_all_text TaxRates) (read (select_all_text TaxRates)) (codes "TAXRATE") refl refl refl refl
columns_told CustomerTaxes = shown_columns (select_all_text CustomerTaxes) (read (select_all_text CustomerTaxes)) (codes "CUSTOMER_TAXRATE") refl refl refl refl
columns_told Trades = shown_columns (select_all_text Trades) (read (select_all_text Trades)) (codes "TRADE") refl refl refl refl
columns_told TradeHistory = shown_columns (select_all_text TradeHistory) (read (select_all_text TradeHistory)) (codes "TRADE_HISTORY") refl refl refl refl
columns_told Requests = shown_columns (select_all_text Requests) (read (select_all_text Requests)) (codes "TRADE_REQUEST") refl refl refl refl
columns_told Holdings = shown_columns (select_all_text Holdings) (read (select_all_text Holdings)) (codes "HOLDING") refl refl refl refl
columns_told Summaries = shown_columns (select_all_text Summaries) (read (select_all_text Summaries)) (codes "HOLDING_SUMMARY") refl refl refl refl
columns_told HoldingHistory = shown_columns (select_all_text HoldingHistory) (read (select_all_text HoldingHistory)) (codes "HOLDING_HISTORY") refl refl refl refl
columns_told Settlements = shown_columns (select_all_text Settlements) (read (select_all_text Settlements)) (codes "SETTLEMENT") refl refl refl refl
columns_told CashRows = shown_columns (select_all_text CashRows) (read (select_all_text CashRows)) (codes "CASH_TRANSACTION") refl refl refl refl
columns_told CashMoves = shown_columns (select_all_text CashMoves) (read (select_all_text CashMoves)) (codes "CASH_MOVE") refl refl refl refl
columns_told SettleRules = shown_columns (select_all_text SettleRules) (read (select_all_text SettleRules)) (codes "SETTLE_RULE") refl refl refl refl
