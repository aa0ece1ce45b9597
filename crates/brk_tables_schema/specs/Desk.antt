-- Written by tools/generate/tables.py: the tables of a desk, and the list of rows that each holds.
use Rattle.std.specs.Prelude.{◌≡◌, ℕ, Bool, true, List, [], ◌∷◌, Option, Some, None, filter, not, refl}
use Rattle.std.specs.declared.cmp.Ordering.{Ordering}
use Rattle.sqlite_value.specs.Order.{Row}
use Rattle.sqlite_schema.specs.declared.schema.Table.{Table}
use Rattle.brk_model.specs.Records.{Customer, Permission, Charge, Band, TaxRate, CustomerTax, Kept}
use Rattle.brk_model.specs.Schemas.{Schema, third_schema}
use Rattle.brk_model.specs.Tables.{Tables, BrokerRow, AccountRow, SecurityRow, LastTradeRow, TradeRow, HistoryRow, RequestRow, HoldingRow, SummaryRow}
use Rattle.brk_model.specs.Tables.{HoldingHistoryRow, SettlementRow, OldCashRow, CashRow}
use Rattle.brk_model.specs.Keys.{KeyPart, number, kept_key, broker_key, customer_key, account_key, permission_key, security_key, last_trade_key}
use Rattle.brk_model.specs.Keys.{charge_key, band_key, tax_rate_key, customer_tax_key, trade_key, history_key, request_key, holding_key, summary_key}
use Rattle.brk_model.specs.Keys.{holding_history_key, settlement_key, cash_transaction_key, cash_move_key}
use Rattle.brk_tables_sql.specs.Desk.{ProgramTables}
use Rattle.brk_tables_schema.specs.Shapes.{desk_row_table, kept_table, broker_table, customer_table, account_table, permission_table, security_table}
use Rattle.brk_tables_schema.specs.Shapes.{last_trade_table, charge_table, band_table, tax_rate_table, customer_tax_table, trade_table}
use Rattle.brk_tables_schema.specs.Shapes.{trade_history_table, request_table, holding_table, summary_table, holding_history_table, settlement_table}
use Rattle.brk_tables_schema.specs.Shapes.{cash_transaction_table, cash_move_table, settle_rule_table}
use Rattle.brk_tables_schema.specs.Cells.{DeskRow, RuleRow, desk_row_cells, kept_cells, broker_cells, customer_cells, account_cells, permission_cells}
use Rattle.brk_tables_schema.specs.Cells.{security_cells, last_trade_cells, charge_cells, band_cells, tax_rate_cells, customer_tax_cells, trade_cells}
use Rattle.brk_tables_schema.specs.Cells.{history_cells, request_cells, holding_cells, summary_cells, holding_history_cells, settlement_cells}
use Rattle.brk_tables_schema.specs.Cells.{cash_cells, move_cells, rule_cells}
use Rattle.brk_tables_schema.specs.Order.{ordering_by_key}

-- The tables that a desk may have. Schema 3 has all of them; `schema_has_table` tells which ones a
-- schema has, and `table_name` is the SQL name of each.
pub data DeskTable : Type 0 where
  TheDesk : DeskTable
  KeptRows : DeskTable
  Brokers : DeskTable
  Customers : DeskTable
  Accounts : DeskTable
  Permissions : DeskTable
  Securities : DeskTable
  LastTrades : DeskTable
  Charges : DeskTable
  Bands : DeskTable
  TaxRates : DeskTable
  CustomerTaxes : DeskTable
  Trades : DeskTable
  TradeHistory : DeskTable
  Requests : DeskTable
  Holdings : DeskTable
  Summaries : DeskTable
  HoldingHistory : DeskTable
  Settlements : DeskTable
  CashRows : DeskTable
  CashMoves : DeskTable
  SettleRules : DeskTable

-- The rows of DESK in the schema `schema`: exactly one, with the id 1, the number of the schema,
-- and `last`, the stamp of the last accepted command in milliseconds since 1970-01-01 UTC, or
-- `None` if there is none.
abbrev pub desk_rows : Schema → Option ℕ → List DeskRow
desk_rows schema last = record { id = 1; schema = schema.number; last = last } ∷ []

-- The primary key of a row of DESK: its id (D_ID).
abbrev pub desk_key : DeskRow → List KeyPart
desk_key r = number r.id ∷ []

-- The rows of SETTLE_RULE: one row with the id 1 and the first day of one-day settlement, in days
-- since 1970-01-01, or no row if the parameter is `None`, since this day is not set.
abbrev pub rule_rows : Option ℕ → List RuleRow
rule_rows None = []
rule_rows (Some day) = record { id = 1; day = day } ∷ []

-- The primary key of a row of SETTLE_RULE: its id (SR_ID).
abbrev pub rule_key : RuleRow → List KeyPart
rule_key r = number r.id ∷ []

-- True if the schema `schema` has the table. For CASH_MOVE and SETTLE_RULE a field of `schema`
-- decides; every schema has all other tables.
abbrev pub schema_has_table : Schema → DeskTable → Bool
schema_has_table schema CashMoves = schema.has_cash_move_table
schema_has_table schema SettleRules = schema.has_settle_rule_table
schema_has_table schema w = true

-- The definition of the table `w` of a desk, with its rows at the given tree.
abbrev pub table_definition_at_tree : DeskTable → ℕ → Table
table_definition_at_tree TheDesk = desk_row_table
table_definition_at_tree KeptRows = kept_table
table_definition_at_tree Brokers = broker_table
table_definition_at_tree Customers = customer_table
table_definition_at_tree Accounts = account_table
table_definition_at_tree Permissions = permission_table
table_definition_at_tree Securities = security_table
table_definition_at_tree LastTrades = last_trade_table
table_definition_at_tree Charges = charge_table
table_definition_at_tree Bands = band_table
table_definition_at_tree TaxRates = tax_rate_table
table_definition_at_tree CustomerTaxes = customer_tax_table
table_definition_at_tree Trades = trade_table
table_definition_at_tree TradeHistory = trade_history_table
table_definition_at_tree Requests = request_table
table_definition_at_tree Holdings = holding_table
table_definition_at_tree Summaries = summary_table
table_definition_at_tree HoldingHistory = holding_history_table
table_definition_at_tree Settlements = settlement_table
table_definition_at_tree CashRows = cash_transaction_table
table_definition_at_tree CashMoves = cash_move_table
table_definition_at_tree SettleRules = settle_rule_table

-- The definition of the table `w` with its rows at the tree `tree` has this tree.
abbrev pub table_definition_has_tree : (w : DeskTable) (tree : ℕ) → (table_definition_at_tree w tree).tree ≡ tree
table_definition_has_tree TheDesk tree = refl
table_definition_has_tree KeptRows tree = refl
table_definition_has_tree Brokers tree = refl
table_definition_has_tree Customers tree = refl
table_definition_has_tree Accounts tree = refl
table_definition_has_tree Permissions tree = refl
table_definition_has_tree Securities tree = refl
table_definition_has_tree LastTrades tree = refl
table_definition_has_tree Charges tree = refl
table_definition_has_tree Bands tree = refl
table_definition_has_tree TaxRates tree = refl
table_definition_has_tree CustomerTaxes tree = refl
table_definition_has_tree Trades tree = refl
table_definition_has_tree TradeHistory tree = refl
table_definition_has_tree Requests tree = refl
table_definition_has_tree Holdings tree = refl
table_definition_has_tree Summaries tree = refl
table_definition_has_tree HoldingHistory tree = refl
table_definition_has_tree Settlements tree = refl
table_definition_has_tree CashRows tree = refl
table_definition_has_tree CashMoves tree = refl
table_definition_has_tree SettleRules tree = refl

-- The type of the records of the table `w` of a desk.
abbrev pub RecordOfTable : DeskTable → Type 0
RecordOfTable TheDesk = DeskRow
RecordOfTable KeptRows = Kept
RecordOfTable Brokers = BrokerRow
RecordOfTable Customers = Customer
RecordOfTable Accounts = AccountRow
RecordOfTable Permissions = Permission
RecordOfTable Securities = SecurityRow
RecordOfTable LastTrades = LastTradeRow
RecordOfTable Charges = Charge
RecordOfTable Bands = Band
RecordOfTable TaxRates = TaxRate
RecordOfTable CustomerTaxes = CustomerTax
RecordOfTable Trades = TradeRow
RecordOfTable TradeHistory = HistoryRow
RecordOfTable Requests = RequestRow
RecordOfTable Holdings = HoldingRow
RecordOfTable Summaries = SummaryRow
RecordOfTable HoldingHistory = HoldingHistoryRow
RecordOfTable Settlements = SettlementRow
RecordOfTable CashRows = OldCashRow
RecordOfTable CashMoves = CashRow
RecordOfTable SettleRules = RuleRow

-- The SQL row that encodes a record of the table `w`: its values in the order of the columns.
abbrev pub encoded_row : (w : DeskTable) → RecordOfTable w → Row
encoded_row TheDesk = desk_row_cells
encoded_row KeptRows = kept_cells
encoded_row Brokers = broker_cells
encoded_row Customers = customer_cells
encoded_row Accounts = account_cells
encoded_row Permissions = permission_cells
encoded_row Securities = security_cells
encoded_row LastTrades = last_trade_cells
encoded_row Charges = charge_cells
encoded_row Bands = band_cells
encoded_row TaxRates = tax_rate_cells
encoded_row CustomerTaxes = customer_tax_cells
encoded_row Trades = trade_cells
encoded_row TradeHistory = history_cells
encoded_row Requests = request_cells
encoded_row Holdings = holding_cells
encoded_row Summaries = summary_cells
encoded_row HoldingHistory = holding_history_cells
encoded_row Settlements = settlement_cells
encoded_row CashRows = cash_cells
encoded_row CashMoves = move_cells
encoded_row SettleRules = rule_cells

-- The primary key of a record of the table `w`: its parts, in the order of the key's columns.
abbrev pub primary_key_of_record : (w : DeskTable) → RecordOfTable w → List KeyPart
primary_key_of_record TheDesk = desk_key
primary_key_of_record KeptRows = kept_key
primary_key_of_record Brokers = broker_key
primary_key_of_record Customers = customer_key
primary_key_of_record Accounts = account_key
primary_key_of_record Permissions = permission_key
primary_key_of_record Securities = security_key
primary_key_of_record LastTrades = last_trade_key
primary_key_of_record Charges = charge_key
primary_key_of_record Bands = band_key
primary_key_of_record TaxRates = tax_rate_key
primary_key_of_record CustomerTaxes = customer_tax_key
primary_key_of_record Trades = trade_key
primary_key_of_record TradeHistory = history_key
primary_key_of_record Requests = request_key
primary_key_of_record Holdings = holding_key
primary_key_of_record Summaries = summary_key
primary_key_of_record HoldingHistory = holding_history_key
primary_key_of_record Settlements = settlement_key
primary_key_of_record CashRows = cash_transaction_key
primary_key_of_record CashMoves = cash_move_key
primary_key_of_record SettleRules = rule_key

-- The ordering of two records of the table `w` by their primary keys, part by part.
abbrev pub ordering_by_primary_key : (w : DeskTable) → RecordOfTable w → RecordOfTable w → Ordering
ordering_by_primary_key w = ordering_by_key (primary_key_of_record w)

-- The records of the table `w` of a desk with the tables `t`; that of DESK depends on the schema.
abbrev pub rows_of_table_in_schema : Schema → (w : DeskTable) → Tables → List (RecordOfTable w)
rows_of_table_in_schema schema TheDesk t = desk_rows schema t.last
rows_of_table_in_schema schema KeptRows t = t.kept
rows_of_table_in_schema schema Brokers t = t.brokers
rows_of_table_in_schema schema Customers t = t.customers
rows_of_table_in_schema schema Accounts t = t.accounts
rows_of_table_in_schema schema Permissions t = t.permissions
rows_of_table_in_schema schema Securities t = t.securities
rows_of_table_in_schema schema LastTrades t = t.last_trades
rows_of_table_in_schema schema Charges t = t.charges
rows_of_table_in_schema schema Bands t = t.bands
rows_of_table_in_schema schema TaxRates t = t.tax_rates
rows_of_table_in_schema schema CustomerTaxes t = t.customer_taxes
rows_of_table_in_schema schema Trades t = t.trades
rows_of_table_in_schema schema TradeHistory t = t.history
rows_of_table_in_schema schema Requests t = t.requests
rows_of_table_in_schema schema Holdings t = t.holdings
rows_of_table_in_schema schema Summaries t = t.summaries
rows_of_table_in_schema schema HoldingHistory t = t.holding_history
rows_of_table_in_schema schema Settlements t = t.settlements
rows_of_table_in_schema schema CashRows t = t.cash
rows_of_table_in_schema schema CashMoves t = t.moves
rows_of_table_in_schema schema SettleRules t = rule_rows t.rule

-- The records of the table `w` of a desk in schema 3 with the tables `t`.
abbrev pub rows_of_table : (w : DeskTable) → Tables → List (RecordOfTable w)
rows_of_table = rows_of_table_in_schema third_schema

-- All tables of a desk, also those that `schema` lacks, as the tables of a program.
abbrev pub desk_tables_of_schema : Schema → ProgramTables DeskTable Tables
desk_tables_of_schema schema = record {
  shape = table_definition_at_tree;
  placed = table_definition_has_tree;
  Item = RecordOfTable;
  encode = encoded_row;
  order = ordering_by_primary_key;
  list = rows_of_table_in_schema schema;
}

-- All tables of a desk in schema 3 as the tables of a program.
abbrev pub desk_tables : ProgramTables DeskTable Tables
desk_tables = desk_tables_of_schema third_schema

-- The list of all tables of a desk, which are the tables of schema 3.
abbrev pub all_tables : List DeskTable
all_tables =
    TheDesk ∷ KeptRows ∷ Brokers ∷ Customers ∷ Accounts ∷ Permissions ∷ Securities ∷ LastTrades ∷ Charges ∷ Bands ∷ TaxRates ∷ CustomerTaxes ∷ Trades
    ∷ TradeHistory ∷ Requests ∷ Holdings ∷ Summaries ∷ HoldingHistory ∷ Settlements ∷ CashRows ∷ CashMoves ∷ SettleRules ∷ []

-- The list of the tables that the schema `schema` has, in the order of `all_tables`.
abbrev pub tables_in_schema : Schema → List DeskTable
tables_in_schema schema = filter (schema_has_table schema) all_tables

-- The list of the tables that the schema `schema` does not have, in the order of `all_tables`.
abbrev pub tables_of_later_schemas : Schema → List DeskTable
tables_of_later_schemas schema = filter (λ w. not (schema_has_table schema w)) all_tables

-- The SQL name of the table `w`, in ASCII.
abbrev pub table_name : DeskTable → List ℕ
table_name w = (table_definition_at_tree w 0).name
