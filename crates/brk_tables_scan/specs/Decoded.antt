-- Written by tools/generate/tables.py.
-- The decoding of the raw rows of all tables into typed rows, and the test that each raw row is
-- well-formed.
use Rattle.std.specs.Prelude.{◌≡◌, ◌⊎◌, Bool, true, false, ◌&&◌, List, map}
use Rattle.std.specs.List.{list_all}
use Rattle.sqlite_value.specs.Order.{Row}
use Rattle.sqlite.specs.State.{State}
use Rattle.brk_model.specs.Schemas.{Schema}
use Rattle.brk_ref.specs.Records.{abstract_broker_row, abstract_customer, abstract_account_row, abstract_permission, abstract_security_row}
use Rattle.brk_ref.specs.Records.{abstract_last_trade_row, abstract_charge, abstract_band, abstract_tax_rate, abstract_customer_tax}
use Rattle.brk_ref.specs.Rows.{abstract_trade_row, abstract_history_row, abstract_request_row, abstract_holding_row, abstract_summary_row}
use Rattle.brk_ref.specs.Rows.{abstract_lot_change_row, abstract_settlement_row, abstract_old_cash_row, abstract_cash_row}
use Rattle.brk_ref.specs.Records.{abstract_key}
use Rattle.brk_ref.specs.declared.key.Kept as typed
use Rattle.brk_trade_rows.specs.declared.sheets.Sheets.{Sheets}
use Rattle.brk_tables_schema.specs.Cells.{desk_row_cells, broker_cells, customer_cells, account_cells, permission_cells, security_cells}
use Rattle.brk_tables_schema.specs.Cells.{last_trade_cells, charge_cells, band_cells, tax_rate_cells, customer_tax_cells, trade_cells, history_cells}
use Rattle.brk_tables_schema.specs.Cells.{request_cells, holding_cells, summary_cells, holding_history_cells, settlement_cells, cash_cells}
use Rattle.brk_tables_schema.specs.Cells.{move_cells, rule_cells}
use Rattle.brk_tables_schema.specs.Desk.{DeskTable, TheDesk, KeptRows, Brokers, Customers, desk_rows, rule_rows, encoded_row, rows_of_table_in_schema}
use Rattle.brk_tables_schema.specs.Formed.{passes_all_cell_checks, has_one_valid_desk_row, kept_column_cell_checks, broker_column_cell_checks}
use Rattle.brk_tables_schema.specs.Formed.{customer_column_cell_checks, account_column_cell_checks, permission_column_cell_checks}
use Rattle.brk_tables_schema.specs.Formed.{security_column_cell_checks, last_trade_column_cell_checks, charge_column_cell_checks}
use Rattle.brk_tables_schema.specs.Formed.{band_column_cell_checks, tax_rate_column_cell_checks, customer_tax_column_cell_checks}
use Rattle.brk_tables_schema.specs.Formed.{trade_column_cell_checks, history_column_cell_checks, request_column_cell_checks}
use Rattle.brk_tables_schema.specs.Formed.{holding_column_cell_checks, summary_column_cell_checks, holding_history_column_cell_checks}
use Rattle.brk_tables_schema.specs.Formed.{settlement_column_cell_checks, cash_column_cell_checks, move_column_cell_checks}
use Rattle.brk_tables_schema.specs.Formed.{has_at_most_one_valid_rule_row}
use Rattle.brk_tables_scan.specs.KeptKeys.{AreKeysOfRawRows, keys_of_kept_rows, tables_with_whole_kept_rows}
use Rattle.brk_tables_scan.specs.Raw.{ShowsAllTables, ShowsFourTables, raw_rows_of_table}
use Rattle.brk_tables_scan.specs.declared.all_tables.RawSheets.{RawSheets}
use Rattle.brk_tables_scan.specs.declared.all_tables.OwnerRows.{OwnerRows}
use Rattle.brk_tables_scan.specs.declared.all_tables.ListingRows.{ListingRows}
use Rattle.brk_tables_scan.specs.declared.all_tables.TermsRows.{TermsRows}
use Rattle.brk_tables_scan.specs.declared.all_tables.TradeRows.{TradeRows}
use Rattle.brk_tables_scan.specs.declared.all_tables.BookingRows.{BookingRows}
use Rattle.brk_tables_scan.specs.declared.all_tables.LaterRows.{LaterRows}
use Rattle.brk_tables_scan.specs.declared.all_tables.OwnerSheets.{OwnerSheets}
use Rattle.brk_tables_scan.specs.declared.all_tables.ListingSheets.{ListingSheets}
use Rattle.brk_tables_scan.specs.declared.all_tables.TermsSheets.{TermsSheets}
use Rattle.brk_tables_scan.specs.declared.all_tables.TradeSheets.{TradeSheets}
use Rattle.brk_tables_scan.specs.declared.all_tables.BookingSheets.{BookingSheets}
use Rattle.brk_tables_scan.specs.declared.all_tables.LaterSheets.{LaterSheets}

-- The raw rows of DESK, BROKER and CUSTOMER are, in order, the encodings of the typed rows
-- `sheets`. The keys of KEPT stay as they are. DESK has exactly one row, with the id 1 and the
-- number of `schema`.
pub record DecodesOwnerTables (schema : Schema) (sheets : OwnerSheets) (raw : OwnerRows) : Type 0 where
  pub desk : map desk_row_cells (desk_rows schema sheets.last) ≡ raw.desk.items
  pub kept : sheets.kept ≡ raw.kept
  pub brokers : map (λ r. broker_cells (abstract_broker_row r)) sheets.brokers.items ≡ raw.brokers.items
  pub customers : map (λ r. customer_cells (abstract_customer r)) sheets.customers.items ≡ raw.customers.items

-- True if each of these raw rows is well-formed (`passes_all_cell_checks`), and there is exactly
-- one row of DESK, with the number of the schema `desk`.
abbrev pub are_owner_rows_well_formed : Schema → OwnerRows → Bool
are_owner_rows_well_formed desk raw =
    has_one_valid_desk_row desk raw.desk.items && list_all (passes_all_cell_checks broker_column_cell_checks) raw.brokers.items
    && list_all (passes_all_cell_checks customer_column_cell_checks) raw.customers.items

-- The raw rows of CUSTOMER_ACCOUNT, ACCOUNT_PERMISSION, SECURITY and LAST_TRADE are, in order, the
-- encodings of the typed rows `sheets`.
pub record DecodesListingTables (sheets : ListingSheets) (raw : ListingRows) : Type 0 where
  pub accounts : map (λ r. account_cells (abstract_account_row r)) sheets.accounts.items ≡ raw.accounts.items
  pub permissions : map (λ r. permission_cells (abstract_permission r)) sheets.permissions.items ≡ raw.permissions.items
  pub securities : map (λ r. security_cells (abstract_security_row r)) sheets.securities.items ≡ raw.securities.items
  pub last_trades : map (λ r. last_trade_cells (abstract_last_trade_row r)) sheets.last_trades.items ≡ raw.last_trades.items

-- True if each of these raw rows is well-formed (`passes_all_cell_checks`).
abbrev pub are_listing_rows_well_formed : ListingRows → Bool
are_listing_rows_well_formed raw =
    list_all (passes_all_cell_checks account_column_cell_checks) raw.accounts.items
    && list_all (passes_all_cell_checks permission_column_cell_checks) raw.permissions.items
    && list_all (passes_all_cell_checks security_column_cell_checks) raw.securities.items
    && list_all (passes_all_cell_checks last_trade_column_cell_checks) raw.last_trades.items

-- The raw rows of CHARGE, COMMISSION_RATE, TAXRATE and CUSTOMER_TAXRATE are, in order, the
-- encodings of the typed rows `sheets`.
pub record DecodesTermsTables (sheets : TermsSheets) (raw : TermsRows) : Type 0 where
  pub charges : map (λ r. charge_cells (abstract_charge r)) sheets.charges.items ≡ raw.charges.items
  pub bands : map (λ r. band_cells (abstract_band r)) sheets.bands.items ≡ raw.bands.items
  pub tax_rates : map (λ r. tax_rate_cells (abstract_tax_rate r)) sheets.tax_rates.items ≡ raw.tax_rates.items
  pub customer_taxes : map (λ r. customer_tax_cells (abstract_customer_tax r)) sheets.customer_taxes.items ≡ raw.customer_taxes.items

-- True if each of these raw rows is well-formed (`passes_all_cell_checks`).
abbrev pub are_terms_rows_well_formed : TermsRows → Bool
are_terms_rows_well_formed raw =
    list_all (passes_all_cell_checks charge_column_cell_checks) raw.charges.items
    && list_all (passes_all_cell_checks band_column_cell_checks) raw.bands.items
    && list_all (passes_all_cell_checks tax_rate_column_cell_checks) raw.tax_rates.items
    && list_all (passes_all_cell_checks customer_tax_column_cell_checks) raw.customer_taxes.items

-- The raw rows of TRADE, TRADE_HISTORY, TRADE_REQUEST and HOLDING are, in order, the encodings of
-- the typed rows `sheets`.
pub record DecodesTradeTables (sheets : TradeSheets) (raw : TradeRows) : Type 0 where
  pub trades : map (λ r. trade_cells (abstract_trade_row r)) sheets.trades.items ≡ raw.trades.items
  pub history : map (λ r. history_cells (abstract_history_row r)) sheets.history.items ≡ raw.history.items
  pub requests : map (λ r. request_cells (abstract_request_row r)) sheets.requests.items ≡ raw.requests.items
  pub holdings : map (λ r. holding_cells (abstract_holding_row r)) sheets.holdings.items ≡ raw.holdings.items

-- True if each of these raw rows is well-formed (`passes_all_cell_checks`).
abbrev pub are_trade_rows_well_formed : TradeRows → Bool
are_trade_rows_well_formed raw =
    list_all (passes_all_cell_checks trade_column_cell_checks) raw.trades.items
    && list_all (passes_all_cell_checks history_column_cell_checks) raw.history.items
    && list_all (passes_all_cell_checks request_column_cell_checks) raw.requests.items
    && list_all (passes_all_cell_checks holding_column_cell_checks) raw.holdings.items

-- The raw rows of HOLDING_SUMMARY, HOLDING_HISTORY, SETTLEMENT and CASH_TRANSACTION are, in order,
-- the encodings of the typed rows `sheets`.
pub record DecodesBookingTables (sheets : BookingSheets) (raw : BookingRows) : Type 0 where
  pub summaries : map (λ r. summary_cells (abstract_summary_row r)) sheets.summaries.items ≡ raw.summaries.items
  pub holding_history : map (λ r. holding_history_cells (abstract_lot_change_row r)) sheets.holding_history.items ≡ raw.holding_history.items
  pub settlements : map (λ r. settlement_cells (abstract_settlement_row r)) sheets.settlements.items ≡ raw.settlements.items
  pub cash : map (λ r. cash_cells (abstract_old_cash_row r)) sheets.cash.items ≡ raw.cash.items

-- True if each of these raw rows is well-formed (`passes_all_cell_checks`).
abbrev pub are_booking_rows_well_formed : BookingRows → Bool
are_booking_rows_well_formed raw =
    list_all (passes_all_cell_checks summary_column_cell_checks) raw.summaries.items
    && list_all (passes_all_cell_checks holding_history_column_cell_checks) raw.holding_history.items
    && list_all (passes_all_cell_checks settlement_column_cell_checks) raw.settlements.items
    && list_all (passes_all_cell_checks cash_column_cell_checks) raw.cash.items

-- The raw rows of CASH_MOVE and SETTLE_RULE are, in order, the encodings of the typed rows
-- `sheets`. SETTLE_RULE has one row if `sheets` has a first day of one-day settlement, otherwise
-- none.
pub record DecodesLaterTables (sheets : LaterSheets) (raw : LaterRows) : Type 0 where
  pub moves : map (λ r. move_cells (abstract_cash_row r)) sheets.moves.items ≡ raw.moves.items
  pub rule : map rule_cells (rule_rows sheets.rule) ≡ raw.rule.items

-- True if each of these raw rows is well-formed (`passes_all_cell_checks`), and there is at most
-- one row of SETTLE_RULE.
abbrev pub are_later_rows_well_formed : LaterRows → Bool
are_later_rows_well_formed raw =
    list_all (passes_all_cell_checks move_column_cell_checks) raw.moves.items && has_at_most_one_valid_rule_row raw.rule.items

-- True if the raw rows of each table but KEPT are well-formed.
abbrev pub are_raw_rows_well_formed : Schema → RawSheets → Bool
are_raw_rows_well_formed desk raw =
    are_owner_rows_well_formed desk raw.owners && are_listing_rows_well_formed raw.listings && are_terms_rows_well_formed raw.terms
    && are_trade_rows_well_formed raw.trades && are_booking_rows_well_formed raw.bookings && are_later_rows_well_formed raw.later

-- True if each row of KEPT is well-formed.
abbrev pub are_kept_rows_well_formed : List Row → Bool
are_kept_rows_well_formed kept = list_all (passes_all_cell_checks kept_column_cell_checks) kept

-- True if the raw rows of each table are well-formed: `kept` of KEPT (`are_kept_rows_well_formed`),
-- and those in `raw` of the others (`are_raw_rows_well_formed`).
abbrev pub are_raw_sheets_well_formed : Schema → List Row → RawSheets → Bool
are_raw_sheets_well_formed desk kept raw = are_kept_rows_well_formed kept && are_raw_rows_well_formed desk raw

-- The raw rows of each table are, in order, the encodings of the typed rows `sheets`. Of KEPT,
-- `sheets` has the keys alone: the raw rows of KEPT are, in order, the encodings of `whole`, typed
-- rows with these keys and any texts.
pub record DecodesSheets (desk : Schema) (kept : List Row) (sheets : Sheets) (raw : RawSheets) : Type 0 where
  pub whole : List typed.Kept
  pub keys : keys_of_kept_rows whole ≡ map abstract_key sheets.kept.items
  pub encoded : (w : DeskTable) → map (encoded_row w) (rows_of_table_in_schema desk w (tables_with_whole_kept_rows whole sheets)) ≡ raw_rows_of_table kept raw w

-- The raw rows of each table but KEPT are, in order, the encodings of the typed rows `sheets`, and
-- with any rows of KEPT that have the keys in `raw` they are so of each table (`DecodesSheets`).
abbrev pub DecodesRows : Schema → Sheets → RawSheets → Type 0
DecodesRows desk sheets raw = (kept : List Row) → AreKeysOfRawRows raw.owners.kept.items kept → DecodesSheets desk kept sheets raw

-- A step of a decoding of raw rows, with a flag that is `old` before the step and `new` after it.
-- `Decodes` states that the step decodes its rows; `are_well_formed` is true if these are
-- well-formed. If `new` is true, `old` is true and `Decodes` holds. If `new` is false, `old` or
-- `are_well_formed` is false.
pub record ContinuesDecoding (old new are_well_formed : Bool) (Decodes : Type 0) : Type 0 where
  pub before : new ≡ true → old ≡ true
  pub value : new ≡ true → Decodes
  pub form : new ≡ false → (old ≡ false) ⊎ (are_well_formed ≡ false)

-- The reads, from the state `a` to the state `b`, return all rows of DESK, BROKER and CUSTOMER, and
-- the keys of `kept`, all rows of KEPT (`ShowsFourTables`). The flag is `old` before the keys are
-- decoded and `new` after it.
pub record ReadsOwnerTables (old new : Bool) (raw : OwnerRows) (a b : State) : Type 0 where
  pub kept : List Row
  pub shown : ShowsFourTables TheDesk KeptRows Brokers Customers raw.desk.items kept raw.brokers.items raw.customers.items a b
  pub keys : ContinuesDecoding old new (are_kept_rows_well_formed kept) (AreKeysOfRawRows raw.kept.items kept)

-- The reads, from the state `a` to the state `b`, return all rows of each table of the schema
-- `desk`, of KEPT the keys of the rows `kept` (`ShowsAllTables`). The flag is `old` before the keys
-- are decoded and `new` after it.
pub record ReadsRawSheets (desk : Schema) (old new : Bool) (raw : RawSheets) (a b : State) : Type 0 where
  pub kept : List Row
  pub read : ShowsAllTables desk kept raw a b
  pub keys : ContinuesDecoding old new (are_kept_rows_well_formed kept) (AreKeysOfRawRows raw.owners.kept.items kept)

-- The reads, from the state `a` to the state `b`, return all rows of each table of the schema
-- `desk` (`ShowsAllTables`), and the typed rows `sheets` are the decoded rows, but for the texts of
-- KEPT. The flag is `old` before the decoding and `new` after it.
pub record ReadsAndDecodesDeskTables (desk : Schema) (old new : Bool) (sheets : Sheets) (a b : State) : Type 0 where
  pub kept : List Row
  pub raw : RawSheets
  pub read : ShowsAllTables desk kept raw a b
  pub decoded : ContinuesDecoding old new (are_raw_sheets_well_formed desk kept raw) (DecodesSheets desk kept sheets raw)
