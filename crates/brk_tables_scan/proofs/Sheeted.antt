-- Written by tools/generate/tables.py.
-- The typed rows of all tables are the sheets.
use Rattle.std.proofs.Common.{◌≡◌, ◌∙◌, List, ap, map, sym}
use Rattle.std.specs.Global.{Vec}
use Rattle.sqlite_value.specs.Order.{Row}
use Rattle.brk_ref.specs.Records.{abstract_key}
use Rattle.brk_ref.specs.declared.key.Key.{Key}
use Rattle.brk_tables_sql.proofs.Order.{map_twice}
use Rattle.brk_model.specs.Schemas.{Schema}
use Rattle.brk_ref.specs.Records.{abstract_kept_row, abstract_broker_row, abstract_customer, abstract_account_row, abstract_permission, abstract_security_row}
use Rattle.brk_ref.specs.Records.{abstract_last_trade_row, abstract_charge, abstract_band, abstract_tax_rate, abstract_customer_tax}
use Rattle.brk_ref.specs.Rows.{abstract_trade_row, abstract_history_row, abstract_request_row, abstract_holding_row, abstract_summary_row}
use Rattle.brk_ref.specs.Rows.{abstract_lot_change_row, abstract_settlement_row, abstract_old_cash_row, abstract_cash_row}
use Rattle.brk_trade_rows.specs.declared.schema.Schema as known
use Rattle.brk_trade_rows.specs.declared.sheets.Sheets.{Sheets}
use Rattle.brk_tables_schema.specs.Cells.{kept_cells, broker_cells, customer_cells, account_cells, permission_cells, security_cells, last_trade_cells}
use Rattle.brk_tables_schema.specs.Cells.{charge_cells, band_cells, tax_rate_cells, customer_tax_cells, trade_cells, history_cells, request_cells}
use Rattle.brk_tables_schema.specs.Cells.{holding_cells, summary_cells, holding_history_cells, settlement_cells, cash_cells, move_cells}
use Rattle.brk_tables_schema.specs.Desk.{DeskTable, encoded_row, rows_of_table_in_schema, TheDesk, KeptRows, Brokers, Customers, Accounts, Permissions}
use Rattle.brk_tables_schema.specs.Desk.{Securities, LastTrades, Charges, Bands, TaxRates, CustomerTaxes, Trades, TradeHistory, Requests, Holdings, Summaries}
use Rattle.brk_tables_schema.specs.Desk.{HoldingHistory, Settlements, CashRows, CashMoves, SettleRules}
use Rattle.brk_tables_scan.specs.KeptKeys.{AreKeysOfRawRows, tables_with_whole_kept_rows}
use Rattle.brk_tables_scan.specs.Decoded.{DecodesSheets, DecodesOwnerTables, DecodesListingTables, DecodesTermsTables, DecodesTradeTables, DecodesBookingTables, DecodesLaterTables}
use Rattle.brk_tables_scan.specs.Raw.{raw_rows_of_table}
use Rattle.brk_tables_scan.specs.declared.all_tables.RawSheets.{RawSheets}
use Rattle.brk_tables_scan.specs.declared.all_tables.OwnerSheets.{OwnerSheets}
use Rattle.brk_tables_scan.specs.declared.all_tables.ListingSheets.{ListingSheets}
use Rattle.brk_tables_scan.specs.declared.all_tables.TermsSheets.{TermsSheets}
use Rattle.brk_tables_scan.specs.declared.all_tables.TradeSheets.{TradeSheets}
use Rattle.brk_tables_scan.specs.declared.all_tables.BookingSheets.{BookingSheets}
use Rattle.brk_tables_scan.specs.declared.all_tables.LaterSheets.{LaterSheets}

module _ (schema : known.Schema) (o : OwnerSheets) (a : ListingSheets) (r : TermsSheets) (t : TradeSheets) (l : BookingSheets) (n : LaterSheets) where
  abbrev pub sheets : Sheets
  sheets = record {
    schema = schema;
    last = o.last;
    kept = o.kept;
    brokers = o.brokers;
    customers = o.customers;
    accounts = a.accounts;
    permissions =
        a.permissions;
    securities = a.securities;
    last_trades = a.last_trades;
    charges = r.charges;
    bands = r.bands;
    tax_rates = r.tax_rates;
    customer_taxes =
        r.customer_taxes;
    trades = t.trades;
    history = t.history;
    requests = t.requests;
    holdings = t.holdings;
    summaries = l.summaries;
    holding_history =
        l.holding_history;
    settlements = l.settlements;
    cash = l.cash;
    moves = n.moves;
    rule = n.rule;
  }

module _ (schema : known.Schema) (o : OwnerSheets) (a : ListingSheets) (r : TermsSheets) (t : TradeSheets) (l : BookingSheets) (n : LaterSheets) (desk : Schema)
    (raw : RawSheets) (is_o : DecodesOwnerTables desk o raw.owners) (is_a : DecodesListingTables a raw.listings) (is_r : DecodesTermsTables r raw.terms)
    (is_t : DecodesTradeTables t raw.trades) (is_l : DecodesBookingTables l raw.bookings) (is_n : DecodesLaterTables n raw.later)
    (kept : List Row) (keys : AreKeysOfRawRows raw.owners.kept.items kept) where
  each : (w : DeskTable) → map (encoded_row w) (rows_of_table_in_schema desk w (tables_with_whole_kept_rows keys.0 (sheets schema o a r t l n))) ≡ raw_rows_of_table kept raw w
  each TheDesk = is_o.desk
  each KeptRows = map_twice kept_cells abstract_kept_row keys.0 ∙ keys.1
  each Brokers = map_twice broker_cells abstract_broker_row o.brokers.items ∙ is_o.brokers
  each Customers = map_twice customer_cells abstract_customer o.customers.items ∙ is_o.customers
  each Accounts = map_twice account_cells abstract_account_row a.accounts.items ∙ is_a.accounts
  each Permissions = map_twice permission_cells abstract_permission a.permissions.items ∙ is_a.permissions
  each Securities = map_twice security_cells abstract_security_row a.securities.items ∙ is_a.securities
  each LastTrades = map_twice last_trade_cells abstract_last_trade_row a.last_trades.items ∙ is_a.last_trades
  each Charges = map_twice charge_cells abstract_charge r.charges.items ∙ is_r.charges
  each Bands = map_twice band_cells abstract_band r.bands.items ∙ is_r.bands
  each TaxRates = map_twice tax_rate_cells abstract_tax_rate r.tax_rates.items ∙ is_r.tax_rates
  each CustomerTaxes = map_twice customer_tax_cells abstract_customer_tax r.customer_taxes.items ∙ is_r.customer_taxes
  each Trades = map_twice trade_cells abstract_trade_row t.trades.items ∙ is_t.trades
  each TradeHistory = map_twice history_cells abstract_history_row t.history.items ∙ is_t.history
  each Requests = map_twice request_cells abstract_request_row t.requests.items ∙ is_t.requests
  each Holdings = map_twice holding_cells abstract_holding_row t.holdings.items ∙ is_t.holdings
  each Summaries = map_twice summary_cells abstract_summary_row l.summaries.items ∙ is_l.summaries
  each HoldingHistory = map_twice holding_history_cells abstract_lot_change_row l.holding_history.items ∙ is_l.holding_history
  each Settlements = map_twice settlement_cells abstract_settlement_row l.settlements.items ∙ is_l.settlements
  each CashRows = map_twice cash_cells abstract_old_cash_row l.cash.items ∙ is_l.cash
  each CashMoves = map_twice move_cells abstract_cash_row n.moves.items ∙ is_n.moves
  each SettleRules = is_n.rule

  pub are_sheets : DecodesSheets desk kept (sheets schema o a r t l n) raw
  are_sheets = record { whole = keys.0; keys = keys.2 ∙ ap (λ (k : Vec Key). map abstract_key k.items) (sym is_o.kept); encoded = each }
