-- Written by tools/generate/tables.py.
-- The model's tables with the values of a desk's typed rows.
use Rattle.std.specs.Prelude.{map}
use Rattle.brk_model.specs.Tables.{Tables}
use Rattle.brk_ref.specs.Records.{kept_row_with_empty_texts}
use Rattle.brk_ref.specs.Records.{abstract_broker_row, abstract_customer, abstract_account_row, abstract_permission, abstract_security_row}
use Rattle.brk_ref.specs.Records.{abstract_last_trade_row, abstract_charge, abstract_band, abstract_tax_rate, abstract_customer_tax}
use Rattle.brk_ref.specs.Rows.{abstract_trade_row, abstract_history_row, abstract_request_row, abstract_holding_row, abstract_summary_row}
use Rattle.brk_ref.specs.Rows.{abstract_lot_change_row, abstract_settlement_row, abstract_old_cash_row, abstract_cash_row}
use Rattle.brk_trade_rows.specs.declared.sheets.Sheets.{Sheets}

-- The model's tables with the values of the typed rows `s`. The rows of KEPT have empty texts.
abbrev pub abstract_sheets : Sheets → Tables
abstract_sheets s = record {
  last = s.last;
  kept = map kept_row_with_empty_texts s.kept.items;
  brokers = map abstract_broker_row s.brokers.items;
  customers = map abstract_customer s.customers.items;
  accounts = map abstract_account_row s.accounts.items;
  permissions = map abstract_permission s.permissions.items;
  securities = map abstract_security_row s.securities.items;
  last_trades = map abstract_last_trade_row s.last_trades.items;
  charges = map abstract_charge s.charges.items;
  bands = map abstract_band s.bands.items;
  tax_rates = map abstract_tax_rate s.tax_rates.items;
  customer_taxes = map abstract_customer_tax s.customer_taxes.items;
  trades = map abstract_trade_row s.trades.items;
  history = map abstract_history_row s.history.items;
  requests = map abstract_request_row s.requests.items;
  holdings = map abstract_holding_row s.holdings.items;
  summaries = map abstract_summary_row s.summaries.items;
  holding_history = map abstract_lot_change_row s.holding_history.items;
  settlements = map abstract_settlement_row s.settlements.items;
  cash = map abstract_old_cash_row s.cash.items;
  moves = map abstract_cash_row s.moves.items;
  rule = s.rule;
}
