-- The sheets: all tables, each sorted by key, as a store reads them.
use Rattle.brk_model.specs.Base.{Base}
use Rattle.brk_model.specs.Schemas.{Schema}
use Rattle.brk_model.specs.Tables.{Tables, tables_of_base_in_schema, tables_of_base}
use Rattle.brk_model.specs.Keys.{rows_sorted_by_key, kept_key, broker_key, customer_key, account_key, permission_key, security_key, last_trade_key, charge_key}
use Rattle.brk_model.specs.Keys.{band_key, tax_rate_key, customer_tax_key, trade_key, history_key, request_key, holding_key, summary_key, holding_history_key}
use Rattle.brk_model.specs.Keys.{settlement_key, cash_transaction_key, cash_move_key}

-- The tables `t`, each sorted by key, ascending; the sort is stable.
unfoldable pub tables_sorted_by_key : Tables → Tables
tables_sorted_by_key t = record {
  last = t.last;
  kept = rows_sorted_by_key kept_key t.kept;
  brokers = rows_sorted_by_key broker_key t.brokers;
  customers = rows_sorted_by_key customer_key t.customers;
  accounts = rows_sorted_by_key account_key t.accounts;
  permissions = rows_sorted_by_key permission_key t.permissions;
  securities = rows_sorted_by_key security_key t.securities;
  last_trades = rows_sorted_by_key last_trade_key t.last_trades;
  charges = rows_sorted_by_key charge_key t.charges;
  bands = rows_sorted_by_key band_key t.bands;
  tax_rates = rows_sorted_by_key tax_rate_key t.tax_rates;
  customer_taxes = rows_sorted_by_key customer_tax_key t.customer_taxes;
  trades = rows_sorted_by_key trade_key t.trades;
  history = rows_sorted_by_key history_key t.history;
  requests = rows_sorted_by_key request_key t.requests;
  holdings = rows_sorted_by_key holding_key t.holdings;
  summaries = rows_sorted_by_key summary_key t.summaries;
  holding_history = rows_sorted_by_key holding_history_key t.holding_history;
  settlements = rows_sorted_by_key settlement_key t.settlements;
  cash = rows_sorted_by_key cash_transaction_key t.cash;
  moves = rows_sorted_by_key cash_move_key t.moves;
  rule = t.rule;
}

-- The tables of `base` in the schema `schema`, each sorted by key, ascending.
abbrev pub sheets_in_schema : Schema → Base → Tables
sheets_in_schema schema base = tables_sorted_by_key (tables_of_base_in_schema schema base)

-- The tables of `base` in the third schema, each sorted by key, ascending.
abbrev pub sheets : Base → Tables
sheets base = tables_sorted_by_key (tables_of_base base)
