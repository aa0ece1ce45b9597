-- Tables with sorted unique keys ascend strictly by them.
use Rattle.std.proofs.Common.{◌≡◌, true}
use Rattle.brk_model.specs.Tables.{Tables}
use Rattle.brk_model.specs.Form.{has_tables_sorted_by_unique_key}
use Rattle.brk_model.specs.Keys.{kept_key, broker_key, customer_key, account_key, permission_key, security_key, last_trade_key, charge_key, band_key}
use Rattle.brk_model.specs.Keys.{tax_rate_key, customer_tax_key, trade_key, history_key, request_key, holding_key, summary_key, holding_history_key}
use Rattle.brk_model.specs.Keys.{settlement_key, cash_transaction_key, cash_move_key}
use Rattle.brk_model_theorems.specs.FormParts.{HasSortedTables}
use Rattle.brk_model_theorems.proofs.FormParts.{keys_rise}
use Rattle.brk_audit_theorems.proofs.Climbs.{Climbs, climbs}

-- each table climbs by its key
pub record KeyParts (t : Tables) : Type 0 where
  pub kept : Climbs kept_key t.kept
  pub brokers : Climbs broker_key t.brokers
  pub customers : Climbs customer_key t.customers
  pub accounts : Climbs account_key t.accounts
  pub permissions : Climbs permission_key t.permissions
  pub securities : Climbs security_key t.securities
  pub last_trades : Climbs last_trade_key t.last_trades
  pub charges : Climbs charge_key t.charges
  pub bands : Climbs band_key t.bands
  pub tax_rates : Climbs tax_rate_key t.tax_rates
  pub customer_taxes : Climbs customer_tax_key t.customer_taxes
  pub trades : Climbs trade_key t.trades
  pub history : Climbs history_key t.history
  pub requests : Climbs request_key t.requests
  pub holdings : Climbs holding_key t.holdings
  pub summaries : Climbs summary_key t.summaries
  pub holding_history : Climbs holding_history_key t.holding_history
  pub settlements : Climbs settlement_key t.settlements
  pub cash : Climbs cash_transaction_key t.cash
  pub moves : Climbs cash_move_key t.moves

pub key_parts : (t : Tables) → has_tables_sorted_by_unique_key t ≡ true → KeyParts t
key_parts t h =
    let r : HasSortedTables t = keys_rise t h in
    record {
      kept = climbs kept_key t.kept r.kept;
      brokers = climbs broker_key t.brokers r.brokers;
      customers = climbs customer_key t.customers r.customers;
      accounts = climbs account_key t.accounts r.accounts;
      permissions = climbs permission_key t.permissions r.permissions;
      securities = climbs security_key t.securities r.securities;
      last_trades = climbs last_trade_key t.last_trades r.last_trades;
      charges = climbs charge_key t.charges r.charges;
      bands = climbs band_key t.bands r.bands;
      tax_rates = climbs tax_rate_key t.tax_rates r.tax_rates;
      customer_taxes = climbs customer_tax_key t.customer_taxes r.customer_taxes;
      trades = climbs trade_key t.trades r.trades;
      history = climbs history_key t.history r.history;
      requests = climbs request_key t.requests r.requests;
      holdings = climbs holding_key t.holdings r.holdings;
      summaries = climbs summary_key t.summaries r.summaries;
      holding_history = climbs holding_history_key t.holding_history r.holding_history;
      settlements = climbs settlement_key t.settlements r.settlements;
      cash = climbs cash_transaction_key t.cash r.cash;
      moves = climbs cash_move_key t.moves r.moves;
    }
