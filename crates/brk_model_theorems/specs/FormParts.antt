-- The parts of the audit's condition `Form`.
use Rattle.std.specs.Prelude.{◌≡◌, true, map, filter, length, nat_le, is_none}
use Rattle.std.specs.List.{list_all, range_with_len}
use Rattle.brk_model.specs.Limits.{greatest_id}
use Rattle.brk_model.specs.Lists.{all_distinct}
use Rattle.brk_model.specs.Schemas.{Schema}
use Rattle.brk_model.specs.Tables.{Tables}
use Rattle.brk_model.specs.Form.{is_well_formed_kept_row, is_well_formed_broker_row, is_well_formed_customer_row, is_within_customer_limits}
use Rattle.brk_model.specs.Form.{is_well_formed_account_row, is_well_formed_permission_row, is_well_formed_security_row, is_well_formed_last_trade_row}
use Rattle.brk_model.specs.Form.{is_well_formed_charge_row, is_well_formed_band_row, has_disjoint_bands, is_well_formed_tax_rate_row}
use Rattle.brk_model.specs.Form.{is_well_formed_customer_tax_row, is_well_formed_trade_row, are_equal_number_lists, is_well_formed_history_row}
use Rattle.brk_model.specs.Form.{is_well_formed_request_row, is_well_formed_holding_row, is_well_formed_summary_row, is_well_formed_holding_history_row}
use Rattle.brk_model.specs.Form.{is_well_formed_settlement_row, is_well_formed_cash_transaction_row, is_well_formed_cash_move_row, trade_ids_of_cash_rows}
use Rattle.brk_model.specs.Form.{has_rows_only_in_tables_of_schema, has_tables_sorted_by_unique_key, has_distinct_tax_ids, is_sorted_by_unique_key}
use Rattle.brk_model.specs.Form.{is_last_stamp_in_calendar, is_one_day_settlement_start_in_calendar}
use Rattle.brk_model.specs.Keys.{kept_key, broker_key, customer_key, account_key, permission_key, security_key, last_trade_key, charge_key, band_key}
use Rattle.brk_model.specs.Keys.{tax_rate_key, customer_tax_key, trade_key, history_key, request_key, holding_key, summary_key, holding_history_key}
use Rattle.brk_model.specs.Keys.{settlement_key, cash_transaction_key, cash_move_key}

-- The tables `t` satisfy each part of the audit condition `Form` in the schema `schema`.
pub record SatisfiesFormParts (schema : Schema) (t : Tables) : Type 0 where
  pub clock : is_last_stamp_in_calendar t.last ≡ true
  pub keys : has_tables_sorted_by_unique_key t ≡ true
  pub tax_ids : has_distinct_tax_ids t.customers ≡ true
  pub kept : list_all is_well_formed_kept_row t.kept ≡ true
  pub brokers : list_all is_well_formed_broker_row t.brokers ≡ true
  pub customers : list_all is_well_formed_customer_row t.customers ≡ true
  pub limits : list_all (is_within_customer_limits t) t.customers ≡ true
  pub accounts : list_all (is_well_formed_account_row t) t.accounts ≡ true
  pub permissions : list_all (is_well_formed_permission_row t) t.permissions ≡ true
  pub securities : list_all (is_well_formed_security_row t) t.securities ≡ true
  pub last_trades : list_all (is_well_formed_last_trade_row t) t.last_trades ≡ true
  pub charges : list_all is_well_formed_charge_row t.charges ≡ true
  pub bands : list_all (is_well_formed_band_row schema) t.bands ≡ true
  pub apart : has_disjoint_bands t.bands ≡ true
  pub tax_rates : list_all is_well_formed_tax_rate_row t.tax_rates ≡ true
  pub customer_taxes : list_all (is_well_formed_customer_tax_row t) t.customer_taxes ≡ true
  pub trades : list_all (is_well_formed_trade_row schema t) t.trades ≡ true
  pub numbers : are_equal_number_lists (map (λ row. row.id) t.trades) (range_with_len 1 (length t.trades)) ≡ true
  pub history : list_all (is_well_formed_history_row t) t.history ≡ true
  pub requests : list_all (is_well_formed_request_row schema t) t.requests ≡ true
  pub holdings : list_all (is_well_formed_holding_row t) t.holdings ≡ true
  pub summaries : list_all (is_well_formed_summary_row schema t) t.summaries ≡ true
  pub holding_history : list_all (is_well_formed_holding_history_row t) t.holding_history ≡ true
  pub settlements : list_all (is_well_formed_settlement_row t) t.settlements ≡ true
  pub cash : list_all (is_well_formed_cash_transaction_row t) t.cash ≡ true
  pub moves : list_all (is_well_formed_cash_move_row t) t.moves ≡ true
  pub own_moves : all_distinct (trade_ids_of_cash_rows t.moves) ≡ true
  pub counted : nat_le (length (filter (λ r. is_none r.trade) t.moves)) greatest_id ≡ true
  pub rule : is_one_day_settlement_start_in_calendar t.rule ≡ true
  pub fits : has_rows_only_in_tables_of_schema schema t ≡ true

-- Each table of `t` except DESK and SETTLE_RULE is sorted by its key, strictly ascending.
pub record HasSortedTables (t : Tables) : Type 0 where
  pub kept : is_sorted_by_unique_key kept_key t.kept ≡ true
  pub brokers : is_sorted_by_unique_key broker_key t.brokers ≡ true
  pub customers : is_sorted_by_unique_key customer_key t.customers ≡ true
  pub accounts : is_sorted_by_unique_key account_key t.accounts ≡ true
  pub permissions : is_sorted_by_unique_key permission_key t.permissions ≡ true
  pub securities : is_sorted_by_unique_key security_key t.securities ≡ true
  pub last_trades : is_sorted_by_unique_key last_trade_key t.last_trades ≡ true
  pub charges : is_sorted_by_unique_key charge_key t.charges ≡ true
  pub bands : is_sorted_by_unique_key band_key t.bands ≡ true
  pub tax_rates : is_sorted_by_unique_key tax_rate_key t.tax_rates ≡ true
  pub customer_taxes : is_sorted_by_unique_key customer_tax_key t.customer_taxes ≡ true
  pub trades : is_sorted_by_unique_key trade_key t.trades ≡ true
  pub history : is_sorted_by_unique_key history_key t.history ≡ true
  pub requests : is_sorted_by_unique_key request_key t.requests ≡ true
  pub holdings : is_sorted_by_unique_key holding_key t.holdings ≡ true
  pub summaries : is_sorted_by_unique_key summary_key t.summaries ≡ true
  pub holding_history : is_sorted_by_unique_key holding_history_key t.holding_history ≡ true
  pub settlements : is_sorted_by_unique_key settlement_key t.settlements ≡ true
  pub cash : is_sorted_by_unique_key cash_transaction_key t.cash ≡ true
  pub moves : is_sorted_by_unique_key cash_move_key t.moves ≡ true
