-- The format checks of typed rows, by groups of tables.
use Rattle.std.specs.Prelude.{Bool, ◌&&◌, filter, is_none, length, map, nat_le}
use Rattle.std.specs.List.{list_all, range_with_len}
use Rattle.brk_model.specs.Limits.{greatest_id}
use Rattle.brk_model.specs.Schemas.{Schema}
use Rattle.brk_model.specs.Keys.{kept_key, broker_key, customer_key, account_key, permission_key, security_key, last_trade_key}
use Rattle.brk_model.specs.Keys.{charge_key, band_key, tax_rate_key, customer_tax_key, trade_key, history_key, request_key}
use Rattle.brk_model.specs.Keys.{holding_key, summary_key, holding_history_key, settlement_key, cash_transaction_key, cash_move_key}
use Rattle.brk_model.specs.Form.{has_tables_sorted_by_unique_key, has_disjoint_bands, are_equal_number_lists, is_sorted_by_unique_key}
use Rattle.brk_model.specs.Form.{is_well_formed_kept_row, is_well_formed_broker_row, is_well_formed_customer_row, is_well_formed_account_row}
use Rattle.brk_model.specs.Form.{is_well_formed_permission_row, is_well_formed_security_row, is_well_formed_last_trade_row, is_well_formed_charge_row}
use Rattle.brk_model.specs.Form.{is_well_formed_band_row, is_well_formed_tax_rate_row, is_well_formed_customer_tax_row, is_well_formed_trade_row}
use Rattle.brk_model.specs.Form.{is_well_formed_history_row, is_well_formed_request_row, is_well_formed_holding_row, is_well_formed_summary_row}
use Rattle.brk_model.specs.Form.{is_well_formed_holding_history_row, is_well_formed_settlement_row, has_rows_only_in_tables_of_schema}
use Rattle.brk_model.specs.Form.{is_last_stamp_in_calendar, is_one_day_settlement_start_in_calendar}
use Rattle.brk_ref.specs.Records.{abstract_account_row, abstract_broker_row, abstract_customer}
use Rattle.brk_ref.specs.Records.{abstract_permission, abstract_security_row, kept_row_with_empty_texts}
use Rattle.brk_ref.specs.Records.{abstract_last_trade_row, abstract_charge, abstract_band, abstract_tax_rate, abstract_customer_tax}
use Rattle.brk_ref.specs.Rows.{abstract_trade_row, abstract_history_row, abstract_request_row, abstract_holding_row, abstract_summary_row}
use Rattle.brk_ref.specs.Rows.{abstract_lot_change_row, abstract_settlement_row, abstract_old_cash_row, abstract_cash_row}
use Rattle.brk_trade_rows.specs.Sheets.{abstract_sheets}
use Rattle.brk_trade_rows.specs.declared.sheets.Sheets.{Sheets}

-- True if KEPT and each reference table of `s` are sorted by key, ascending, without duplicates.
abbrev pub reference_tables_are_sorted : Sheets → Bool
reference_tables_are_sorted s =
    is_sorted_by_unique_key (λ r. kept_key (kept_row_with_empty_texts r)) s.kept.items
    && is_sorted_by_unique_key (λ r. broker_key (abstract_broker_row r)) s.brokers.items
    && is_sorted_by_unique_key (λ r. customer_key (abstract_customer r)) s.customers.items
    && is_sorted_by_unique_key (λ r. account_key (abstract_account_row r)) s.accounts.items
    && is_sorted_by_unique_key (λ r. permission_key (abstract_permission r)) s.permissions.items
    && is_sorted_by_unique_key (λ r. security_key (abstract_security_row r)) s.securities.items
    && is_sorted_by_unique_key (λ r. last_trade_key (abstract_last_trade_row r)) s.last_trades.items
    && is_sorted_by_unique_key (λ r. charge_key (abstract_charge r)) s.charges.items
    && is_sorted_by_unique_key (λ r. band_key (abstract_band r)) s.bands.items
    && is_sorted_by_unique_key (λ r. tax_rate_key (abstract_tax_rate r)) s.tax_rates.items
    && is_sorted_by_unique_key (λ r. customer_tax_key (abstract_customer_tax r)) s.customer_taxes.items

-- True if each trading table of `s`, cash included, is sorted by key, ascending, without
-- duplicates.
abbrev pub trading_tables_are_sorted : Sheets → Bool
trading_tables_are_sorted s =
    is_sorted_by_unique_key (λ r. trade_key (abstract_trade_row r)) s.trades.items
    && is_sorted_by_unique_key (λ r. history_key (abstract_history_row r)) s.history.items
    && is_sorted_by_unique_key (λ r. request_key (abstract_request_row r)) s.requests.items
    && is_sorted_by_unique_key (λ r. holding_key (abstract_holding_row r)) s.holdings.items
    && is_sorted_by_unique_key (λ r. summary_key (abstract_summary_row r)) s.summaries.items
    && is_sorted_by_unique_key (λ r. holding_history_key (abstract_lot_change_row r)) s.holding_history.items
    && is_sorted_by_unique_key (λ r. settlement_key (abstract_settlement_row r)) s.settlements.items
    && is_sorted_by_unique_key (λ r. cash_transaction_key (abstract_old_cash_row r)) s.cash.items
    && is_sorted_by_unique_key (λ r. cash_move_key (abstract_cash_row r)) s.moves.items

-- True if each row of KEPT and of the reference tables of `s` is well-formed, within the limits of
-- the schema, and refers to existing records, each row of SECURITY has a row of LAST_TRADE, and the
-- stamp of a row of LAST_TRADE is not after the last stamp, which must exist.
abbrev pub reference_rows_are_well_formed : Schema → Sheets → Bool
reference_rows_are_well_formed schema s =
    list_all (λ r. is_well_formed_kept_row (kept_row_with_empty_texts r)) s.kept.items
    && list_all (λ r. is_well_formed_broker_row (abstract_broker_row r)) s.brokers.items
    && list_all (λ r. is_well_formed_customer_row (abstract_customer r)) s.customers.items
    && list_all (λ r. is_well_formed_account_row (abstract_sheets s) (abstract_account_row r)) s.accounts.items
    && list_all (λ r. is_well_formed_permission_row (abstract_sheets s) (abstract_permission r)) s.permissions.items
    && list_all (λ r. is_well_formed_security_row (abstract_sheets s) (abstract_security_row r)) s.securities.items
    && list_all (λ r. is_well_formed_last_trade_row (abstract_sheets s) (abstract_last_trade_row r)) s.last_trades.items
    && list_all (λ r. is_well_formed_charge_row (abstract_charge r)) s.charges.items
    && list_all (λ r. is_well_formed_band_row schema (abstract_band r)) s.bands.items
    && list_all (λ r. is_well_formed_tax_rate_row (abstract_tax_rate r)) s.tax_rates.items
    && list_all (λ r. is_well_formed_customer_tax_row (abstract_sheets s) (abstract_customer_tax r)) s.customer_taxes.items

-- True if each row of TRADE, TRADE_HISTORY, TRADE_REQUEST, SETTLEMENT and the HOLDING tables of `s`
-- is well-formed, within the limits of the schema, and refers to existing records, no stamp of
-- TRADE, TRADE_HISTORY or HOLDING is after the last stamp, which must exist, and a row of TRADE has
-- a price if and only if TRADE_HISTORY has a completion of the trade.
abbrev pub trading_rows_are_well_formed : Schema → Sheets → Bool
trading_rows_are_well_formed schema s =
    list_all (λ r. is_well_formed_trade_row schema (abstract_sheets s) (abstract_trade_row r)) s.trades.items
    && list_all (λ r. is_well_formed_history_row (abstract_sheets s) (abstract_history_row r)) s.history.items
    && list_all (λ r. is_well_formed_request_row schema (abstract_sheets s) (abstract_request_row r)) s.requests.items
    && list_all (λ r. is_well_formed_holding_row (abstract_sheets s) (abstract_holding_row r)) s.holdings.items
    && list_all (λ r. is_well_formed_summary_row schema (abstract_sheets s) (abstract_summary_row r)) s.summaries.items
    && list_all (λ r. is_well_formed_holding_history_row (abstract_sheets s) (abstract_lot_change_row r)) s.holding_history.items
    && list_all (λ r. is_well_formed_settlement_row (abstract_sheets s) (abstract_settlement_row r)) s.settlements.items

-- True if `s` passes the checks of the condition `Form` that do not allocate. The others: tax ids
-- are unique, customers are within their limits, rows of CASH_TRANSACTION and CASH_MOVE are
-- well-formed, and no two rows of CASH_MOVE have the same trade.
abbrev pub passes_nonallocating_form_checks : Schema → Sheets → Bool
passes_nonallocating_form_checks schema s =
    has_tables_sorted_by_unique_key (abstract_sheets s) && reference_rows_are_well_formed schema s && is_last_stamp_in_calendar s.last
    && trading_rows_are_well_formed schema s
    && has_disjoint_bands (map abstract_band s.bands.items)
    && are_equal_number_lists (map (λ row. row.id) s.trades.items) (range_with_len 1 (length s.trades.items))
    && nat_le (length (filter (λ r. is_none r.trade) s.moves.items)) greatest_id && is_one_day_settlement_start_in_calendar s.rule
    && has_rows_only_in_tables_of_schema schema (abstract_sheets s)
