-- The definitions of the model that the prover unfolds to compute the examples.
use Rattle.std.specs.Prelude.{⊤}
use Rattle.std.specs.Fmt.{digits}
use Rattle.std.specs.Str.{is_utf8, chars}
use Rattle.csv.proofs.OnLiterals.{csv_on_literals}
use Rattle.brk_money.specs.Moments.{civil_date_of_day, day_of_civil_date}
use Rattle.brk_model.specs.Lists.{sort_by, total_by, replace_text}
use Rattle.brk_model.specs.Base.{empty_base}
use Rattle.brk_model.specs.Shares.{shares_after_deal, buy_value, sell_value, lots_of_shares, touches_of_existing_lots, lot_touches_of_deal}
use Rattle.brk_model.specs.Derived.{shares_of_position, holding_summary_quantity, balance_of_account, holdings_market_value, trade_count_of_broker, commission_total_of_broker}
use Rattle.brk_model.specs.Tables.{tables_of_base_in_schema}
use Rattle.brk_model.specs.Sheets.{tables_sorted_by_key}
use Rattle.brk_model.specs.Orders.{estimate}
use Rattle.brk_model.specs.Feed.{base_after_ticks, triggered_trade_ids}
use Rattle.brk_model.specs.Results.{trade_after_completion, completion_of_trade}
use Rattle.brk_model.specs.Tests.{checks_of_command, refusal_of_command}
use Rattle.brk_model.specs.Step.{base_after_command_unstamped, reply_to_command, step}
use Rattle.brk_model.specs.Rows.{row_fields, reply_fields}
use Rattle.brk_model.specs.Parse.{parse_row}
use Rattle.brk_model.specs.Keyed.{keyed_step}
use Rattle.brk_model.specs.Computed.{result_of_batch_input}
use Rattle.brk_model.specs.PositionView.{customer_position_view, recent_trades_view}
use Rattle.brk_model.specs.StatusView.{trade_status_view, submitted_trades_view}
use Rattle.brk_model.specs.LookupView.{trade_lookup_view, touched_lots_of_oldest_trade}
use Rattle.brk_model.specs.VolumeView.{broker_volume_view}
use Rattle.brk_model.specs.Views.{view_of_tables}
use Rattle.brk_model.specs.Statement.{statement}
use Rattle.brk_model.specs.Ask.{checks_of_query, view_of_base, ask, parse_query}
use Rattle.brk_model.specs.Adopted.{base_of_tables}
use Rattle.brk_model.specs.Form.{has_tables_sorted_by_unique_key, satisfies_form_condition}
use Rattle.brk_model.specs.Ways.{satisfies_status_condition}
use Rattle.brk_model.specs.Audit.{ConditionHolds}
use Rattle.brk_model.specs.Upgraded.{tables_with_merged_cash_rows}
use Rattle.brk_model_examples.specs.Setting.{setting_base}
use Rattle.brk_model_examples.specs.Trading.{base_after_first_purchase, base_after_two_purchases, base_after_fifo_sale, base_after_lifo_sale}
use Rattle.brk_model_examples.specs.Trading.{base_after_short_sale, base_after_covering_purchase, base_after_sale_of_all}
use Rattle.brk_model_examples.specs.Moving.{base_after_sale_and_movements, base_after_purchase_with_one_day_settlement}
use Rattle.brk_model_examples.specs.Waiting.{base_with_pending_orders}
use Rattle.brk_model_examples.specs.Extremes.{base_at_greatest_stamp, setting_with_ten_accounts, setting_with_volume_near_limit}
use Rattle.brk_model_examples.specs.Crowds.{setting_with_fifty_one_pending_trades, setting_with_misleading_security_name, setting_with_twenty_one_margin_purchases}
use Rattle.brk_model_examples.specs.Sales.{effect_of_deal_on_two_lots}
use Rattle.brk_model_examples.specs.Bought.{tables_after_first_purchase, first_schema_tables_after_purchase, tables_with_changed_cash_row_number}
use Rattle.brk_model_examples.specs.Bought.{tables_with_second_cash_row_of_trade, tables_with_cash_row_of_older_schema, tables_with_trade_above_older_limit}
use Rattle.brk_model_examples.specs.Bought.{tables_with_band_above_older_limit, tables_with_one_day_settlement_after_completion}
use Rattle.brk_model_examples.specs.Bought.{tables_with_one_day_settlement_at_completion, tables_with_zero_trade_quantity, tables_without_last_trade}
use Rattle.brk_model_examples.specs.Bought.{tables_without_submission, tables_with_changed_trade_status, tables_with_request_of_completed_trade}
use Rattle.brk_model_examples.specs.Bought.{tables_with_changed_lot_quantity, tables_with_changed_lot_price, tables_with_changed_trade_price}
use Rattle.brk_model_examples.specs.Bought.{tables_with_changed_holding_history, tables_with_changed_summary, tables_with_changed_trade_count}
use Rattle.brk_model_examples.specs.Bought.{tables_with_changed_commission_total, tables_with_changed_trade_commission, tables_with_changed_settlement}
use Rattle.brk_model_examples.specs.Bought.{tables_with_changed_cash_amount, tables_with_changed_account_balance, tables_without_lots_and_summaries}

-- Proof-only: to unfold it is to unfold all definitions that the examples compute.
unfoldable pub model_on_literals : ⊤
unfolding digits civil_date_of_day day_of_civil_date lib.Utf8.encode is_utf8 chars csv_on_literals sort_by total_by replace_text empty_base shares_after_deal
    buy_value sell_value lots_of_shares touches_of_existing_lots lot_touches_of_deal shares_of_position holding_summary_quantity balance_of_account
    holdings_market_value trade_count_of_broker commission_total_of_broker tables_of_base_in_schema tables_sorted_by_key estimate base_after_ticks
    triggered_trade_ids trade_after_completion completion_of_trade checks_of_command refusal_of_command base_after_command_unstamped reply_to_command step row_fields
    reply_fields parse_row keyed_step result_of_batch_input customer_position_view recent_trades_view trade_status_view submitted_trades_view trade_lookup_view
    touched_lots_of_oldest_trade broker_volume_view view_of_tables checks_of_query view_of_base ask parse_query statement base_of_tables
    has_tables_sorted_by_unique_key satisfies_form_condition satisfies_status_condition ConditionHolds tables_with_merged_cash_rows setting_base
    base_after_first_purchase base_after_two_purchases base_after_fifo_sale base_after_lifo_sale base_after_short_sale base_after_covering_purchase
    base_after_sale_of_all base_with_pending_orders base_after_sale_and_movements base_after_purchase_with_one_day_settlement base_at_greatest_stamp
    setting_with_ten_accounts setting_with_volume_near_limit setting_with_fifty_one_pending_trades setting_with_misleading_security_name
    setting_with_twenty_one_margin_purchases effect_of_deal_on_two_lots tables_after_first_purchase first_schema_tables_after_purchase
    tables_with_changed_cash_row_number tables_with_second_cash_row_of_trade tables_with_cash_row_of_older_schema tables_with_trade_above_older_limit
    tables_with_band_above_older_limit tables_with_one_day_settlement_after_completion tables_with_one_day_settlement_at_completion tables_with_zero_trade_quantity
    tables_without_last_trade tables_without_submission tables_with_changed_trade_status tables_with_request_of_completed_trade tables_with_changed_lot_quantity
    tables_with_changed_lot_price tables_with_changed_trade_price tables_with_changed_holding_history tables_with_changed_summary
    tables_with_changed_trade_count tables_with_changed_commission_total tables_with_changed_trade_commission tables_with_changed_settlement
    tables_with_changed_cash_amount tables_with_changed_account_balance tables_without_lots_and_summaries
model_on_literals = tt
