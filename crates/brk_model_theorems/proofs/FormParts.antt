-- The condition `Form` and the sorting of all tables, each by its parts.
use Rattle.std.proofs.Common.{◌≡◌, Bool, true, List, [], ◌∷◌, map, filter, length}
use Rattle.std.specs.Prelude.{is_none, nat_le}
use Rattle.std.specs.List.{list_all, range_with_len}
use Rattle.std.specs.Option.{option_map_or}
use Rattle.brk_money.specs.Moments.{greatest_day, greatest_stamp}
use Rattle.brk_model.specs.Limits.{greatest_id}
use Rattle.brk_model.specs.Lists.{all_distinct}
use Rattle.brk_model.specs.Schemas.{Schema}
use Rattle.brk_model.specs.Tables.{Tables}
use Rattle.brk_model.specs.Form.{is_well_formed_kept_row, is_well_formed_broker_row, is_well_formed_customer_row, is_within_customer_limits}
use Rattle.brk_model.specs.Form.{is_well_formed_account_row, is_well_formed_permission_row, is_well_formed_security_row, is_well_formed_last_trade_row}
use Rattle.brk_model.specs.Form.{is_well_formed_charge_row, is_well_formed_band_row, has_disjoint_bands, is_well_formed_tax_rate_row}
use Rattle.brk_model.specs.Form.{is_well_formed_customer_tax_row, is_well_formed_trade_row, are_equal_number_lists, is_well_formed_history_row}
use Rattle.brk_model.specs.Form.{is_well_formed_request_row, is_well_formed_holding_row, is_well_formed_summary_row, is_well_formed_holding_history_row}
use Rattle.brk_model.specs.Form.{is_well_formed_settlement_row, is_well_formed_cash_transaction_row, is_well_formed_cash_move_row, trade_ids_of_cash_rows}
use Rattle.brk_model.specs.Form.{has_rows_only_in_tables_of_schema, has_tables_sorted_by_unique_key, satisfies_form_condition, has_distinct_tax_ids}
use Rattle.brk_model.specs.Form.{is_sorted_by_unique_key}
use Rattle.brk_model.specs.Keys.{kept_key, broker_key, customer_key, account_key, permission_key, security_key, last_trade_key, charge_key, band_key}
use Rattle.brk_model.specs.Keys.{tax_rate_key, customer_tax_key, trade_key, history_key, request_key, holding_key, summary_key, holding_history_key}
use Rattle.brk_model.specs.Keys.{settlement_key, cash_transaction_key, cash_move_key}
use Rattle.brk_model_theorems.specs.FormParts.{SatisfiesFormParts, HasSortedTables}
use Rattle.brk_model_theorems.proofs.Conjunctions.{parts, whole}

-- ---- form

-- The parts of the condition `Form` after the first one, in sequence.
abbrev forms : Schema → Tables → List Bool
forms schema t =
    has_tables_sorted_by_unique_key t ∷
    has_distinct_tax_ids t.customers ∷
    list_all is_well_formed_kept_row t.kept ∷
    list_all is_well_formed_broker_row t.brokers ∷
    list_all is_well_formed_customer_row t.customers ∷
    list_all (is_within_customer_limits t) t.customers ∷
    list_all (is_well_formed_account_row t) t.accounts ∷
    list_all (is_well_formed_permission_row t) t.permissions ∷
    list_all (is_well_formed_security_row t) t.securities ∷
    list_all (is_well_formed_last_trade_row t) t.last_trades ∷
    list_all is_well_formed_charge_row t.charges ∷
    list_all (is_well_formed_band_row schema) t.bands ∷
    has_disjoint_bands t.bands ∷
    list_all is_well_formed_tax_rate_row t.tax_rates ∷
    list_all (is_well_formed_customer_tax_row t) t.customer_taxes ∷
    list_all (is_well_formed_trade_row schema t) t.trades ∷
    are_equal_number_lists (map (λ row. row.id) t.trades) (range_with_len 1 (length t.trades)) ∷
    list_all (is_well_formed_history_row t) t.history ∷
    list_all (is_well_formed_request_row schema t) t.requests ∷
    list_all (is_well_formed_holding_row t) t.holdings ∷
    list_all (is_well_formed_summary_row schema t) t.summaries ∷
    list_all (is_well_formed_holding_history_row t) t.holding_history ∷
    list_all (is_well_formed_settlement_row t) t.settlements ∷
    list_all (is_well_formed_cash_transaction_row t) t.cash ∷
    list_all (is_well_formed_cash_move_row t) t.moves ∷
    all_distinct (trade_ids_of_cash_rows t.moves) ∷
    nat_le (length (filter (λ r. is_none r.trade) t.moves)) greatest_id ∷
    option_map_or (λ day. nat_le day greatest_day) t.rule true ∷
    has_rows_only_in_tables_of_schema schema t ∷ []

pub form_parts : (schema : Schema) (t : Tables) → satisfies_form_condition schema t ≡ true → SatisfiesFormParts schema t
unfolding satisfies_form_condition
form_parts schema t h =
    let p = parts (option_map_or (λ last. nat_le last greatest_stamp) t.last true) (forms schema t) h in
    record {
      clock = p.0;
      keys = p.1.0;
      tax_ids = p.1.1.0;
      kept = p.1.1.1.0;
      brokers = p.1.1.1.1.0;
      customers = p.1.1.1.1.1.0;
      limits = p.1.1.1.1.1.1.0;
      accounts = p.1.1.1.1.1.1.1.0;
      permissions = p.1.1.1.1.1.1.1.1.0;
      securities = p.1.1.1.1.1.1.1.1.1.0;
      last_trades = p.1.1.1.1.1.1.1.1.1.1.0;
      charges = p.1.1.1.1.1.1.1.1.1.1.1.0;
      bands = p.1.1.1.1.1.1.1.1.1.1.1.1.0;
      apart = p.1.1.1.1.1.1.1.1.1.1.1.1.1.0;
      tax_rates = p.1.1.1.1.1.1.1.1.1.1.1.1.1.1.0;
      customer_taxes = p.1.1.1.1.1.1.1.1.1.1.1.1.1.1.1.0;
      trades = p.1.1.1.1.1.1.1.1.1.1.1.1.1.1.1.1.0;
      numbers = p.1.1.1.1.1.1.1.1.1.1.1.1.1.1.1.1.1.0;
      history = p.1.1.1.1.1.1.1.1.1.1.1.1.1.1.1.1.1.1.0;
      requests = p.1.1.1.1.1.1.1.1.1.1.1.1.1.1.1.1.1.1.1.0;
      holdings = p.1.1.1.1.1.1.1.1.1.1.1.1.1.1.1.1.1.1.1.1.0;
      summaries = p.1.1.1.1.1.1.1.1.1.1.1.1.1.1.1.1.1.1.1.1.1.0;
      holding_history = p.1.1.1.1.1.1.1.1.1.1.1.1.1.1.1.1.1.1.1.1.1.1.0;
      settlements = p.1.1.1.1.1.1.1.1.1.1.1.1.1.1.1.1.1.1.1.1.1.1.1.0;
      cash = p.1.1.1.1.1.1.1.1.1.1.1.1.1.1.1.1.1.1.1.1.1.1.1.1.0;
      moves = p.1.1.1.1.1.1.1.1.1.1.1.1.1.1.1.1.1.1.1.1.1.1.1.1.1.0;
      own_moves = p.1.1.1.1.1.1.1.1.1.1.1.1.1.1.1.1.1.1.1.1.1.1.1.1.1.1.0;
      counted = p.1.1.1.1.1.1.1.1.1.1.1.1.1.1.1.1.1.1.1.1.1.1.1.1.1.1.1.0;
      rule = p.1.1.1.1.1.1.1.1.1.1.1.1.1.1.1.1.1.1.1.1.1.1.1.1.1.1.1.1.0;
      fits = p.1.1.1.1.1.1.1.1.1.1.1.1.1.1.1.1.1.1.1.1.1.1.1.1.1.1.1.1.1.0;
    }

pub form_whole : (schema : Schema) (t : Tables) → SatisfiesFormParts schema t → satisfies_form_condition schema t ≡ true
unfolding satisfies_form_condition
form_whole schema t h =
    whole (option_map_or (λ last. nat_le last greatest_stamp) t.last true) (forms schema t) h.clock (
      h.keys,
      (
        h.tax_ids,
        (
          h.kept,
          (
            h.brokers,
            (
              h.customers,
              (
                h.limits,
                (
                  h.accounts,
                  (
                    h.permissions,
                    (
                      h.securities,
                      (
                        h.last_trades,
                        (
                          h.charges,
                          (
                            h.bands,
                            (
                              h.apart,
                              (
                                h.tax_rates,
                                (
                                  h.customer_taxes,
                                  (
                                    h.trades,
                                    (
                                      h.numbers,
                                      (
                                        h.history,
                                        (
                                          h.requests,
                                          (
                                            h.holdings,
                                            (h.summaries, (h.holding_history, (h.settlements, (h.cash, (h.moves, (h.own_moves, (h.counted, (h.rule, (h.fits, tt))))))))),
                                          ),
                                        ),
                                      ),
                                    ),
                                  ),
                                ),
                              ),
                            ),
                          ),
                        ),
                      ),
                    ),
                  ),
                ),
              ),
            ),
          ),
        ),
      ),
    )

-- ---- keys

-- The sorting of each table after KEPT, in sequence.
abbrev rests : Tables → List Bool
rests t =
    is_sorted_by_unique_key broker_key t.brokers ∷
    is_sorted_by_unique_key customer_key t.customers ∷
    is_sorted_by_unique_key account_key t.accounts ∷
    is_sorted_by_unique_key permission_key t.permissions ∷
    is_sorted_by_unique_key security_key t.securities ∷
    is_sorted_by_unique_key last_trade_key t.last_trades ∷
    is_sorted_by_unique_key charge_key t.charges ∷
    is_sorted_by_unique_key band_key t.bands ∷
    is_sorted_by_unique_key tax_rate_key t.tax_rates ∷
    is_sorted_by_unique_key customer_tax_key t.customer_taxes ∷
    is_sorted_by_unique_key trade_key t.trades ∷
    is_sorted_by_unique_key history_key t.history ∷
    is_sorted_by_unique_key request_key t.requests ∷
    is_sorted_by_unique_key holding_key t.holdings ∷
    is_sorted_by_unique_key summary_key t.summaries ∷
    is_sorted_by_unique_key holding_history_key t.holding_history ∷
    is_sorted_by_unique_key settlement_key t.settlements ∷
    is_sorted_by_unique_key cash_transaction_key t.cash ∷
    is_sorted_by_unique_key cash_move_key t.moves ∷ []

pub keys_rise : (t : Tables) → has_tables_sorted_by_unique_key t ≡ true → HasSortedTables t
unfolding has_tables_sorted_by_unique_key
keys_rise t h =
    let p = parts (is_sorted_by_unique_key kept_key t.kept) (rests t) h in
    record {
      kept = p.0;
      brokers = p.1.0;
      customers = p.1.1.0;
      accounts = p.1.1.1.0;
      permissions = p.1.1.1.1.0;
      securities = p.1.1.1.1.1.0;
      last_trades = p.1.1.1.1.1.1.0;
      charges = p.1.1.1.1.1.1.1.0;
      bands = p.1.1.1.1.1.1.1.1.0;
      tax_rates = p.1.1.1.1.1.1.1.1.1.0;
      customer_taxes = p.1.1.1.1.1.1.1.1.1.1.0;
      trades = p.1.1.1.1.1.1.1.1.1.1.1.0;
      history = p.1.1.1.1.1.1.1.1.1.1.1.1.0;
      requests = p.1.1.1.1.1.1.1.1.1.1.1.1.1.0;
      holdings = p.1.1.1.1.1.1.1.1.1.1.1.1.1.1.0;
      summaries = p.1.1.1.1.1.1.1.1.1.1.1.1.1.1.1.0;
      holding_history = p.1.1.1.1.1.1.1.1.1.1.1.1.1.1.1.1.0;
      settlements = p.1.1.1.1.1.1.1.1.1.1.1.1.1.1.1.1.1.0;
      cash = p.1.1.1.1.1.1.1.1.1.1.1.1.1.1.1.1.1.1.0;
      moves = p.1.1.1.1.1.1.1.1.1.1.1.1.1.1.1.1.1.1.1.0;
    }

pub keys_whole : (t : Tables) → HasSortedTables t → has_tables_sorted_by_unique_key t ≡ true
unfolding has_tables_sorted_by_unique_key
keys_whole t h = whole (is_sorted_by_unique_key kept_key t.kept) (rests t) h.kept (
  h.brokers,
  (
    h.customers,
    (
      h.accounts,
      (
        h.permissions,
        (
          h.securities,
          (
            h.last_trades,
            (
              h.charges,
              (
                h.bands,
                (
                  h.tax_rates,
                  (
                    h.customer_taxes,
                    (h.trades, (h.history, (h.requests, (h.holdings, (h.summaries, (h.holding_history, (h.settlements, (h.cash, (h.moves, tt))))))))),
                  ),
                ),
              ),
            ),
          ),
        ),
      ),
    ),
  ),
)
