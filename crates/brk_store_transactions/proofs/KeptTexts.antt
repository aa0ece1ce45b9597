-- No condition of an audit reads the texts of KEPT.
use Rattle.std.proofs.Common.{◌≡◌, ◌&&◌, Bool, List, [], ◌∷◌, map, Option, IsTrue, refl, sym, ap, subst, ◌∙◌, inl, inr}
use Rattle.std.specs.Prelude.{filter, is_none, length, nat_le}
use Rattle.std.specs.List.{list_all, range_with_len}
use Rattle.brk_money.specs.declared.fault.Condition.{Condition}
use Rattle.brk_money.specs.declared.fault.Condition.TheVariants as condition
use Rattle.brk_model.specs.Adopted.{base_of_tables}
use Rattle.brk_model.specs.Audit.{ConditionHolds, IsFirstFailingCondition}
use Rattle.brk_model.specs.Form.{are_equal_number_lists, has_disjoint_bands, has_distinct_tax_ids, is_last_stamp_in_calendar, is_one_day_settlement_start_in_calendar}
use Rattle.brk_model.specs.Form.{is_sorted_by_unique_key, is_well_formed_account_row, is_well_formed_band_row, is_well_formed_broker_row}
use Rattle.brk_model.specs.Form.{is_well_formed_cash_transaction_row, is_well_formed_charge_row, is_well_formed_customer_row, is_well_formed_customer_tax_row}
use Rattle.brk_model.specs.Form.{is_well_formed_history_row, is_well_formed_holding_history_row, is_well_formed_holding_row, is_well_formed_kept_row}
use Rattle.brk_model.specs.Form.{is_well_formed_key, is_well_formed_last_trade_row, is_well_formed_cash_move_row, is_well_formed_permission_row}
use Rattle.brk_model.specs.Form.{is_well_formed_request_row, is_well_formed_security_row, is_well_formed_settlement_row, is_well_formed_summary_row}
use Rattle.brk_model.specs.Form.{is_well_formed_tax_rate_row, is_well_formed_trade_row, is_within_customer_limits, has_rows_only_in_tables_of_schema}
use Rattle.brk_model.specs.Form.{satisfies_form_condition, has_tables_sorted_by_unique_key, trade_ids_of_cash_rows}
use Rattle.brk_model.specs.Keys.{KeyPart, number, word, is_key_less, kept_key, account_key, band_key, broker_key, cash_transaction_key, charge_key}
use Rattle.brk_model.specs.Keys.{customer_key, customer_tax_key, history_key, holding_history_key, holding_key, last_trade_key, cash_move_key, permission_key}
use Rattle.brk_model.specs.Keys.{request_key, security_key, settlement_key, summary_key, tax_rate_key, trade_key}
use Rattle.brk_model.specs.Limits.{greatest_id}
use Rattle.brk_model.specs.Lists.{all_distinct}
use Rattle.brk_model.specs.Records.{Key, Kept}
use Rattle.brk_model.specs.Schemas.{Schema}
use Rattle.brk_model.specs.Sheets.{tables_sorted_by_key}
use Rattle.brk_model.specs.Tables.{Tables, tables_of_base_in_schema}
use Rattle.brk_model.specs.Ways.{satisfies_status_condition}

abbrev parts : Key → List KeyPart
parts key = word key.batch ∷ number key.n ∷ []

-- the rows are sorted if their keys are
sorted_by_keys : (ks : List Kept) → is_sorted_by_unique_key kept_key ks ≡ is_sorted_by_unique_key parts (map (λ k. k.key) ks)
sorted_by_keys [] = refl
sorted_by_keys (k ∷ []) = refl
sorted_by_keys (k ∷ l ∷ ks) = ap (λ b. is_key_less (kept_key k) (kept_key l) && b) (sorted_by_keys (l ∷ ks))

-- the rows are well-formed if their keys are
formed_by_keys : (ks : List Kept) → list_all is_well_formed_kept_row ks ≡ list_all is_well_formed_key (map (λ k. k.key) ks)
formed_by_keys [] = refl
formed_by_keys (k ∷ ks) = ap (λ b. is_well_formed_key k.key && b) (formed_by_keys ks)

-- the conditions on keys and on form, with the answers for KEPT
abbrev sorted_with : Tables → Bool → Bool
sorted_with t sorted =
    sorted
    && is_sorted_by_unique_key broker_key t.brokers
    && is_sorted_by_unique_key customer_key t.customers
    && is_sorted_by_unique_key account_key t.accounts
    && is_sorted_by_unique_key permission_key t.permissions
    && is_sorted_by_unique_key security_key t.securities
    && is_sorted_by_unique_key last_trade_key t.last_trades
    && is_sorted_by_unique_key charge_key t.charges
    && is_sorted_by_unique_key band_key t.bands
    && is_sorted_by_unique_key tax_rate_key t.tax_rates
    && is_sorted_by_unique_key customer_tax_key t.customer_taxes
    && is_sorted_by_unique_key trade_key t.trades
    && is_sorted_by_unique_key history_key t.history
    && is_sorted_by_unique_key request_key t.requests
    && is_sorted_by_unique_key holding_key t.holdings
    && is_sorted_by_unique_key summary_key t.summaries
    && is_sorted_by_unique_key holding_history_key t.holding_history
    && is_sorted_by_unique_key settlement_key t.settlements
    && is_sorted_by_unique_key cash_transaction_key t.cash
    && is_sorted_by_unique_key cash_move_key t.moves

abbrev formed_with : Schema → Tables → Bool → Bool → Bool
formed_with schema t sorted formed =
    is_last_stamp_in_calendar t.last
    && sorted
    && has_distinct_tax_ids t.customers
    && formed
    && list_all is_well_formed_broker_row t.brokers
    && list_all is_well_formed_customer_row t.customers && list_all (is_within_customer_limits t) t.customers
    && list_all (is_well_formed_account_row t) t.accounts
    && list_all (is_well_formed_permission_row t) t.permissions
    && list_all (is_well_formed_security_row t) t.securities
    && list_all (is_well_formed_last_trade_row t) t.last_trades
    && list_all is_well_formed_charge_row t.charges
    && list_all (is_well_formed_band_row schema) t.bands && has_disjoint_bands t.bands
    && list_all is_well_formed_tax_rate_row t.tax_rates
    && list_all (is_well_formed_customer_tax_row t) t.customer_taxes
    && list_all (is_well_formed_trade_row schema t) t.trades && are_equal_number_lists (map (λ row. row.id) t.trades) (range_with_len 1 (length t.trades))
    && list_all (is_well_formed_history_row t) t.history
    && list_all (is_well_formed_request_row schema t) t.requests
    && list_all (is_well_formed_holding_row t) t.holdings
    && list_all (is_well_formed_summary_row schema t) t.summaries
    && list_all (is_well_formed_holding_history_row t) t.holding_history
    && list_all (is_well_formed_settlement_row t) t.settlements
    && list_all (is_well_formed_cash_transaction_row t) t.cash
    && list_all (is_well_formed_cash_move_row t) t.moves && all_distinct (trade_ids_of_cash_rows t.moves)
    && nat_le (length (filter (λ r. is_none r.trade) t.moves)) greatest_id
    && is_one_day_settlement_start_in_calendar t.rule
    && has_rows_only_in_tables_of_schema schema t

module _ (schema : Schema) (t : Tables) (ks ls : List Kept) (same : map (λ k. k.key) ks ≡ map (λ k. k.key) ls) where
  sorted_alike : has_tables_sorted_by_unique_key (record t { kept = ks }) ≡ has_tables_sorted_by_unique_key (record t { kept = ls })
  unfolding has_tables_sorted_by_unique_key
  sorted_alike = ap (sorted_with t) (sorted_by_keys ks ∙ ap (is_sorted_by_unique_key parts) same ∙ sym (sorted_by_keys ls))

  formed_alike : list_all is_well_formed_kept_row ks ≡ list_all is_well_formed_kept_row ls
  formed_alike = formed_by_keys ks ∙ ap (list_all is_well_formed_key) same ∙ sym (formed_by_keys ls)

  form_alike : satisfies_form_condition schema (record t { kept = ks }) ≡ satisfies_form_condition schema (record t { kept = ls })
  unfolding satisfies_form_condition base_of_tables
  form_alike =
      ap (λ sorted. formed_with schema t sorted (list_all is_well_formed_kept_row ks)) sorted_alike
      ∙ ap (formed_with schema t (has_tables_sorted_by_unique_key (record t { kept = ls }))) formed_alike

  holds_alike : (c : Condition) → ConditionHolds schema c (record t { kept = ks }) → ConditionHolds schema c (record t { kept = ls })
  unfolding ConditionHolds satisfies_status_condition base_of_tables tables_sorted_by_key tables_of_base_in_schema
  holds_alike condition.NotEmpty h = h
  holds_alike condition.Schema h = h
  holds_alike condition.Form h = subst IsTrue form_alike h
  holds_alike condition.Status h = h
  holds_alike condition.Requests h = h
  holds_alike condition.Lots h = h
  holds_alike condition.History h = h
  holds_alike condition.Summary h = h
  holds_alike condition.Count h = h
  holds_alike condition.Commission h = h
  holds_alike condition.Settlement h = h
  holds_alike condition.Cash h = h
  holds_alike condition.Balance h = h

-- tables whose rows of KEPT have the same keys have the same answer
pub answer_alike : (schema : Schema) (t : Tables) (ks ls : List Kept) → map (λ k. k.key) ks ≡ map (λ k. k.key) ls
    → (cs : List Condition) (answer : Option Condition) → IsFirstFailingCondition schema cs (record t { kept = ks }) answer
    → IsFirstFailingCondition schema cs (record t { kept = ls }) answer
answer_alike schema t ks ls same [] answer h = h
answer_alike schema t ks ls same (c ∷ cs) answer (inl h) = inl (holds_alike schema t ks ls same c h.0, answer_alike schema t ks ls same cs answer h.1)
answer_alike schema t ks ls same (c ∷ cs) answer (inr h) = inr ((λ k. h.0 (holds_alike schema t ls ks (sym same) c k)), h.1)
