-- The checks of the condition `Form`, in groups and as a whole.
use Rattle.std.proofs.Common.{◌≡◌, Bool, true, false, List, [], ◌∷◌, refl, sym, ◌∙◌, ap, map}
use Rattle.std.specs.Prelude.{◌&&◌}
use Rattle.std.specs.List.{list_all}
use Rattle.std.proofs.lemmas.List.Folds.{list_all-map}
use Rattle.brk_model.specs.Keys.{KeyPart, is_key_less, kept_key, broker_key, customer_key, account_key, permission_key, security_key, last_trade_key}
use Rattle.brk_model.specs.Keys.{charge_key, band_key, tax_rate_key, customer_tax_key, trade_key, history_key, request_key, holding_key, summary_key}
use Rattle.brk_model.specs.Keys.{holding_history_key, settlement_key, cash_transaction_key, cash_move_key}
use Rattle.brk_model.specs.Form.{is_sorted_by_unique_key, has_tables_sorted_by_unique_key, is_well_formed_kept_row, is_well_formed_broker_row}
use Rattle.brk_model.specs.Form.{is_well_formed_customer_row, is_well_formed_account_row, is_well_formed_permission_row, is_well_formed_security_row}
use Rattle.brk_model.specs.Form.{is_well_formed_last_trade_row, is_well_formed_charge_row, is_well_formed_band_row, is_well_formed_tax_rate_row}
use Rattle.brk_model.specs.Form.{is_well_formed_customer_tax_row, is_well_formed_trade_row, is_well_formed_history_row, is_well_formed_request_row}
use Rattle.brk_model.specs.Form.{is_well_formed_holding_row, is_well_formed_summary_row, is_well_formed_holding_history_row, is_well_formed_settlement_row}
use Rattle.brk_ref.specs.Records.{kept_row_with_empty_texts, abstract_broker_row, abstract_customer, abstract_account_row, abstract_permission}
use Rattle.brk_ref.specs.Records.{abstract_security_row, abstract_last_trade_row, abstract_charge, abstract_band, abstract_tax_rate, abstract_customer_tax}
use Rattle.brk_ref.specs.Rows.{abstract_trade_row, abstract_history_row, abstract_request_row, abstract_holding_row, abstract_summary_row}
use Rattle.brk_ref.specs.Rows.{abstract_lot_change_row, abstract_settlement_row, abstract_old_cash_row, abstract_cash_row}
use Rattle.brk_trade_rows.specs.Sheets.{abstract_sheets}
use Rattle.brk_model.specs.Schemas.{Schema}
use Rattle.brk_model.specs.Tables.{Tables}
use Rattle.brk_trade_rows.specs.declared.sheets.Sheets.{Sheets}
use Rattle.brk_model_theorems.proofs.Conjunctions.{joined, parts, whole}
use Rattle.brk_model_theorems.proofs.FormParts.{keys_rise}
use Rattle.brk_audit_form.specs.Groups.{reference_rows_are_well_formed, reference_tables_are_sorted, trading_rows_are_well_formed, trading_tables_are_sorted}

pub rises-map : {X Y : Type 0} (key : Y → List KeyPart) (of : X → Y) (xs : List X) → is_sorted_by_unique_key (λ x. key (of x)) xs ≡ is_sorted_by_unique_key key (map of xs)
rises-map key of [] = refl
rises-map key of (x ∷ []) = refl
rises-map key of (x ∷ y ∷ xs) = ap (λ b. is_key_less (key (of x)) (key (of y)) && b) (rises-map key of (y ∷ xs))

regroup : (a r0 r1 r2 r3 r4 r5 r6 r7 r8 : Bool) → (a && (r0 && r1 && r2 && r3 && r4 && r5 && r6 && r7 && r8)) ≡ (a && r0 && r1 && r2 && r3 && r4 && r5 && r6 && r7 && r8)
regroup true r0 r1 r2 r3 r4 r5 r6 r7 r8 = refl
regroup false r0 r1 r2 r3 r4 r5 r6 r7 r8 = refl

pub keys_whole : (s : Sheets) → (reference_tables_are_sorted s && trading_tables_are_sorted s) ≡ has_tables_sorted_by_unique_key (abstract_sheets s)
unfolding has_tables_sorted_by_unique_key
keys_whole s =
    regroup (reference_tables_are_sorted s)
    (is_sorted_by_unique_key (λ r. trade_key (abstract_trade_row r)) s.trades.items)
    (is_sorted_by_unique_key (λ r. history_key (abstract_history_row r)) s.history.items)
    (is_sorted_by_unique_key (λ r. request_key (abstract_request_row r)) s.requests.items)
    (is_sorted_by_unique_key (λ r. holding_key (abstract_holding_row r)) s.holdings.items)
    (is_sorted_by_unique_key (λ r. summary_key (abstract_summary_row r)) s.summaries.items)
    (is_sorted_by_unique_key (λ r. holding_history_key (abstract_lot_change_row r)) s.holding_history.items)
    (is_sorted_by_unique_key (λ r. settlement_key (abstract_settlement_row r)) s.settlements.items)
    (is_sorted_by_unique_key (λ r. cash_transaction_key (abstract_old_cash_row r)) s.cash.items)
    (is_sorted_by_unique_key (λ r. cash_move_key (abstract_cash_row r)) s.moves.items)
    ∙ (λ i.
    rises-map kept_key kept_row_with_empty_texts s.kept.items i
    && rises-map broker_key abstract_broker_row s.brokers.items i
    && rises-map customer_key abstract_customer s.customers.items i
    && rises-map account_key abstract_account_row s.accounts.items i
    && rises-map permission_key abstract_permission s.permissions.items i
    && rises-map security_key abstract_security_row s.securities.items i
    && rises-map last_trade_key abstract_last_trade_row s.last_trades.items i
    && rises-map charge_key abstract_charge s.charges.items i
    && rises-map band_key abstract_band s.bands.items i
    && rises-map tax_rate_key abstract_tax_rate s.tax_rates.items i
    && rises-map customer_tax_key abstract_customer_tax s.customer_taxes.items i
    && rises-map trade_key abstract_trade_row s.trades.items i
    && rises-map history_key abstract_history_row s.history.items i
    && rises-map request_key abstract_request_row s.requests.items i
    && rises-map holding_key abstract_holding_row s.holdings.items i
    && rises-map summary_key abstract_summary_row s.summaries.items i
    && rises-map holding_history_key abstract_lot_change_row s.holding_history.items i
    && rises-map settlement_key abstract_settlement_row s.settlements.items i
    && rises-map cash_transaction_key abstract_old_cash_row s.cash.items i
    && rises-map cash_move_key abstract_cash_row s.moves.items i)

-- the parts of the forms of records
pub record ReferenceForms (schema : Schema) (s : Sheets) : Type 0 where
  pub kept : list_all is_well_formed_kept_row (map kept_row_with_empty_texts s.kept.items) ≡ true
  pub brokers : list_all is_well_formed_broker_row (map abstract_broker_row s.brokers.items) ≡ true
  pub customers : list_all is_well_formed_customer_row (map abstract_customer s.customers.items) ≡ true
  pub accounts : list_all (is_well_formed_account_row (abstract_sheets s)) (map abstract_account_row s.accounts.items) ≡ true
  pub permissions : list_all (is_well_formed_permission_row (abstract_sheets s)) (map abstract_permission s.permissions.items) ≡ true
  pub securities : list_all (is_well_formed_security_row (abstract_sheets s)) (map abstract_security_row s.securities.items) ≡ true
  pub last_trades : list_all (is_well_formed_last_trade_row (abstract_sheets s)) (map abstract_last_trade_row s.last_trades.items) ≡ true
  pub charges : list_all is_well_formed_charge_row (map abstract_charge s.charges.items) ≡ true
  pub bands : list_all (is_well_formed_band_row schema) (map abstract_band s.bands.items) ≡ true
  pub tax_rates : list_all is_well_formed_tax_rate_row (map abstract_tax_rate s.tax_rates.items) ≡ true
  pub customer_taxes : list_all (is_well_formed_customer_tax_row (abstract_sheets s)) (map abstract_customer_tax s.customer_taxes.items) ≡ true

-- and of trades
pub record TradingForms (schema : Schema) (s : Sheets) : Type 0 where
  pub trades : list_all (is_well_formed_trade_row schema (abstract_sheets s)) (map abstract_trade_row s.trades.items) ≡ true
  pub history : list_all (is_well_formed_history_row (abstract_sheets s)) (map abstract_history_row s.history.items) ≡ true
  pub requests : list_all (is_well_formed_request_row schema (abstract_sheets s)) (map abstract_request_row s.requests.items) ≡ true
  pub holdings : list_all (is_well_formed_holding_row (abstract_sheets s)) (map abstract_holding_row s.holdings.items) ≡ true
  pub summaries : list_all (is_well_formed_summary_row schema (abstract_sheets s)) (map abstract_summary_row s.summaries.items) ≡ true
  pub holding_history : list_all (is_well_formed_holding_history_row (abstract_sheets s)) (map abstract_lot_change_row s.holding_history.items) ≡ true
  pub settlements : list_all (is_well_formed_settlement_row (abstract_sheets s)) (map abstract_settlement_row s.settlements.items) ≡ true

-- those after the first one
abbrev reference_rests : Schema → Sheets → List Bool
reference_rests schema s =
    list_all is_well_formed_broker_row (map abstract_broker_row s.brokers.items) ∷
    list_all is_well_formed_customer_row (map abstract_customer s.customers.items) ∷
    list_all (is_well_formed_account_row (abstract_sheets s)) (map abstract_account_row s.accounts.items) ∷
    list_all (is_well_formed_permission_row (abstract_sheets s)) (map abstract_permission s.permissions.items) ∷
    list_all (is_well_formed_security_row (abstract_sheets s)) (map abstract_security_row s.securities.items) ∷
    list_all (is_well_formed_last_trade_row (abstract_sheets s)) (map abstract_last_trade_row s.last_trades.items) ∷
    list_all is_well_formed_charge_row (map abstract_charge s.charges.items) ∷
    list_all (is_well_formed_band_row schema) (map abstract_band s.bands.items) ∷
    list_all is_well_formed_tax_rate_row (map abstract_tax_rate s.tax_rates.items) ∷
    list_all (is_well_formed_customer_tax_row (abstract_sheets s)) (map abstract_customer_tax s.customer_taxes.items) ∷ []

reference_mapped : (schema : Schema) (s : Sheets)
    → joined (list_all is_well_formed_kept_row (map kept_row_with_empty_texts s.kept.items)) (reference_rests schema s)
    ≡ reference_rows_are_well_formed schema s
reference_mapped schema s = λ i.
    list_all-map is_well_formed_kept_row kept_row_with_empty_texts s.kept.items i
    && list_all-map is_well_formed_broker_row abstract_broker_row s.brokers.items i
    && list_all-map is_well_formed_customer_row abstract_customer s.customers.items i
    && list_all-map (is_well_formed_account_row (abstract_sheets s)) abstract_account_row s.accounts.items i
    && list_all-map (is_well_formed_permission_row (abstract_sheets s)) abstract_permission s.permissions.items i
    && list_all-map (is_well_formed_security_row (abstract_sheets s)) abstract_security_row s.securities.items i
    && list_all-map (is_well_formed_last_trade_row (abstract_sheets s)) abstract_last_trade_row s.last_trades.items i
    && list_all-map is_well_formed_charge_row abstract_charge s.charges.items i
    && list_all-map (is_well_formed_band_row schema) abstract_band s.bands.items i
    && list_all-map is_well_formed_tax_rate_row abstract_tax_rate s.tax_rates.items i
    && list_all-map (is_well_formed_customer_tax_row (abstract_sheets s)) abstract_customer_tax s.customer_taxes.items i

pub reference_forms_parts : (schema : Schema) (s : Sheets) → reference_rows_are_well_formed schema s ≡ true → ReferenceForms schema s
reference_forms_parts schema s h =
    let p = parts (list_all is_well_formed_kept_row (map kept_row_with_empty_texts s.kept.items)) (reference_rests schema s) (reference_mapped schema s ∙ h) in
    record {
      kept = p.0;
      brokers = p.1.0;
      customers = p.1.1.0;
      accounts = p.1.1.1.0;
      permissions = p.1.1.1.1.0;
      securities = p.1.1.1.1.1.0;
      last_trades = p.1.1.1.1.1.1.0;
      charges = p.1.1.1.1.1.1.1.0;
      bands = p.1.1.1.1.1.1.1.1.0;
      tax_rates = p.1.1.1.1.1.1.1.1.1.0;
      customer_taxes = p.1.1.1.1.1.1.1.1.1.1.0;
    }

pub reference_forms_whole : (schema : Schema) (s : Sheets) → ReferenceForms schema s → reference_rows_are_well_formed schema s ≡ true
reference_forms_whole schema s p =
    sym (reference_mapped schema s)
    ∙ whole (list_all is_well_formed_kept_row (map kept_row_with_empty_texts s.kept.items)) (reference_rests schema s) p.kept (
      p.brokers,
      (
        p.customers,
        (p.accounts, (p.permissions, (p.securities, (p.last_trades, (p.charges, (p.bands, (p.tax_rates, (p.customer_taxes, tt)))))))),
      ),
    )

-- those after the first one
abbrev trading_rests : Schema → Sheets → List Bool
trading_rests schema s =
    list_all (is_well_formed_history_row (abstract_sheets s)) (map abstract_history_row s.history.items) ∷
    list_all (is_well_formed_request_row schema (abstract_sheets s)) (map abstract_request_row s.requests.items) ∷
    list_all (is_well_formed_holding_row (abstract_sheets s)) (map abstract_holding_row s.holdings.items) ∷
    list_all (is_well_formed_summary_row schema (abstract_sheets s)) (map abstract_summary_row s.summaries.items) ∷
    list_all (is_well_formed_holding_history_row (abstract_sheets s)) (map abstract_lot_change_row s.holding_history.items) ∷
    list_all (is_well_formed_settlement_row (abstract_sheets s)) (map abstract_settlement_row s.settlements.items) ∷ []

trading_mapped : (schema : Schema) (s : Sheets)
    → joined (list_all (is_well_formed_trade_row schema (abstract_sheets s)) (map abstract_trade_row s.trades.items)) (trading_rests schema s)
    ≡ trading_rows_are_well_formed schema s
trading_mapped schema s = λ i.
    list_all-map (is_well_formed_trade_row schema (abstract_sheets s)) abstract_trade_row s.trades.items i
    && list_all-map (is_well_formed_history_row (abstract_sheets s)) abstract_history_row s.history.items i
    && list_all-map (is_well_formed_request_row schema (abstract_sheets s)) abstract_request_row s.requests.items i
    && list_all-map (is_well_formed_holding_row (abstract_sheets s)) abstract_holding_row s.holdings.items i
    && list_all-map (is_well_formed_summary_row schema (abstract_sheets s)) abstract_summary_row s.summaries.items i
    && list_all-map (is_well_formed_holding_history_row (abstract_sheets s)) abstract_lot_change_row s.holding_history.items i
    && list_all-map (is_well_formed_settlement_row (abstract_sheets s)) abstract_settlement_row s.settlements.items i

pub trading_forms_parts : (schema : Schema) (s : Sheets) → trading_rows_are_well_formed schema s ≡ true → TradingForms schema s
trading_forms_parts schema s h =
    let p = parts (list_all (is_well_formed_trade_row schema (abstract_sheets s)) (map abstract_trade_row s.trades.items)) (trading_rests schema s) (trading_mapped schema s ∙ h) in
    record {
      trades = p.0;
      history = p.1.0;
      requests = p.1.1.0;
      holdings = p.1.1.1.0;
      summaries = p.1.1.1.1.0;
      holding_history = p.1.1.1.1.1.0;
      settlements = p.1.1.1.1.1.1.0;
    }

pub trading_forms_whole : (schema : Schema) (s : Sheets) → TradingForms schema s → trading_rows_are_well_formed schema s ≡ true
trading_forms_whole schema s p =
    sym (trading_mapped schema s)
    ∙ whole (list_all (is_well_formed_trade_row schema (abstract_sheets s)) (map abstract_trade_row s.trades.items)) (trading_rests schema s) p.trades
    (p.history, (p.requests, (p.holdings, (p.summaries, (p.holding_history, (p.settlements, tt))))))

-- the keys of the bands
pub bands_rise : (t : Tables) → has_tables_sorted_by_unique_key t ≡ true → is_sorted_by_unique_key band_key t.bands ≡ true
bands_rise t h = (keys_rise t h).bands
