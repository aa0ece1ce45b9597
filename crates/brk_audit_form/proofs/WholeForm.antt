-- The condition `Form` from its groups of checks.
use Rattle.std.proofs.Common.{◌≡◌, suc, Bool, true, List, [], ◌∷◌, refl, sym, ◌∙◌, ap, map, filter, length}
use Rattle.std.specs.Prelude.{◌↔◌, is_none, nat_le, IsTrue, IfOk, Result, Ok, Err}
use Rattle.std.specs.Cmp.{both_ways}
use Rattle.std.specs.List.{list_all, range_with_len}
use Rattle.std.specs.Option.{option_map_or}
use Rattle.brk_money.specs.Moments.{greatest_day, greatest_stamp}
use Rattle.brk_model.specs.Limits.{greatest_id}
use Rattle.brk_model.specs.Lists.{all_distinct}
use Rattle.brk_model.specs.Schemas.{Schema}
use Rattle.brk_model.specs.Form.{satisfies_form_condition, has_tables_sorted_by_unique_key, has_disjoint_bands, are_equal_number_lists, has_distinct_tax_ids}
use Rattle.brk_model.specs.Form.{is_within_customer_limits, is_well_formed_cash_transaction_row, is_well_formed_cash_move_row, trade_ids_of_cash_rows}
use Rattle.brk_model.specs.Form.{has_rows_only_in_tables_of_schema}
use Rattle.brk_ref.specs.Records.{abstract_customer, abstract_band}
use Rattle.brk_ref.specs.Rows.{abstract_trade_row, abstract_old_cash_row, abstract_cash_row}
use Rattle.brk_trade_rows.specs.Sheets.{abstract_sheets}
use Rattle.brk_trade_rows.specs.declared.sheets.Sheets.{Sheets}
use Rattle.brk_model_theorems.specs.FormParts.{SatisfiesFormParts}
use Rattle.brk_model_theorems.proofs.FormParts.{form_parts}
use Rattle.brk_model_theorems.proofs.Conjunctions.{Hold, joined, parts, whole}
use Rattle.brk_model_theorems.proofs.FormParts.{form_whole}
use Rattle.brk_audit_form.specs.Groups.{passes_nonallocating_form_checks, reference_rows_are_well_formed, trading_rows_are_well_formed}
use Rattle.brk_audit_form.proofs.CustomerSums.{count-mapped}
use Rattle.brk_audit_form.proofs.FormGroups.{ReferenceForms, TradingForms, reference_forms_parts, reference_forms_whole, trading_forms_parts, trading_forms_whole}

map-map : {X Y Z : Type 0} (f : Y → Z) (of : X → Y) (xs : List X) → map (λ x. f (of x)) xs ≡ map f (map of xs)
map-map f of [] = refl
map-map f of (x ∷ xs) = ap (λ l. f (of x) ∷ l) (map-map f of xs)

length-mapped : {X Y : Type 0} (of : X → Y) (xs : List X) → length xs ≡ length (map of xs)
length-mapped of [] = refl
length-mapped of (x ∷ xs) = ap (λ n. suc n) (length-mapped of xs)

numbers-mapped : (s : Sheets) → are_equal_number_lists (map (λ row. row.id) s.trades.items) (range_with_len 1 (length s.trades.items))
    ≡ are_equal_number_lists (map (λ row. row.id) (map abstract_trade_row s.trades.items)) (range_with_len 1 (length (map abstract_trade_row s.trades.items)))
numbers-mapped s = λ i. are_equal_number_lists (map-map (λ row. row.id) abstract_trade_row s.trades.items i) (range_with_len 1 (length-mapped abstract_trade_row s.trades.items i))

moves-counted : (s : Sheets) → nat_le (length (filter (λ r. is_none r.trade) s.moves.items)) greatest_id
    ≡ nat_le (length (filter (λ r. is_none r.trade) (map abstract_cash_row s.moves.items))) greatest_id
moves-counted s = ap (λ n. nat_le n greatest_id) (count-mapped (λ r. is_none r.trade) abstract_cash_row s.moves.items)

-- the tests with memory, after the plain ones
abbrev pub rests : Sheets → List Bool
rests s =
    has_distinct_tax_ids (map abstract_customer s.customers.items) ∷
    list_all (is_within_customer_limits (abstract_sheets s)) (map abstract_customer s.customers.items) ∷
    list_all (is_well_formed_cash_transaction_row (abstract_sheets s)) (map abstract_old_cash_row s.cash.items) ∷
    list_all (is_well_formed_cash_move_row (abstract_sheets s)) (map abstract_cash_row s.moves.items) ∷
    all_distinct (trade_ids_of_cash_rows (map abstract_cash_row s.moves.items)) ∷ []

-- the plain tests, after the keys
abbrev plain_rests : Schema → Sheets → List Bool
plain_rests schema s =
    reference_rows_are_well_formed schema s ∷
    option_map_or (λ last. nat_le last greatest_stamp) s.last true ∷
    trading_rows_are_well_formed schema s ∷
    has_disjoint_bands (map abstract_band s.bands.items) ∷
    are_equal_number_lists (map (λ row. row.id) s.trades.items) (range_with_len 1 (length s.trades.items)) ∷
    nat_le (length (filter (λ r. is_none r.trade) s.moves.items)) greatest_id ∷
    option_map_or (λ day. nat_le day greatest_day) s.rule true ∷
    has_rows_only_in_tables_of_schema schema (abstract_sheets s) ∷ []

forth : (schema : Schema) (s : Sheets) → passes_nonallocating_form_checks schema s ≡ true → Hold (rests s) → satisfies_form_condition schema (abstract_sheets s) ≡ true
forth schema s plain h =
    let t = abstract_sheets s in
    let p = parts (has_tables_sorted_by_unique_key t) (plain_rests schema s) plain in
    let r : ReferenceForms schema s = reference_forms_parts schema s p.1.0 in
    let q : TradingForms schema s = trading_forms_parts schema s p.1.1.1.0 in
    form_whole schema t (record {
      clock = p.1.1.0;
      keys = p.0;
      tax_ids = h.0;
      kept = r.kept;
      brokers = r.brokers;
      customers = r.customers;
      limits = h.1.0;
      accounts = r.accounts;
      permissions = r.permissions;
      securities = r.securities;
      last_trades = r.last_trades;
      charges = r.charges;
      bands = r.bands;
      apart = p.1.1.1.1.0;
      tax_rates = r.tax_rates;
      customer_taxes = r.customer_taxes;
      trades = q.trades;
      numbers = sym (numbers-mapped s) ∙ p.1.1.1.1.1.0;
      history = q.history;
      requests = q.requests;
      holdings = q.holdings;
      summaries = q.summaries;
      holding_history = q.holding_history;
      settlements = q.settlements;
      cash = h.1.1.0;
      moves = h.1.1.1.0;
      own_moves = h.1.1.1.1.0;
      counted = sym (moves-counted s) ∙ p.1.1.1.1.1.1.0;
      rule = p.1.1.1.1.1.1.1.0;
      fits = p.1.1.1.1.1.1.1.1.0;
    })

back : (schema : Schema) (s : Sheets) → SatisfiesFormParts schema (abstract_sheets s) → passes_nonallocating_form_checks schema s ≡ true
back schema s p =
    let r : ReferenceForms schema s = record {
      kept = p.kept;
      brokers = p.brokers;
      customers = p.customers;
      accounts = p.accounts;
      permissions = p.permissions;
      securities = p.securities;
      last_trades = p.last_trades;
      charges = p.charges;
      bands = p.bands;
      tax_rates = p.tax_rates;
      customer_taxes = p.customer_taxes;
    } in
    let q : TradingForms schema s = record {
      trades = p.trades;
      history = p.history;
      requests = p.requests;
      holdings = p.holdings;
      summaries = p.summaries;
      holding_history = p.holding_history;
      settlements = p.settlements;
    } in
    whole (has_tables_sorted_by_unique_key (abstract_sheets s)) (plain_rests schema s) p.keys
    (reference_forms_whole schema s r, (p.clock, (trading_forms_whole schema s q, (p.apart, (numbers-mapped s ∙ p.numbers, (moves-counted s ∙ p.counted, (p.rule, (p.fits, tt))))))))

-- each of the six tests is of the whole, and together they are it
pub form_told : (schema : Schema) (s : Sheets) → joined (passes_nonallocating_form_checks schema s) (rests s) ≡ satisfies_form_condition schema (abstract_sheets s)
form_told schema s =
    both_ways _ _
    (λ e. let p = parts (passes_nonallocating_form_checks schema s) (rests s) e in forth schema s p.0 p.1)
    (λ e. let p = form_parts schema (abstract_sheets s) e in
    whole (passes_nonallocating_form_checks schema s) (rests s) (back schema s p) (p.tax_ids, (p.limits, (p.cash, (p.moves, (p.own_moves, tt))))))

-- ---- what an answer of the checker says

pub told : (a b : Bool) → a ≡ b → IsTrue a ↔ IsTrue b
told a b p = ((λ e. sym p ∙ e), (λ e. p ∙ e))

pub each_told : {E : Type 0} (r : Result Bool E) (h b : Bool) → IfOk r (λ x. x ≡ b) → b ≡ h → IfOk r (λ x. IsTrue x ↔ IsTrue h)
each_told (Ok x) h b e p = told x h (e ∙ p)
each_told (Err f) h b e p = tt
