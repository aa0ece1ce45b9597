-- Lookups of permissions, securities, charges, bands and taxes find the records of the base.
use Rattle.std.proofs.Common.{◌≡◌, ℕ, ◌+◌, ◌==◌, ◌&&◌, Bool, true, false, cond, List, [], ◌∷◌, refl, sym, ◌∙◌, ap, map, filter, arith, Option, Some, None}
use Rattle.std.specs.Prelude.{◌||◌, find, is_some, option_map, unwrap_or, sum_by, nat_le, bytes_eq}
use Rattle.std.specs.List.{list_any}
use Rattle.std.specs.Option.{option_map_or}
use Rattle.std.proofs.lemmas.Bool.{eqb-true, eq-eqb}
use Rattle.std.proofs.lemmas.List.Sums.{sum_by-cons}
use Rattle.std.proofs.lemmas.Slice.Eq.{bytes_eq-Decides}
use Rattle.brk_money.specs.Spelling.{Text}
use Rattle.brk_money.specs.Kinds.{trade_type_code, is_same_trade_type}
use Rattle.brk_money.specs.declared.trade_type.TradeType.{TradeType}
use Rattle.brk_model.specs.Lists.{insert_by, sort_by}
use Rattle.brk_model.specs.Records.{Band, CustomerTax, TaxRate}
use Rattle.brk_model.specs.Base as base_spec
use Rattle.brk_model.specs.Base.{Base, security_with_symbol, charge_for_type_and_tier, tax_rate_record_with_id}
use Rattle.brk_model.specs.Keys.{KeyPart, number, word, is_row_key_less, rows_sorted_by_key, permission_key, charge_key, customer_tax_key, band_key}
use Rattle.brk_model.specs.Tables.{Tables, tables_of_base, security_row, last_trade_row, tables_of_base_in_schema}
use Rattle.brk_model.specs.Sheets.{sheets, tables_sorted_by_key}
use Rattle.brk_model.specs.Tests.{bands_overlap}
use Rattle.brk_ref.specs.Records.{abstract_tax_rate}
use Rattle.brk_ref.specs.declared.tax.Tax.{Tax}
use Rattle.brk_model.specs.Form.{has_security}
use Rattle.brk_trade_books.specs.Reads.{contains_permission, contains_charge, overlaps_some_band, tax_rate_with_id, rate_of_tax_rate_with_id}
use Rattle.brk_trade_books.specs.Reads.{contains_tax_rate, contains_customer_tax, customer_tax_rate_sum}
use Rattle.brk_trade_books.proofs.Order.{by_key-filter}
use Rattle.brk_trade_books.proofs.Reading.{find-key, find-id, find-map, is_some-map, some-is-any, any-sorted}
use Rattle.brk_trade_books.proofs.NewKeys.{same_bytes, code_same, same_codes, both, and_both}

-- ---- rows by their key

pub reads_permission : (base : Base) (account : ℕ) (tax_id : Text)
    → find (λ r. (r.account == account) && bytes_eq r.tax_id tax_id) (sheets base).permissions ≡ find (λ p. (p.account == account) && bytes_eq p.tax_id tax_id) base.permissions
unfolding tables_of_base_in_schema tables_sorted_by_key
reads_permission base account tax_id =
    find-key permission_key (λ r. (r.account == account) && bytes_eq r.tax_id tax_id) (number account ∷ word tax_id ∷ []) base.permissions (λ p e.
    let h = both (p.account == account) (bytes_eq p.tax_id tax_id) e in
    let n : p.account ≡ account = eqb-true p.account account h.0 in
    let s : p.tax_id ≡ tax_id = (bytes_eq-Decides p.tax_id tax_id).0 h.1 in
    λ i. number (n i) ∷ word (s i) ∷ [])

pub reads_security : (base : Base) (symbol : Text) → find (λ r. bytes_eq r.symbol symbol) (sheets base).securities ≡ option_map security_row (security_with_symbol base symbol)
unfolding tables_of_base_in_schema tables_sorted_by_key
reads_security base symbol =
    find-key (λ r. word r.symbol ∷ []) (λ r. bytes_eq r.symbol symbol) (word symbol ∷ []) (tables_of_base base).securities
    (λ r e. let s : r.symbol ≡ symbol = (bytes_eq-Decides r.symbol symbol).0 e in λ i. word (s i) ∷ [])
    ∙ find-map (λ r. bytes_eq r.symbol symbol) security_row base.securities

pub reads_last_trade : (base : Base) (symbol : Text) → find (λ r. bytes_eq r.symbol symbol) (sheets base).last_trades ≡ option_map last_trade_row (security_with_symbol base symbol)
unfolding tables_of_base_in_schema tables_sorted_by_key
reads_last_trade base symbol =
    find-key (λ r. word r.symbol ∷ []) (λ r. bytes_eq r.symbol symbol) (word symbol ∷ []) (tables_of_base base).last_trades
    (λ r e. let s : r.symbol ≡ symbol = (bytes_eq-Decides r.symbol symbol).0 e in λ i. word (s i) ∷ [])
    ∙ find-map (λ r. bytes_eq r.symbol symbol) last_trade_row base.securities

pub reads_charge : (base : Base) (kind : TradeType) (tier : ℕ) → find (λ r. is_same_trade_type r.kind kind && (r.tier == tier)) (sheets base).charges ≡ charge_for_type_and_tier base kind tier
unfolding tables_of_base_in_schema tables_sorted_by_key
reads_charge base kind tier =
    find-key charge_key (λ r. is_same_trade_type r.kind kind && (r.tier == tier)) (word (trade_type_code kind) ∷ number tier ∷ []) base.charges (λ c e.
    let h = both (is_same_trade_type c.kind kind) (c.tier == tier) e in
    let s : trade_type_code c.kind ≡ trade_type_code kind = same_codes c.kind kind h.0 in
    let n : c.tier ≡ tier = eqb-true c.tier tier h.1 in
    λ i. word (s i) ∷ number (n i) ∷ [])

pub reads_tax_rate : (base : Base) (id : ℕ) → find (λ r. r.id == id) (sheets base).tax_rates ≡ tax_rate_record_with_id base id
unfolding tables_of_base_in_schema tables_sorted_by_key
reads_tax_rate base id = find-id (λ r. r.id) id base.tax_rates

pub reads_customer_tax : (base : Base) (customer tax : ℕ)
    → find (λ r. (r.customer == customer) && (r.tax == tax)) (sheets base).customer_taxes ≡ find (λ x. (x.customer == customer) && (x.tax == tax)) base.customer_taxes
unfolding tables_of_base_in_schema tables_sorted_by_key
reads_customer_tax base customer tax =
    find-key customer_tax_key (λ r. (r.customer == customer) && (r.tax == tax)) (number customer ∷ number tax ∷ []) base.customer_taxes (λ x e.
    let h = both (x.customer == customer) (x.tax == tax) e in
    let m : x.customer ≡ customer = eqb-true x.customer customer h.0 in
    let n : x.tax ≡ tax = eqb-true x.tax tax h.1 in
    λ i. number (m i) ∷ number (n i) ∷ [])

-- ---- whether they are there

pub reads_has_permission : (base : Base) (account : ℕ) (tax_id : Text)
    → contains_permission (sheets base) account tax_id ≡ list_any (λ q. (q.account == account) && bytes_eq q.tax_id tax_id) base.permissions
reads_has_permission base account tax_id =
    ap is_some (reads_permission base account tax_id) ∙ some-is-any (λ q. (q.account == account) && bytes_eq q.tax_id tax_id) base.permissions

pub reads_has_security : (base : Base) (symbol : Text) → has_security (sheets base) symbol ≡ is_some (security_with_symbol base symbol)
reads_has_security base symbol = ap is_some (reads_security base symbol) ∙ is_some-map security_row (security_with_symbol base symbol)

pub reads_has_charge : (base : Base) (kind : TradeType) (tier : ℕ) → contains_charge (sheets base) kind tier ≡ is_some (charge_for_type_and_tier base kind tier)
reads_has_charge base kind tier = ap is_some (reads_charge base kind tier)

pub reads_has_tax_rate : (base : Base) (id : ℕ) → contains_tax_rate (sheets base) id ≡ is_some (tax_rate_record_with_id base id)
reads_has_tax_rate base id = ap is_some (reads_tax_rate base id)

pub reads_pays_tax : (base : Base) (customer tax : ℕ)
    → contains_customer_tax (sheets base) customer tax ≡ list_any (λ y. (y.customer == customer) && (y.tax == tax)) base.customer_taxes
reads_pays_tax base customer tax =
    ap is_some (reads_customer_tax base customer tax) ∙ some-is-any (λ y. (y.customer == customer) && (y.tax == tax)) base.customer_taxes

pub reads_rate : (base : Base) (id : ℕ) → rate_of_tax_rate_with_id (sheets base) id ≡ option_map (λ r. r.rate) (tax_rate_record_with_id base id)
reads_rate base id = ap (option_map (λ r. r.rate)) (reads_tax_rate base id)

-- ---- bands that meet

-- where only those that pass one test can pass another, the others can be left out
any-among : {X : Type 0} (p q : X → Bool) (xs : List X) → ((x : X) → q x ≡ true → p x ≡ true) → list_any q (filter p xs) ≡ list_any q xs
any-among p q [] h = refl
any-among p q (x ∷ xs) h = by_test (any-among p q xs h) (p x) (q x) refl refl (h x)
  where
    by_test : list_any q (filter p xs) ≡ list_any q xs → (b c : Bool) → p x ≡ b → q x ≡ c → (q x ≡ true → p x ≡ true) → list_any q (filter p (x ∷ xs)) ≡ list_any q (x ∷ xs)
    by_test ih true c e f g = rw e (ap (λ b. q x || b) ih)
    by_test ih false true e f g = let k : true ≡ false = sym (g f) ∙ e in absurd (cc)
    by_test ih false false e f g = rw (e, f) ih

meets_its_kind : (b c : Band) → bands_overlap b c ≡ true → (c.tier == b.tier) && is_same_trade_type c.kind b.kind && bytes_eq c.exchange b.exchange ≡ true
meets_its_kind b c h =
    let one = both _ (nat_le c.from_qty b.to_qty) h in
    let two = both _ (nat_le b.from_qty c.to_qty) one.0 in
    let three = both _ (bytes_eq b.exchange c.exchange) two.0 in
    let four = both (b.tier == c.tier) (is_same_trade_type b.kind c.kind) three.0 in
    and_both _ _ (and_both _ _ (eq-eqb c.tier b.tier (sym (eqb-true b.tier c.tier four.0))) (code_same c.kind b.kind (sym (same_codes b.kind c.kind four.1))))
    (same_bytes c.exchange b.exchange (sym ((bytes_eq-Decides b.exchange c.exchange).0 three.1)))

pub reads_overlap : (base : Base) (b : Band) → overlaps_some_band (sheets base) b ≡ list_any (bands_overlap b) base.bands
unfolding tables_of_base_in_schema tables_sorted_by_key
reads_overlap base b =
    any-among (λ r. (r.tier == b.tier) && is_same_trade_type r.kind b.kind && bytes_eq r.exchange b.exchange) (bands_overlap b) (rows_sorted_by_key band_key base.bands) (meets_its_kind b)
    ∙ any-sorted band_key (bands_overlap b) base.bands

-- ---- sums of rates

sum-insert : {X : Type 0} (f : X → ℕ) (before : X → X → Bool) (x : X) (ys : List X) → sum_by f (insert_by before x ys) ≡ f x + sum_by f ys
sum-insert f before x [] = sum_by-cons f x []
sum-insert f before x (y ∷ ys) = by_test (sum-insert f before x ys) (before y x)
  where
    by_test : sum_by f (insert_by before x ys) ≡ f x + sum_by f ys → (b : Bool) → sum_by f (cond b (y ∷ insert_by before x ys) (x ∷ y ∷ ys)) ≡ f x + sum_by f (y ∷ ys)
    by_test ih true = let e = sum_by-cons f y (insert_by before x ys) in let g = sum_by-cons f y ys in omega arith
    by_test ih false = sum_by-cons f x (y ∷ ys)

sum-sorted : {Row : Type 0} (key : Row → List KeyPart) (f : Row → ℕ) (xs : List Row) → sum_by f (rows_sorted_by_key key xs) ≡ sum_by f xs
unfolding sort_by
sum-sorted key f [] = refl
sum-sorted key f (x ∷ xs) =
    let e = sum-insert f (is_row_key_less key) x (rows_sorted_by_key key xs) in let g = sum-sorted key f xs in let h = sum_by-cons f x xs in omega arith

sum-same : {X : Type 0} (f g : X → ℕ) (xs : List X) → ((x : X) → f x ≡ g x) → sum_by f xs ≡ sum_by g xs
sum-same f g [] h = refl
sum-same f g (x ∷ xs) h =
    let a = sum_by-cons f x xs in let b = sum_by-cons g x xs in let c = sum-same f g xs h in let d = h x in omega arith

pub map-or : (o : Option TaxRate) → unwrap_or (option_map (λ r. r.rate) o) 0 ≡ option_map_or (λ r. r.rate) o 0
map-or None = refl
map-or (Some r) = refl

pub reads_rates : (base : Base) (customer : ℕ) → customer_tax_rate_sum (sheets base) customer ≡ base_spec.tax_rate_sum_of_customer base customer
unfolding tables_of_base_in_schema tables_sorted_by_key
reads_rates base customer =
    ap (sum_by (λ r. unwrap_or (rate_of_tax_rate_with_id (sheets base) r.tax) 0)) (sym (by_key-filter customer_tax_key (λ r. r.customer == customer) base.customer_taxes))
    ∙ sum-sorted customer_tax_key (λ r. unwrap_or (rate_of_tax_rate_with_id (sheets base) r.tax) 0) (filter (λ r. r.customer == customer) base.customer_taxes)
    ∙ sum-same _ _ (filter (λ r. r.customer == customer) base.customer_taxes) (λ x. ap (λ o. unwrap_or o 0) (reads_rate base x.tax) ∙ map-or (tax_rate_record_with_id base x.tax))

-- the rates of taxes that were found for rows, one for each
rates_found : (t : Tables) (rows : List CustomerTax) (taxes : List Tax) → map (λ tax. Some (abstract_tax_rate tax)) taxes ≡ map (λ r. tax_rate_with_id t r.tax) rows
    → sum_by (λ tax. tax.rate) taxes ≡ sum_by (λ r. unwrap_or (rate_of_tax_rate_with_id t r.tax) 0) rows
rates_found t [] [] e = refl
rates_found t [] (x ∷ taxes) e = absurd (cc)
rates_found t (r ∷ rows) [] e = absurd (cc)
rates_found t (r ∷ rows) (x ∷ taxes) e =
    let first : Some (abstract_tax_rate x) ≡ tax_rate_with_id t r.tax = cc in
    let rest : map (λ tax. Some (abstract_tax_rate tax)) taxes ≡ map (λ r. tax_rate_with_id t r.tax) rows = cc in
    let rate : x.rate ≡ unwrap_or (rate_of_tax_rate_with_id t r.tax) 0 = ap (λ o. unwrap_or (option_map (λ r. r.rate) o) 0) first in
    let a = sum_by-cons (λ tax. tax.rate) x taxes in
    let b = sum_by-cons (λ r. unwrap_or (rate_of_tax_rate_with_id t r.tax) 0) r rows in
    let c = rates_found t rows taxes rest in
    omega arith

pub taxes_found : (t : Tables) (customer : ℕ) (taxes : List Tax)
    → map (λ tax. Some (abstract_tax_rate tax)) taxes ≡ map (λ r. tax_rate_with_id t r.tax) (filter (λ r. r.customer == customer) t.customer_taxes)
    → sum_by (λ tax. tax.rate) taxes ≡ customer_tax_rate_sum t customer
taxes_found t customer taxes e = rates_found t (filter (λ r. r.customer == customer) t.customer_taxes) taxes e
