-- The printed settlement, tax and commission of a trade.
use Rattle.std.proofs.Common.{◌≡◌, ℕ, ◌+◌, ◌*◌, ◌==◌, ◌&&◌, Bool, true, false, cond, List, [], ◌∷◌, Option, Some, None, refl, sym, ◌∙◌, ap, map, filter, arith}
use Rattle.std.proofs.Common.{ℤ, pos, neg_ℤ, ◌+ℤ◌, ◌-ℤ◌, sum_by, is_some}
use Rattle.std.specs.Prelude.{bytes_eq, find, flat_map, nat_le, option_map, option_to_list, unwrap_or}
use Rattle.std.specs.Option.{option_map_or}
use Rattle.std.proofs.lemmas.Bool.{eq-eqb}
use Rattle.std.proofs.lemmas.Int.{ints}
use Rattle.std.proofs.lemmas.List.Sums.{sum_by-append, sum_by-cons}
use Rattle.brk_money.specs.Amounts.{commission, tax}
use Rattle.brk_money.specs.Kinds.{is_same_trade_type, side_of_trade_type}
use Rattle.brk_money.specs.Spelling.{Text}
use Rattle.brk_money.specs.declared.tax_status.TaxStatus.TheVariants.{Untaxed}
use Rattle.brk_model.specs.Base as base_spec
use Rattle.brk_model.specs.Base.{Base, account_with_id, commission_band_for_quantity, is_taxable_status, completed_trades, customer_id_of_account}
use Rattle.brk_model.specs.Base.{customer_with_id, exchange_of_security, is_completed, completion_price, security_with_symbol, is_withholding_status}
use Rattle.brk_model.specs.Base.{tax_status_in_accounts, tier_of_account, trade_with_id}
use Rattle.brk_model.specs.Derived.{settlement_amount, deal_of_trade, due_day, postings_of_base, signed_proceeds}
use Rattle.brk_model.specs.Orders.{commission_by_band, tax_on_deal}
use Rattle.brk_model.specs.Joins.{account_row_with_id, security_row_with_symbol}
use Rattle.brk_model.specs.Keys.{rows_sorted_by_key, settlement_key}
use Rattle.brk_model.specs.Records.{Account, Band, Customer, CustomerTax, Security, SettleRule, TaxRate, Trade}
use Rattle.brk_model.specs.Sheets.{sheets, tables_sorted_by_key}
use Rattle.brk_model.specs.Tables.{AccountRow, SettlementRow, Tables, account_row, security_row, settlement_row, tables_of_base_in_schema, trade_row}
use Rattle.brk_model_explain.specs.Trades.{band_for_customer_and_security, band_of_trade, band_for_tier_and_exchange, current_commission}
use Rattle.brk_model_explain.specs.Trades.{zero_settlement_row, tax_rates_of_customer, sum_of_tax_rates, settlement_of_trade_or_zeros, tax_at_current_rates}
use Rattle.brk_model_explain.specs.Trades.{signed_trade_value, withheld_tax_of_trade}
use Rattle.brk_trade_books.specs.Books.{BooksInvariant}
use Rattle.brk_trade_books.specs.Reads.{rate_of_tax_rate_with_id}
use Rattle.brk_trade_books.proofs.BandReading.{reads_band}
use Rattle.brk_trade_books.proofs.Places.{some_of}
use Rattle.brk_trade_books.proofs.Reading.{find-id, find-map, reads_account, reads_customer}
use Rattle.brk_trade_books.proofs.Same.{find-All}
use Rattle.brk_trade_books.proofs.TermReading.{reads_rates, reads_security}
use Rattle.brk_view_theorems.specs.Before.{shares_before_trade}
use Rattle.brk_view_theorems.specs.Closings.{PrintedClosingsMatchDeal, result_details_in_base}
use Rattle.brk_view_theorems.specs.Equations.{PrintedSettlementMatchesBase, order_details_in_base}
use Rattle.brk_view_theorems.proofs.Among.{Among, among}
use Rattle.brk_view_theorems.proofs.BalanceSums.{moved_is}
use Rattle.brk_view_theorems.proofs.ClosingLaws.{closes_as_told}
use Rattle.brk_view_theorems.proofs.SameTrade.{find_there}

-- ---- the row of the settlement

settlements_are : (base : Base) → (sheets base).settlements ≡ rows_sorted_by_key settlement_key (map (settlement_row base.accounts base.rule) (completed_trades base))
unfolding tables_of_base_in_schema tables_sorted_by_key
settlements_are base = refl

rule_is : (base : Base) → (sheets base).rule ≡ base.rule
unfolding tables_of_base_in_schema tables_sorted_by_key
rule_is base = refl

pub settlement_is : (base : Base) (t : Trade) → Among base t → settlement_of_trade_or_zeros (sheets base) t.id ≡ settlement_row base.accounts base.rule t
settlement_is base t a =
    ap (λ o. unwrap_or o zero_settlement_row)
    (ap (find (λ (s : SettlementRow). s.trade == t.id)) (settlements_are base) ∙ find-id (λ (s : SettlementRow). s.trade) t.id (map row (completed_trades base))
    ∙ find-map (λ (s : SettlementRow). s.trade == t.id) row (completed_trades base)
    ∙ ap (λ ts. option_map row (find (λ u. u.id == t.id) ts)) a.stands
    ∙ ap (option_map row) (find_there (λ u. u.id == t.id) a.front t a.back a.ids_before (eq-eqb t.id t.id refl)))
  where
    row : Trade → SettlementRow
    row = settlement_row base.accounts base.rule

-- ---- the account of the trade

-- what is read of an account, by the account itself
pub of_holder : {A : Type 0} (base : Base) (id : ℕ) (f : AccountRow → A) (g : Account → A) (none : A) → ((a : Account) → f (account_row base.accounts (postings_of_base base) a) ≡ g a)
    → option_map_or f (account_row_with_id (sheets base) id) none ≡ option_map_or g (account_with_id base id) none
of_holder {A = A} base id f g none h = ap (λ o. option_map_or f o none) (reads_account base id) ∙ by_account (account_with_id base id)
  where
    by_account : (o : Option Account) → option_map_or f (option_map (account_row base.accounts (postings_of_base base)) o) none ≡ option_map_or g o none
    by_account None = refl
    by_account (Some a) = h a

status_is : (base : Base) (t : Trade) → (order_details_in_base base t).tax_status ≡ tax_status_in_accounts base.accounts t.account
status_is base t = of_holder base t.account (λ a. a.tax_status) (λ a. a.tax_status) Untaxed (λ a. refl)

customer_is : (base : Base) (t : Trade) → (order_details_in_base base t).customer ≡ customer_id_of_account base t.account
customer_is base t = of_holder base t.account (λ a. a.customer) (λ a. a.customer) 0 (λ a. refl)

-- ---- the amount

parts : (p : ℤ) (a b c : ℕ) → p -ℤ pos (a + b + c) ≡ ((p +ℤ neg_ℤ (pos a)) +ℤ neg_ℤ (pos b)) +ℤ neg_ℤ (pos c)
parts p a b c = omega (arith, ints)

amount_parts : (base : Base) (t : Trade)
    → settlement_amount base.accounts t
    ≡ ((signed_trade_value (order_details_in_base base t) (result_details_in_base base t) +ℤ neg_ℤ (pos t.charge)) +ℤ neg_ℤ (pos t.commission)) +ℤ neg_ℤ
    (pos (withheld_tax_of_trade (order_details_in_base base t)))
amount_parts base t =
    parts (signed_proceeds (side_of_trade_type t.kind) (t.qty * completion_price t)) t.charge t.commission (cond (is_withholding_status (tax_status_in_accounts base.accounts t.account)) t.tax 0)
    ∙ ap (λ s. ((signed_proceeds (side_of_trade_type t.kind) (t.qty * completion_price t) +ℤ neg_ℤ (pos t.charge)) +ℤ neg_ℤ (pos t.commission)) +ℤ neg_ℤ
    (pos (cond (is_withholding_status s) t.tax 0))) (sym (status_is base t))

-- ---- the tax of now

rates_same : (T : Tables) (xs : List CustomerTax)
    → sum_of_tax_rates (flat_map (λ x. option_to_list (find (λ (r : TaxRate). r.id == x.tax) T.tax_rates)) xs) ≡ sum_by (λ x. unwrap_or (rate_of_tax_rate_with_id T x.tax) 0) xs
rates_same T [] = refl
rates_same T (x ∷ xs) =
    sum_by-append (λ (r : TaxRate). r.rate) (option_to_list (find (λ (r : TaxRate). r.id == x.tax) T.tax_rates)) (flat_map (λ x. option_to_list (find (λ (r : TaxRate). r.id == x.tax) T.tax_rates)) xs)
    ∙ (λ i. one (find (λ (r : TaxRate). r.id == x.tax) T.tax_rates) i + rates_same T xs i) ∙ sym (sum_by-cons (λ x. unwrap_or (rate_of_tax_rate_with_id T x.tax) 0) x xs)
  where
    one : (o : Option TaxRate) → sum_by (λ (r : TaxRate). r.rate) (option_to_list o) ≡ unwrap_or (option_map (λ (r : TaxRate). r.rate) o) 0
    one None = refl
    one (Some r) = alone r.rate (sum_by-cons (λ (r : TaxRate). r.rate) r [])
      where
        alone : (n : ℕ) → sum_by (λ (r : TaxRate). r.rate) (r ∷ []) ≡ n + 0 → sum_by (λ (r : TaxRate). r.rate) (r ∷ []) ≡ n
        alone n e = omega (arith, e)

rates_are : (base : Base) (customer : ℕ) → sum_of_tax_rates (tax_rates_of_customer (sheets base) customer) ≡ base_spec.tax_rate_sum_of_customer base customer
rates_are base customer = rates_same (sheets base) (filter (λ x. x.customer == customer) (sheets base).customer_taxes) ∙ reads_rates base customer

tax_is : (base : Base) (t : Trade) → PrintedClosingsMatchDeal base t
    → tax_at_current_rates (order_details_in_base base t) (result_details_in_base base t)
    ≡ tax_on_deal base t.account (deal_of_trade t) (shares_before_trade base t)
tax_is base t k =
    λ i. cond (is_taxable_status (status_is base t i))
    (tax (k.gained i) ((rates_are base (order_details_in_base base t).customer ∙ ap (base_spec.tax_rate_sum_of_customer base) (customer_is base t)) i)) 0

-- ---- the commission of now

find_both : {X : Type 0} (p q r : X → Bool) (xs : List X) → ((x : X) → r x ≡ q x && p x) → find r xs ≡ find p (filter q xs)
find_both p q r [] h = refl
find_both {X = X} p q r (x ∷ xs) h = ap (λ b. cond b (Some x) (find r xs)) (h x) ∙ by_test (q x) (find_both p q r xs h)
  where
    by_test : (b : Bool) → find r xs ≡ find p (filter q xs) → cond (b && p x) (Some x) (find r xs) ≡ find p (cond b (x ∷ filter q xs) (filter q xs))
    by_test true ih = ap (λ o. cond (p x) (Some x) o) ih
    by_test false ih = ih

and_assoc : (a b c : Bool) → (a && b) && c ≡ a && (b && c)
and_assoc true b c = refl
and_assoc false b c = refl

band_is : (base : Base) (t : Trade) (tier : ℕ) (exchange : Text) → BooksInvariant base
    → band_for_tier_and_exchange (sheets base) (trade_row t) tier exchange ≡ commission_band_for_quantity base tier t.kind exchange t.qty
band_is base t tier exchange books =
    find_both (λ (b : Band). nat_le b.from_qty t.qty && nat_le t.qty b.to_qty) (λ (b : Band). ((b.tier == tier) && is_same_trade_type b.kind t.kind) && bytes_eq b.exchange exchange)
    (λ (b : Band). ((((b.tier == tier) && is_same_trade_type b.kind t.kind) && bytes_eq b.exchange exchange) && nat_le b.from_qty t.qty) && nat_le t.qty b.to_qty) (sheets base).bands
    (λ b. and_assoc (((b.tier == tier) && is_same_trade_type b.kind t.kind) && bytes_eq b.exchange exchange) (nat_le b.from_qty t.qty) (nat_le t.qty b.to_qty))
    ∙ reads_band base tier t.kind exchange t.qty books

-- the customer and the security of a trade are there
band_found : (base : Base) (t : Trade) → BooksInvariant base → trade_with_id base t.id ≡ Some t
    → band_of_trade (sheets base) (trade_row t) ≡ commission_band_for_quantity base (tier_of_account base t.account) t.kind (exchange_of_security base t.symbol)
    t.qty
band_found base t books e =
    (λ i. band_for_customer_and_security T (trade_row t) (customer i) (security i)) ∙ band_is base t c.0.tier s.0.exchange books
    ∙ (λ i. commission_band_for_quantity base (option_map_or (λ (c : Customer). c.tier) (sym c.1 i) 0) t.kind (option_map_or (λ (s : Security). s.exchange) (sym s.1 i) []) t.qty)
  where
    T : Tables
    T = sheets base

    a : (a : Account) × (account_with_id base t.account ≡ Some a)
    a = some_of (account_with_id base t.account) (find-All (λ u. is_some (account_with_id base u.account) ≡ true) (λ u. u.id == t.id) base.trades t books.accounts e)

    known : is_some (customer_with_id base (customer_id_of_account base t.account)) ≡ true
    known = ap (λ o. is_some (customer_with_id base (option_map_or (λ (a : Account). a.customer) o 0))) a.1
        ∙ find-All (λ (a : Account). is_some (customer_with_id base a.customer) ≡ true) (λ (a : Account). a.id == t.account) base.accounts a.0 books.customers a.1

    c : (c : Customer) × (customer_with_id base (customer_id_of_account base t.account) ≡ Some c)
    c = some_of (customer_with_id base (customer_id_of_account base t.account)) known

    s : (s : Security) × (security_with_symbol base t.symbol ≡ Some s)
    s = some_of (security_with_symbol base t.symbol) (find-All (λ u. is_some (security_with_symbol base u.symbol) ≡ true) (λ u. u.id == t.id) base.trades t books.securities e)

    customer : find (λ (c : Customer). c.id == (order_details_in_base base t).customer) T.customers ≡ Some c.0
    customer = ap (λ (n : ℕ). find (λ (c : Customer). c.id == n) T.customers) (customer_is base t) ∙ reads_customer base (customer_id_of_account base t.account) ∙ c.1

    security : security_row_with_symbol T t.symbol ≡ Some (security_row s.0)
    security = reads_security base t.symbol ∙ ap (option_map security_row) s.1

commission_is : (base : Base) (t : Trade) → BooksInvariant base → trade_with_id base t.id ≡ Some t
    → current_commission (order_details_in_base base t) (result_details_in_base base t) ≡ commission_by_band base t.account t.kind t.symbol t.qty (completion_price t)
commission_is base t books e = ap (option_map (λ (b : Band). commission b.rate t.qty (completion_price t))) (band_found base t books e)

-- ---- the whole

pub settles_as_told : (base : Base) (t : Trade) → BooksInvariant base → trade_with_id base t.id ≡ Some t → is_completed t ≡ true → PrintedSettlementMatchesBase base t
settles_as_told base t books found c = record {
  sum = amount ∙ amount_parts base t;
  amount = amount;
  moved = moved_is base t a ∙ ap (λ z. cond t.is_cash z (pos 0)) (sym amount);
  due = ap (λ (s : SettlementRow). s.due_day) (settlement_is base t a) ∙ ap (λ (rule : SettleRule). due_day rule t) (sym (rule_is base));
  day = ap (λ (s : SettlementRow). s.due_day) (settlement_is base t a);
  tax = tax_is base t (closes_as_told base t books found c);
  commission = commission_is base t books found;
}
  where
    a : Among base t
    a = among base t books found c

    amount : (result_details_in_base base t).settlement.amount ≡ settlement_amount base.accounts t
    amount = ap (λ (s : SettlementRow). s.amount) (settlement_is base t a)
