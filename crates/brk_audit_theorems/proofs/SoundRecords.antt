-- An accepted record in the audit's formats preserves the audit invariant.
use Rattle.std.proofs.Common.{◌≡◌, ◌<◌, ◌≤◌, ℕ, ◌==◌, ◌+◌, Bool, true, false, cond, List, [], ◌∷◌, ◌++◌, refl, sym, ◌∙◌, ap, subst, filter, length, arith, Option, Some, None, pos, ◌+ℤ◌}
use Rattle.std.specs.Prelude.{◌&&◌, bytes_eq, find, is_some, nat_abs, nat_le, sum_by}
use Rattle.std.specs.List.{AllByRecursion}
use Rattle.std.specs.Option.{option_map_or}
use Rattle.std.proofs.lemmas.Bool.{and_from, eqb-true, eq-eqb, leb-true, leb-false, ltb-false}
use Rattle.std.proofs.lemmas.List.Sums.{sum_by-cons, sum_by-append}
use Rattle.brk_money.specs.Spelling.{Text, is_within_amount_limit}
use Rattle.brk_model.specs.Schemas.{third_schema}
use Rattle.brk_model.specs.Lists.{total_by}
use Rattle.brk_model.specs.Limits.{greatest_amount, greatest_commission_rate, greatest_tax_rate, most_accounts_per_customer}
use Rattle.brk_model.specs.Records.{Account, Band, Broker, Charge, Customer, CustomerTax, Kept, Key, Permission, Security, TaxRate, Trade}
use Rattle.brk_model.specs.Base.{Base, account_with_id, broker_id_in_accounts, completed_trades, customer_with_id, tax_rate_sum_of_customer, tax_rate_record_with_id}
use Rattle.brk_model.specs.Derived.{balance_of_account, commission_total_of_broker, trades_of_broker}
use Rattle.brk_model.specs.Derived.{postings_to_account, postings, postings_of_base}
use Rattle.brk_model.specs.Commands.{Command, Listing, Reply, AddBroker, AddCustomer, AddAccount, AddPermission, AddSecurity, AddCharge, AddBand, AddTaxRate, AddCustomerTax}
use Rattle.brk_model.specs.Form.{is_well_formed_band_row, is_well_formed_charge_row, is_well_formed_customer_row, is_id, is_up_to_last_stamp}
use Rattle.brk_model.specs.Form.{is_quantity_in_schema, is_tier, is_well_formed_kept_row, is_well_formed_tax_rate_row, has_well_formed_permission_texts}
use Rattle.brk_model.specs.Forms.{is_exchange, is_name}
use Rattle.brk_model.specs.Keys.{KeyPart, number, word, charge_key, customer_key, customer_tax_key, kept_key, tax_rate_key}
use Rattle.brk_model.specs.Keyed.{base_with_stored_reply, stored_row_with_key}
use Rattle.brk_model.specs.Rows.{row_text, line_text}
use Rattle.brk_model.specs.Step.{security_of_listing, base_after_command_unstamped}
use Rattle.brk_model.specs.Tests.{stamp_of_next_command, refusal_of_command, checks_of_command}
use Rattle.brk_model.specs.Names.{AccountOfTradeExists, SecurityOfTradeExists}
use Rattle.brk_trade_books.specs.Books.{BooksInvariant}
use Rattle.brk_trade_books.specs.Steps.{base_after_command}
use Rattle.brk_trade_books.proofs.Order.{NewKey}
use Rattle.brk_trade_books.proofs.NewKeys.{charge_new, customer_tax_new, same_bytes, not_both}
use Rattle.brk_trade_books.proofs.Same.{NonePass, All-append, All-filter, All-map, any-none, filter-same, find-more, find-none}
use Rattle.brk_trade_books.proofs.Places.{filter-append}
use Rattle.brk_trade_books.proofs.Tested.{passed, not_not}
use Rattle.brk_trade_books.proofs.Keepers.{found_more}
use Rattle.brk_trade_books.proofs.References.{amount_as_before, as_before, known_completed, more, new_balance, new_number, postings_as_before}
use Rattle.brk_trade_books.proofs.Steps.{in_order}
use Rattle.brk_audit_theorems.proofs.Again.{both_all}
use Rattle.brk_model_theorems.proofs.Conjunctions.{parts3, parts5}
use Rattle.brk_audit_theorems.specs.Histories.{broker_id_key}
use Rattle.brk_audit_theorems.specs.Sound.{AuditInvariant, TradeAuditInvariant, BaseTradeAuditInvariant, HasDistinctKeys, PermissionAccountIsListed}
use Rattle.brk_audit_theorems.specs.Sound.{TaxCustomerIsListed, TaxRateIsListed, is_well_formed_account, is_well_formed_broker}
use Rattle.brk_audit_theorems.specs.Sound.{has_cash_text_with_security_name, is_well_formed_security, customer_tax_id_key}
use Rattle.brk_audit_theorems.specs.InForm.{MeetsAuditFormats, IsWellFormedKey}
use Rattle.brk_audit_theorems.proofs.OneTrade.{past_itself, sound_last}

-- an accepted command in form leaves a sound base sound
abbrev pub LeavesSound : Base → ℕ → Command → Type 0
LeavesSound base now command = AuditInvariant base → BooksInvariant base → MeetsAuditFormats command → refusal_of_command base now command ≡ None → AuditInvariant (base_after_command base now command)

-- ---- keys

pub apart_more : {Row : Type 0} (key : Row → List KeyPart) (xs : List Row) (x : Row) → NewKey key x xs → HasDistinctKeys key xs → HasDistinctKeys key (xs ++ x ∷ [])
apart_more key [] x n a = (tt, tt)
apart_more key (y ∷ ys) x n a = (All-append (λ z. key z ≡ key y → ⊥) ys (x ∷ []) a.0 ((λ e. n.0 (sym e)), tt), apart_more key ys x n.1 a.1)

text_of_key : (s t : Text) → word s ∷ [] ≡ word t ∷ [] → s ≡ t
text_of_key s t e = cc

pub new_text : {X : Type 0} (text : X → Text) (y : X) (xs : List X) → NonePass (λ x. bytes_eq (text x) (text y)) xs → NewKey (λ r. word (text r) ∷ []) y xs
new_text text y xs h = All-map xs (λ x k e. not_both (bytes_eq (text x) (text y)) (same_bytes (text x) (text y) (text_of_key (text x) (text y) e)) k) h

-- ---- brokers, customers, permissions, charges, bands

pub sound_broker : (base : Base) (now : ℕ) (b : Broker) → LeavesSound base now (AddBroker b)
unfolding base_after_command_unstamped checks_of_command
sound_broker base now b k books form e =
    let l = sound_last base now k in
    let p = passed base now (AddBroker b) e in
    record {
      keyed = l.keyed;
      parties = record {
        brokers = All-append (λ b. is_well_formed_broker b ≡ true) base.brokers (b ∷ []) k.brokers (form, tt);
        customers = l.customers;
        accounts = l.accounts;
        permissions = l.permissions;
        broker_keys = apart_more broker_id_key base.brokers b (new_number (λ x. x.id) b base.brokers (find-none (λ x. x.id == b.id) base.brokers p.0)) k.broker_keys;
        customer_keys = l.customer_keys;
        tax_ids = l.tax_ids;
        permitted = l.permitted;
        owned = l.owned;
      };
      terms = l.terms;
      listed = l.listed;
      trades = l.trades;
      cash = l.cash;
      sums = l.sums;
    }

pub sound_customer : (base : Base) (now : ℕ) (c : Customer) → LeavesSound base now (AddCustomer c)
unfolding base_after_command_unstamped checks_of_command
sound_customer base now x k books form e =
    let l = sound_last base now k in
    let p = passed base now (AddCustomer x) e in
    record {
      keyed = l.keyed;
      parties = record {
        brokers = l.brokers;
        customers = All-append (λ c. is_well_formed_customer_row c ≡ true) base.customers (x ∷ []) k.customers (form, tt);
        accounts = l.accounts;
        permissions = l.permissions;
        broker_keys = l.broker_keys;
        customer_keys = apart_more customer_key base.customers x (new_number (λ d. d.id) x base.customers (any-none (λ d. d.id == x.id) base.customers p.0)) k.customer_keys;
        tax_ids = apart_more customer_tax_id_key base.customers x (new_text (λ d. d.tax_id) x base.customers (any-none (λ d. bytes_eq d.tax_id x.tax_id) base.customers p.1.0)) k.tax_ids;
        permitted = l.permitted;
        owned = l.owned;
      };
      terms = record {
        charges = l.charges;
        bands = l.bands;
        tax_rates = l.tax_rates;
        charge_keys = l.charge_keys;
        tax_rate_keys = l.tax_rate_keys;
        customer_tax_keys = l.customer_tax_keys;
        payers = All-map base.customer_taxes (λ y h. found_more (λ d. d.id == y.customer) base.customers (x ∷ []) h) k.payers;
        taxes = l.taxes;
        rates = l.rates;
      };
      listed = l.listed;
      trades = l.trades;
      cash = l.cash;
      sums = l.sums;
    }

pub sound_permission : (base : Base) (now : ℕ) (p : Permission) → LeavesSound base now (AddPermission p)
unfolding base_after_command_unstamped checks_of_command
sound_permission base now x k books form e =
    let l = sound_last base now k in
    let p = passed base now (AddPermission x) e in
    record {
      keyed = l.keyed;
      parties = record {
        brokers = l.brokers;
        customers = l.customers;
        accounts = l.accounts;
        permissions = All-append (λ p. has_well_formed_permission_texts p ≡ true) base.permissions (x ∷ []) k.permissions (form, tt);
        broker_keys = l.broker_keys;
        customer_keys = l.customer_keys;
        tax_ids = l.tax_ids;
        permitted = All-append (PermissionAccountIsListed base.accounts) base.permissions (x ∷ []) k.permitted (not_not (is_some (account_with_id base x.account)) p.0, tt);
        owned = l.owned;
      };
      terms = l.terms;
      listed = l.listed;
      trades = l.trades;
      cash = l.cash;
      sums = l.sums;
    }

pub sound_charge : (base : Base) (now : ℕ) (c : Charge) → LeavesSound base now (AddCharge c)
unfolding base_after_command_unstamped checks_of_command
sound_charge base now x k books form e =
    let l = sound_last base now k in
    let p = passed base now (AddCharge x) e in
    record {
      keyed = l.keyed;
      parties = l.parties;
      terms = record {
        charges = All-append (λ c. is_well_formed_charge_row c ≡ true) base.charges (x ∷ []) k.charges (form, tt);
        bands = l.bands;
        tax_rates = l.tax_rates;
        charge_keys = apart_more charge_key base.charges x (charge_new x base.charges (find-none _ base.charges p.0)) k.charge_keys;
        tax_rate_keys = l.tax_rate_keys;
        customer_tax_keys = l.customer_tax_keys;
        payers = l.payers;
        taxes = l.taxes;
        rates = l.rates;
      };
      listed = l.listed;
      trades = l.trades;
      cash = l.cash;
      sums = l.sums;
    }

band_whole : (b : Band) → MeetsAuditFormats (AddBand b) → nat_le b.from_qty b.to_qty ≡ true → is_well_formed_band_row third_schema b ≡ true
band_whole b form o =
    let f = parts5 (is_tier b.tier) (is_exchange b.exchange) (is_quantity_in_schema third_schema b.from_qty) (is_quantity_in_schema third_schema b.to_qty)
    (nat_le b.rate greatest_commission_rate) form in
    let t = is_tier b.tier in
    let x = is_exchange b.exchange in
    let m = is_quantity_in_schema third_schema b.from_qty in
    let n = is_quantity_in_schema third_schema b.to_qty in
    and_from (t && x && m && n && nat_le b.from_qty b.to_qty) (nat_le b.rate greatest_commission_rate)
    (and_from (t && x && m && n) (nat_le b.from_qty b.to_qty) (and_from (t && x && m) n (and_from (t && x) m (and_from t x f.0 f.1) f.2) f.3) o) f.4

pub sound_band : (base : Base) (now : ℕ) (b : Band) → LeavesSound base now (AddBand b)
unfolding base_after_command_unstamped checks_of_command
sound_band base now x k books form e =
    let l = sound_last base now k in
    let p = passed base now (AddBand x) e in
    record {
      keyed = l.keyed;
      parties = l.parties;
      terms = record {
        charges = l.charges;
        bands = All-append (λ b. is_well_formed_band_row third_schema b ≡ true) base.bands (x ∷ []) k.bands (band_whole x form (in_order x.from_qty x.to_qty p.0), tt);
        tax_rates = l.tax_rates;
        charge_keys = l.charge_keys;
        tax_rate_keys = l.tax_rate_keys;
        customer_tax_keys = l.customer_tax_keys;
        payers = l.payers;
        taxes = l.taxes;
        rates = l.rates;
      };
      listed = l.listed;
      trades = l.trades;
      cash = l.cash;
      sums = l.sums;
    }

-- ---- taxes

pub sum-same : {X : Type 0} (f g : X → ℕ) (xs : List X) → AllByRecursion (λ x. f x ≡ g x) xs → sum_by f xs ≡ sum_by g xs
sum-same f g [] h = refl
sum-same f g (x ∷ xs) h = sum_by-cons f x xs ∙ (λ i. h.0 i + sum-same f g xs h.1 i) ∙ sym (sum_by-cons g x xs)

more_rates : (base : Base) (r : TaxRate) (customer : ℕ) → AllByRecursion (TaxRateIsListed base.tax_rates) base.customer_taxes
    → tax_rate_sum_of_customer (record base { tax_rates = base.tax_rates ++ r ∷ [] }) customer ≡ tax_rate_sum_of_customer base customer
more_rates base r customer h =
    let paid : List CustomerTax = filter (λ x. x.customer == customer) base.customer_taxes in
    sum-same (λ x. option_map_or (λ r. r.rate) (find (λ s. s.id == x.tax) (base.tax_rates ++ r ∷ [])) 0) (λ x. option_map_or (λ r. r.rate) (tax_rate_record_with_id base x.tax) 0) paid
    (All-map paid (λ x n. ap (λ o. option_map_or (λ r. r.rate) o 0) (find-more (λ s. s.id == x.tax) base.tax_rates (r ∷ []) n))
    (All-filter (TaxRateIsListed base.tax_rates) (λ x. x.customer == customer) base.customer_taxes h))

pub sound_tax_rate : (base : Base) (now : ℕ) (r : TaxRate) → LeavesSound base now (AddTaxRate r)
unfolding base_after_command_unstamped checks_of_command
sound_tax_rate base now x k books form e =
    let l = sound_last base now k in
    let p = passed base now (AddTaxRate x) e in
    record {
      keyed = l.keyed;
      parties = l.parties;
      terms = record {
        charges = l.charges;
        bands = l.bands;
        tax_rates = All-append (λ r. is_well_formed_tax_rate_row r ≡ true) base.tax_rates (x ∷ []) k.tax_rates (form, tt);
        charge_keys = l.charge_keys;
        tax_rate_keys = apart_more tax_rate_key base.tax_rates x (new_number (λ r. r.id) x base.tax_rates (find-none (λ r. r.id == x.id) base.tax_rates p.0)) k.tax_rate_keys;
        customer_tax_keys = l.customer_tax_keys;
        payers = l.payers;
        taxes = All-map base.customer_taxes (λ y h. found_more (λ r. r.id == y.tax) base.tax_rates (x ∷ []) h) k.taxes;
        rates = λ customer. subst (λ n. n ≤ greatest_tax_rate) (sym (more_rates base x customer k.taxes)) (k.rates customer);
      };
      listed = l.listed;
      trades = l.trades;
      cash = l.cash;
      sums = l.sums;
    }

abbrev rate_in : Base → CustomerTax → ℕ
rate_in base x = option_map_or (λ r. r.rate) (tax_rate_record_with_id base x.tax) 0

paid_more : (base : Base) (x : CustomerTax) → tax_rate_sum_of_customer base x.customer + rate_in base x ≤ greatest_tax_rate
    → ((customer : ℕ) → tax_rate_sum_of_customer base customer ≤ greatest_tax_rate)
    → (customer : ℕ) → tax_rate_sum_of_customer (record base { customer_taxes = base.customer_taxes ++ x ∷ [] }) customer ≤ greatest_tax_rate
paid_more base x h k customer = by_test (x.customer == customer) refl
  where
    of_customer : CustomerTax → Bool
    of_customer y = y.customer == customer

    paid : List CustomerTax
    paid = filter (λ y. y.customer == customer) base.customer_taxes

    apart : sum_by (rate_in base) (filter (λ y. y.customer == customer) (base.customer_taxes ++ x ∷ [])) ≡ sum_by (rate_in base) paid
        + sum_by (rate_in base) (filter (λ y. y.customer == customer) (x ∷ []))
    apart = ap (sum_by (rate_in base)) (filter-append (λ y. y.customer == customer) base.customer_taxes (x ∷ [])) ∙ sum_by-append (rate_in base) paid (filter (λ y. y.customer == customer) (x ∷ []))

    by_test : (b : Bool) → (x.customer == customer) ≡ b → sum_by (rate_in base) (filter (λ y. y.customer == customer) (base.customer_taxes ++ x ∷ [])) ≤ greatest_tax_rate
    by_test true e =
        let one : sum_by (rate_in base) (cond (x.customer == customer) (x ∷ []) []) ≡ sum_by (rate_in base) (x ∷ []) = ap (λ b. sum_by (rate_in base) (cond b (x ∷ []) [])) e in
        let c : sum_by (rate_in base) (x ∷ []) ≡ rate_in base x + 0 = sum_by-cons (rate_in base) x [] in
        let m : tax_rate_sum_of_customer base customer + rate_in base x ≤ greatest_tax_rate =
        subst (λ n. tax_rate_sum_of_customer base n + rate_in base x ≤ greatest_tax_rate) (eqb-true x.customer customer e) h in
        let a = apart in
        omega (arith, a, one, c, m)
    by_test false e =
        let one : sum_by (rate_in base) (cond (x.customer == customer) (x ∷ []) []) ≡ 0 = ap (λ b. sum_by (rate_in base) (cond b (x ∷ []) [])) e in
        let m : tax_rate_sum_of_customer base customer ≤ greatest_tax_rate = k customer in
        let a = apart in
        omega (arith, a, one, m)

pub sound_customer_tax : (base : Base) (now : ℕ) (x : CustomerTax) → LeavesSound base now (AddCustomerTax x)
unfolding base_after_command_unstamped checks_of_command
sound_customer_tax base now x k books form e =
    let l = sound_last base now k in
    let p = passed base now (AddCustomerTax x) e in
    record {
      keyed = l.keyed;
      parties = l.parties;
      terms = record {
        charges = l.charges;
        bands = l.bands;
        tax_rates = l.tax_rates;
        charge_keys = l.charge_keys;
        tax_rate_keys = l.tax_rate_keys;
        customer_tax_keys = apart_more customer_tax_key base.customer_taxes x
            (customer_tax_new x base.customer_taxes (any-none (λ y. (y.customer == x.customer) && (y.tax == x.tax)) base.customer_taxes p.1.1.0))
            k.customer_tax_keys;
        payers = All-append (TaxCustomerIsListed base.customers) base.customer_taxes (x ∷ []) k.payers (not_not (is_some (customer_with_id base x.customer)) p.0, tt);
        taxes = All-append (TaxRateIsListed base.tax_rates) base.customer_taxes (x ∷ []) k.taxes (not_not (is_some (tax_rate_record_with_id base x.tax)) p.1.0, tt);
        rates = paid_more base x (ltb-false greatest_tax_rate _ p.1.1.1.0) k.rates;
      };
      listed = l.listed;
      trades = l.trades;
      cash = l.cash;
      sums = l.sums;
    }

-- ---- securities

pub trade_listed : (base : Base) (ss : List Security) (t : Trade)
    → option_map_or (λ s. s.name) (find (λ s. bytes_eq s.symbol t.symbol) ss) [] ≡ option_map_or (λ s. s.name) (find (λ s. bytes_eq s.symbol t.symbol) base.securities) []
    → BaseTradeAuditInvariant base t → TradeAuditInvariant base.last base.rule base.accounts ss t
trade_listed base ss t e k = record { alone = k.alone; past = k.past; due = k.due; cash_name = λ d. ap (has_cash_text_with_security_name t) e ∙ k.cash_name d; amount = k.amount }

pub sound_security : (base : Base) (now : ℕ) (l : Listing) → LeavesSound base now (AddSecurity l)
unfolding base_after_command_unstamped checks_of_command
sound_security base now x k books form e =
    let l = sound_last base now k in
    let stamp : ℕ = stamp_of_next_command base now in
    let c : Base = record base { last = Some stamp } in
    let s : Security = security_of_listing stamp x in
    record {
      keyed = l.keyed;
      parties = l.parties;
      terms = l.terms;
      listed = record {
        securities = All-append (λ s. is_well_formed_security s ≡ true) base.securities (s ∷ []) k.securities (form, tt);
        moments = All-append (λ s. is_up_to_last_stamp (Some stamp) s.moment ≡ true) base.securities (s ∷ []) l.moments (past_itself stamp, tt);
      };
      trades = All-map base.trades (λ t h. trade_listed c (base.securities ++ s ∷ []) t
          (ap (λ o. option_map_or (λ s. s.name) o []) (find-more (λ u. bytes_eq u.symbol t.symbol) base.securities (s ∷ []) h.1)) h.0)
          (both_all (BaseTradeAuditInvariant c) (SecurityOfTradeExists base) base.trades l.trades books.securities);
      cash = l.cash;
      sums = l.sums;
    }

-- ---- accounts

find_other : {X : Type 0} (p : X → Bool) (xs : List X) (x : X) → p x ≡ false → find p (xs ++ x ∷ []) ≡ find p xs
find_other p [] x e = ap (λ b. cond b (Some x) None) e
find_other p (y ∷ xs) x e = ap (λ o. cond (p y) (Some y) o) (find_other p xs x e)

other_balance : (base : Base) (a : Account) (id : ℕ) → BooksInvariant base → (a.id == id) ≡ false
    → balance_of_account (more base a) (postings (more base a) (completed_trades base) base.movements) id ≡ balance_of_account base.accounts (postings_of_base base) id
unfolding balance_of_account
other_balance base a id books e =
    λ i. option_map_or (λ a. a.opening) (find_other (λ b. b.id == id) base.accounts a e i) (pos 0) +ℤ total_by (λ p. p.amount) (postings_to_account (postings_as_before base a books i) id)

balances_more : (base : Base) (a : Account) → BooksInvariant base → is_some (account_with_id base a.id) ≡ false → is_within_amount_limit a.opening ≡ true
    → ((id : ℕ) → nat_abs (balance_of_account base.accounts (postings_of_base base) id) ≤ greatest_amount)
    → (id : ℕ) → nat_abs (balance_of_account (more base a) (postings (more base a) (completed_trades base) base.movements) id) ≤ greatest_amount
balances_more base a books new form k id = by_test (a.id == id) refl
  where
    Low : ℕ → Type 0
    Low n = nat_abs (balance_of_account (more base a) (postings (more base a) (completed_trades base) base.movements) n) ≤ greatest_amount

    by_test : (b : Bool) → (a.id == id) ≡ b → Low id
    by_test true e =
        subst Low (eqb-true a.id id e) (subst (λ z. nat_abs z ≤ greatest_amount) (sym (new_balance base a books new)) (leb-true (nat_abs a.opening) greatest_amount form))
    by_test false e = subst (λ z. nat_abs z ≤ greatest_amount) (sym (other_balance base a id books e)) (k id)

same_broker : (base : Base) (a : Account) (id : ℕ) → BooksInvariant base → trades_of_broker (more base a) (completed_trades base) id ≡ trades_of_broker base.accounts (completed_trades base) id
same_broker base a id books =
    filter-same (λ t. broker_id_in_accounts (more base a) t.account == id) (λ t. broker_id_in_accounts base.accounts t.account == id) (completed_trades base)
    (All-map (completed_trades base) (λ t k. ap (λ o. option_map_or (λ a. a.broker) o 0 == id) (as_before base a t.account k)) (known_completed base books))

same_commissions : (base : Base) (a : Account) (id : ℕ) → BooksInvariant base
    → commission_total_of_broker (more base a) (completed_trades base) id ≡ commission_total_of_broker base.accounts (completed_trades base) id
unfolding commission_total_of_broker
same_commissions base a id books = ap (sum_by (λ t. t.commission)) (same_broker base a id books)

length-append : {X : Type 0} (xs ys : List X) → length (xs ++ ys) ≡ length xs + length ys
length-append [] ys = omega arith
length-append (x ∷ xs) ys = let h = length-append xs ys in omega (arith, h)

owned_more : (accounts : List Account) (a : Account) → length (filter (λ b. b.customer == a.customer) accounts) < most_accounts_per_customer
    → ((customer : ℕ) → length (filter (λ b. b.customer == customer) accounts) ≤ most_accounts_per_customer) → (customer : ℕ)
    → length (filter (λ b. b.customer == customer) (accounts ++ a ∷ [])) ≤ most_accounts_per_customer
owned_more accounts a h k customer = by_test (a.customer == customer) refl
  where
    apart : length (filter (λ b. b.customer == customer) (accounts ++ a ∷ [])) ≡ length (filter (λ b. b.customer == customer) accounts) + length (filter (λ b. b.customer == customer) (a ∷ []))
    apart = ap length (filter-append (λ b. b.customer == customer) accounts (a ∷ [])) ∙ length-append (filter (λ b. b.customer == customer) accounts) (filter (λ b. b.customer == customer) (a ∷ []))

    by_test : (b : Bool) → (a.customer == customer) ≡ b → length (filter (λ b. b.customer == customer) (accounts ++ a ∷ [])) ≤ most_accounts_per_customer
    by_test true e =
        let one : length (cond (a.customer == customer) (a ∷ []) []) ≡ 1 = ap (λ b. length (cond b (a ∷ []) [])) e in
        let m : length (filter (λ b. b.customer == customer) accounts) < most_accounts_per_customer =
        subst (λ n. length (filter (λ b. b.customer == n) accounts) < most_accounts_per_customer) (eqb-true a.customer customer e) h in
        let p = apart in
        omega (arith, p, one, m)
    by_test false e =
        let one : length (cond (a.customer == customer) (a ∷ []) []) ≡ 0 = ap (λ b. length (cond b (a ∷ []) [])) e in
        let m = k customer in
        let p = apart in
        omega (arith, p, one, m)

trade_owned : (base : Base) (a : Account) (t : Trade) → AccountOfTradeExists base t → BaseTradeAuditInvariant base t → TradeAuditInvariant base.last base.rule (more base a) base.securities t
trade_owned base a t known k = record { alone = k.alone; past = k.past; due = k.due; cash_name = k.cash_name; amount = λ d. ap is_within_amount_limit (amount_as_before base a t known) ∙ k.amount d }

pub sound_account : (base : Base) (now : ℕ) (a : Account) → LeavesSound base now (AddAccount a)
unfolding base_after_command_unstamped checks_of_command
sound_account base now a k books form e =
    let l = sound_last base now k in
    let p = passed base now (AddAccount a) e in
    let c : Base = record base { last = Some (stamp_of_next_command base now) } in
    record {
      keyed = l.keyed;
      parties = record {
        brokers = l.brokers;
        customers = l.customers;
        accounts = All-append (λ a. is_well_formed_account a ≡ true) base.accounts (a ∷ []) k.accounts (form, tt);
        permissions = l.permissions;
        broker_keys = l.broker_keys;
        customer_keys = l.customer_keys;
        tax_ids = l.tax_ids;
        permitted = All-map base.permissions (λ q h. found_more (λ b. b.id == q.account) base.accounts (a ∷ []) h) k.permitted;
        owned = owned_more base.accounts a (leb-false most_accounts_per_customer _ p.1.1.1.0) k.owned;
      };
      terms = l.terms;
      listed = l.listed;
      trades = All-map base.trades (λ t h. trade_owned c a t h.1 h.0) (both_all (BaseTradeAuditInvariant c) (AccountOfTradeExists base) base.trades l.trades books.accounts);
      cash = l.cash;
      sums = record {
        summaries = l.summaries;
        balances = balances_more base a books p.1.1.0 (parts3 (is_id a.id) (is_name a.name) (is_within_amount_limit a.opening) form).2 k.balances;
        commissions = λ id. subst (λ n. n ≤ greatest_amount) (sym (same_commissions base a id books)) (k.commissions id);
      };
    }

-- ---- a row that is kept

two_of_key : (s t : Text) (m n : ℕ) → word s ∷ number m ∷ [] ≡ word t ∷ number n ∷ [] → (s ≡ t) × (m ≡ n)
two_of_key s t m n e = (cc, cc)

kept_new : (key : Key) (row : Kept) (ks : List Kept) → row.key ≡ key → NonePass (λ k. bytes_eq k.key.batch key.batch && (k.key.n == key.n)) ks → NewKey kept_key row ks
kept_new key row ks s h = All-map ks (λ k n e.
    let d = two_of_key k.key.batch row.key.batch k.key.n row.key.n e in
    not_both (bytes_eq k.key.batch key.batch && (k.key.n == key.n))
    (and_from (bytes_eq k.key.batch key.batch) (k.key.n == key.n) (same_bytes k.key.batch key.batch (d.0 ∙ ap (λ q. q.batch) s))
    (eq-eqb k.key.n key.n (d.1 ∙ ap (λ q. q.n) s))) n) h

none_is : (o : Option Kept) → o ≡ None → is_some o ≡ false
none_is o e = ap is_some e

pub sound_kept : (base : Base) (key : Key) (command : Command) (reply : Reply) → AuditInvariant base → IsWellFormedKey key → stored_row_with_key base key ≡ None
    → AuditInvariant (base_with_stored_reply (Some key) command reply base)
sound_kept base key command reply k form e =
    let row : Kept = record { key = key; row_text = row_text command; line = line_text reply } in
    record {
      keyed = record {
        kept = All-append (λ k. is_well_formed_kept_row k ≡ true) base.kept (row ∷ []) k.kept (form, tt);
        kept_keys = apart_more kept_key base.kept row (kept_new key row base.kept refl (find-none _ base.kept (none_is (stored_row_with_key base key) e))) k.kept_keys;
      };
      parties = k.parties;
      terms = k.terms;
      listed = k.listed;
      trades = k.trades;
      cash = k.cash;
      sums = k.sums;
    }
