-- An order is refused by the facts as in the base, and otherwise has from the facts the terms of
-- the base.
use Rattle.std.proofs.Common.{◌≡◌, ℕ, ◌==◌, Bool, true, false, not, List, [], ◌∷◌, ◌++◌, refl, sym, subst, ◌∙◌, ap, filter, ◌+ℤ◌, Option, Some, None}
use Rattle.std.specs.Prelude.{is_some, is_none, option_map, unwrap_or, find, IfSome}
use Rattle.std.specs.Option.{option_map_or}
use Rattle.brk_trade.specs.Estimates.{AreOrderTermsInBase}
use Rattle.brk_model.specs.Base as base_spec
use Rattle.brk_model.specs.Base.{Base, account_with_id, commission_band_for_quantity, broker_id_of_account, charge_for_type_and_tier}
use Rattle.brk_model.specs.Base.{customer_id_of_account, customer_with_id, exchange_of_security, last_price, security_with_symbol, tier_of_account}
use Rattle.brk_model.specs.Joins.{account_row_with_id, security_row_with_symbol}
use Rattle.brk_model.specs.Orders.{assets_of_account, may_order_for_account, is_customer_or_has_permission}
use Rattle.brk_model.specs.PositionView.{market_value_of_account_row}
use Rattle.brk_model.specs.Derived.{Posting, postings_of_base}
use Rattle.brk_model.specs.Records.{Account, Customer, Security}
use Rattle.brk_model.specs.Sheets.{sheets}
use Rattle.brk_model.specs.Tables.{AccountRow, account_row, last_trade_row, security_row}
use Rattle.brk_model.specs.Tests as model
use Rattle.brk_model.specs.Tests.{RefusalCheck, first_refusal}
use Rattle.brk_money.specs.OrderTypes.{trade_type_of_order_type, price_of_order_type}
use Rattle.brk_money.specs.declared.refusal.Refusal.{Refusal}
use Rattle.brk_money.specs.declared.refusal.Refusal.TheVariants.{NoAccount, NoSecurity, NotPermitted, NoCharge, NoRate}
use Rattle.brk_money.specs.declared.tax_status.TaxStatus.TheVariants.{Untaxed}
use Rattle.brk_ref_orders.specs.Records.{abstract_order}
use Rattle.brk_ref_orders.specs.declared.order.Order.{Order}
use Rattle.brk_ref.specs.Records.{abstract_executor}
use Rattle.brk_trade.specs.Orders.{order_checks, terms_of_order}
use Rattle.brk_trade.specs.declared.order.OrderPlanFacts.{OrderPlanFacts}
use Rattle.brk_model.specs.Names.{CustomerOfAccountExists}
use Rattle.brk_lots.specs.Books.{lot_quantity_sum}
use Rattle.brk_trade_books.specs.Books.{BooksInvariant}
use Rattle.brk_trade_books.specs.OrderReads.{CustomerOfAccountSatisfies, charge_of_type_and_tier}
use Rattle.brk_trade_theorems.specs.OrderPlans.{EstimateFactsMatchTables, PassesFirstOrderChecks, order_account_of_row}
use Rattle.brk_trade_books.specs.Reads.{customer_tax_rate_sum}
use Rattle.brk_trade_books.specs.TradeReads.{commission_band_of_quantity, permission_list_for_tax_id, lots_of_position}
use Rattle.brk_trade_books.proofs.Holding.{held_read, total_is}
use Rattle.brk_trade_books.proofs.Same.{find-All}
use Rattle.brk_trade_books.proofs.Places.{some_of}
use Rattle.brk_trade_books.proofs.Reading.{is_none-map, reads_account, reads_customer}
use Rattle.brk_trade_books.proofs.TermReading.{reads_charge, reads_last_trade, reads_rates, reads_security}
use Rattle.brk_trade_books.proofs.Permitting.{reads_named}
use Rattle.brk_trade_books.proofs.BandReading.{reads_band}
use Rattle.brk_trade_books.proofs.Tested.{none_refuse, not_not}
use Rattle.brk_trade_books.proofs.Worth.{reads_assets}

-- ---- an account that is there, with its customer

pub record OwnerFound (base : Base) (account : ℕ) : Type 0 where
  pub a : Account
  pub c : Customer
  pub there : account_with_id base account ≡ Some a
  pub row : account_row_with_id (sheets base) account ≡ Some (account_row base.accounts (postings_of_base base) a)
  pub customer_row : find (λ r. r.id == a.customer) (sheets base).customers ≡ Some c
  pub customer_is : customer_with_id base (customer_id_of_account base account) ≡ Some c

pub owner_found : (base : Base) (account : ℕ) → BooksInvariant base → is_some (account_with_id base account) ≡ true → OwnerFound base account
owner_found base account books h =
    let found = some_of (account_with_id base account) h in
    let a : Account = found.0 in
    let of_account = some_of (customer_with_id base a.customer) (find-All (CustomerOfAccountExists base) (λ x. x.id == account) base.accounts a books.customers found.1) in
    record {
      a = a;
      c = of_account.0;
      there = found.1;
      row = reads_account base account ∙ ap (option_map (account_row base.accounts (postings_of_base base))) found.1;
      customer_row = reads_customer base a.customer ∙ of_account.1;
      customer_is = ap (λ x. customer_with_id base (option_map_or (λ a. a.customer) x 0)) found.1 ∙ of_account.1;
    }

pub of_account : (base : Base) (account : ℕ) (holds : AccountRow → Type 0) (f : OwnerFound base account) → IfSome (account_row_with_id (sheets base) account) holds
    → holds (account_row base.accounts (postings_of_base base) f.a)
of_account base account holds f h = subst (λ x. IfSome x holds) f.row h

pub of_customer : (base : Base) (account : ℕ) (holds : Customer → Type 0) (f : OwnerFound base account) → CustomerOfAccountSatisfies (sheets base) account holds → holds f.c
of_customer base account holds f h =
    subst (λ x. IfSome x holds) f.customer_row (of_account base account (λ a. IfSome (find (λ r. r.id == a.customer) (sheets base).customers) holds) f h)

pub tier_found : (base : Base) (account : ℕ) (f : OwnerFound base account) → tier_of_account base account ≡ f.c.tier
tier_found base account f = ap (λ x. option_map_or (λ c. c.tier) x 0) f.customer_is

-- ---- what was found of it

passes_account : (found : OrderPlanFacts) → is_none found.account ≡ false → PassesFirstOrderChecks 1 found
passes_account found a = rw a refl

passes_security : (found : OrderPlanFacts) → is_none found.account ≡ false → is_none found.last_price ≡ false → PassesFirstOrderChecks 2 found
passes_security found a s = rw (a, s) refl

passes_executor : (found : OrderPlanFacts) → is_none found.account ≡ false → is_none found.last_price ≡ false → not found.is_permitted ≡ false → PassesFirstOrderChecks 3 found
passes_executor found a s p = rw (a, s, p) refl

passes_charge : (found : OrderPlanFacts) → is_none found.account ≡ false → is_none found.last_price ≡ false → not found.is_permitted ≡ false
    → is_none found.charge ≡ false → PassesFirstOrderChecks 4 found
passes_charge found a s p c = rw (a, s, p, c) refl

account_read : (base : Base) (order : Order) (found : OrderPlanFacts) → EstimateFactsMatchTables (sheets base) order found → is_none found.account ≡ is_none (account_with_id base order.account)
account_read base order found k =
    ap is_none k.account ∙ is_none-map order_account_of_row (account_row_with_id (sheets base) order.account) ∙ ap is_none (reads_account base order.account)
    ∙ is_none-map (account_row base.accounts (postings_of_base base)) (account_with_id base order.account)

security_read : (base : Base) (order : Order) (found : OrderPlanFacts) → EstimateFactsMatchTables (sheets base) order found → PassesFirstOrderChecks 1 found
    → is_none found.last_price ≡ is_none (security_with_symbol base order.symbol)
security_read base order found k p =
    ap is_none (k.last_price p ∙ ap (option_map (λ r. r.price)) (reads_last_trade base order.symbol))
    ∙ is_none-map (λ r. r.price) (option_map last_trade_row (security_with_symbol base order.symbol)) ∙ is_none-map last_trade_row (security_with_symbol base order.symbol)

permission_read : (base : Base) (order : Order) (found : OrderPlanFacts) → BooksInvariant base → EstimateFactsMatchTables (sheets base) order found → OwnerFound base order.account
    → PassesFirstOrderChecks 2 found → found.is_permitted ≡ may_order_for_account base order.account (abstract_executor order.executor)
permission_read base order found books k f p =
    of_customer base order.account
    (λ c. found.is_permitted ≡ is_customer_or_has_permission c (permission_list_for_tax_id (sheets base) order.account order.executor.tax_id)
    (abstract_executor order.executor)) f (k.is_permitted p)
    ∙ reads_named base order.account f.c (abstract_executor order.executor) books
    ∙ sym (ap (λ x. option_map_or (λ c. is_customer_or_has_permission c (filter (λ p. p.account == order.account) base.permissions) (abstract_executor order.executor)) x true) f.customer_is)

charge_read : (base : Base) (order : Order) (found : OrderPlanFacts) → EstimateFactsMatchTables (sheets base) order found → OwnerFound base order.account
    → PassesFirstOrderChecks 3 found → found.charge ≡ option_map (λ c. c.amount) (charge_for_type_and_tier base (trade_type_of_order_type order.order_type) (tier_of_account base order.account))
charge_read base order found k f p =
    of_customer base order.account (λ c. found.charge ≡ charge_of_type_and_tier (sheets base) (trade_type_of_order_type order.order_type) c.tier) f (k.charge p)
    ∙ ap (option_map (λ c. c.amount))
    (reads_charge base (trade_type_of_order_type order.order_type) f.c.tier
    ∙ ap (charge_for_type_and_tier base (trade_type_of_order_type order.order_type)) (sym (tier_found base order.account f)))

rate_read : (base : Base) (order : Order) (found : OrderPlanFacts) → BooksInvariant base → EstimateFactsMatchTables (sheets base) order found → OwnerFound base order.account
    → is_some (security_with_symbol base order.symbol) ≡ true → PassesFirstOrderChecks 4 found
    → found.rate ≡ option_map (λ b. b.rate)
    (commission_band_for_quantity base (tier_of_account base order.account) (trade_type_of_order_type order.order_type)
    (exchange_of_security base order.symbol) order.qty)
rate_read base order found books k f s p =
    let listed = some_of (security_with_symbol base order.symbol) s in
    let exchange : exchange_of_security base order.symbol ≡ listed.0.exchange = ap (λ x. option_map_or (λ s. s.exchange) x []) listed.1 in
    let row : security_row_with_symbol (sheets base) order.symbol ≡ Some (security_row listed.0) = reads_security base order.symbol ∙ ap (option_map security_row) listed.1 in
    let band = subst (λ x. IfSome x
    (λ s. found.rate ≡ option_map (λ b. b.rate)
    (commission_band_of_quantity (sheets base) f.c.tier (trade_type_of_order_type order.order_type) s.exchange order.qty))) row
    (of_customer base order.account
    (λ c. IfSome (security_row_with_symbol (sheets base) order.symbol)
    (λ s. found.rate ≡ option_map (λ b. b.rate)
    (commission_band_of_quantity (sheets base) c.tier (trade_type_of_order_type order.order_type) s.exchange order.qty))) f (k.rate p)) in
    band ∙ ap (option_map (λ b. b.rate)) (reads_band base f.c.tier (trade_type_of_order_type order.order_type) listed.0.exchange order.qty books
    ∙ (λ i. commission_band_for_quantity base (sym (tier_found base order.account f) i) (trade_type_of_order_type order.order_type) (sym exchange i) order.qty))

-- ---- the refusal

-- tests with the same refusal
pub record Alike (xs ys : List RefusalCheck) : Type 0 where
  pub first : first_refusal xs ≡ first_refusal ys

-- the first ones do, and the later ones too where those find nothing wrong
pub same_first : (b c : Bool) (refusal : Refusal) (xs ys : List RefusalCheck) → b ≡ c → (b ≡ false → Alike xs ys) → Alike ((b, refusal) ∷ xs) ((c, refusal) ∷ ys)
same_first true c refusal xs ys e h = record { first = ap (λ c. first_refusal ((c, refusal) ∷ ys)) e }
same_first false c refusal xs ys e h = record { first = (h refl).first ∙ ap (λ c. first_refusal ((c, refusal) ∷ ys)) e }

pub all_passed : (found : OrderPlanFacts) → is_none found.account ≡ false → is_none found.last_price ≡ false → not found.is_permitted ≡ false
    → is_none found.charge ≡ false → is_none found.rate ≡ false
    → first_refusal (order_checks found) ≡ None
all_passed found a s p c r = rw (a, s, p, c, r) refl

-- from the permission on, of an account and a security that are there
owned_read : (base : Base) (order : Order) (found : OrderPlanFacts) (xs ys : List RefusalCheck) → BooksInvariant base → EstimateFactsMatchTables (sheets base) order found
    → (first_refusal (order_checks found) ≡ None → first_refusal xs ≡ first_refusal ys) → is_none found.account ≡ false → is_none found.last_price ≡ false
    → OwnerFound base order.account → is_some (security_with_symbol base order.symbol) ≡ true
    → Alike ((not found.is_permitted, NotPermitted) ∷ (is_none found.charge, NoCharge) ∷ (is_none found.rate, NoRate) ∷ xs)
    ((not (may_order_for_account base order.account (abstract_executor order.executor)), NotPermitted)
    ∷ (is_none (charge_for_type_and_tier base (trade_type_of_order_type order.order_type) (tier_of_account base order.account)), NoCharge)
    ∷ (is_none (commission_band_for_quantity base (tier_of_account base order.account) (trade_type_of_order_type order.order_type) (exchange_of_security base order.symbol) order.qty), NoRate) ∷ ys)
owned_read base order found xs ys books k later a s f l =
    same_first _ _ NotPermitted _ _ (ap not (permission_read base order found books k f (passes_security found a s))) (λ p.
    same_first _ _ NoCharge _ _
    (ap is_none (charge_read base order found k f (passes_executor found a s p))
    ∙ is_none-map (λ c. c.amount) (charge_for_type_and_tier base (trade_type_of_order_type order.order_type) (tier_of_account base order.account))) (λ c.
    same_first _ _ NoRate _ _
    (ap is_none (rate_read base order found books k f l (passes_charge found a s p c))
    ∙ is_none-map (λ b. b.rate) (commission_band_for_quantity base (tier_of_account base order.account) (trade_type_of_order_type order.order_type) (exchange_of_security base order.symbol) order.qty))
    (λ r. record { first = later (all_passed found a s p c r) })))

-- an order and what else it is tested for are refused by what was found as by the base
pub tests_read : (base : Base) (order : Order) (found : OrderPlanFacts) (xs ys : List RefusalCheck) → BooksInvariant base → EstimateFactsMatchTables (sheets base) order found
    → (first_refusal (order_checks found) ≡ None → first_refusal xs ≡ first_refusal ys)
    → first_refusal (order_checks found ++ xs) ≡ first_refusal (model.checks_of_order base (abstract_order order) ++ ys)
tests_read base order found xs ys books k later =
    let alike : Alike (order_checks found ++ xs) (model.checks_of_order base (abstract_order order) ++ ys) =
    same_first _ _ NoAccount _ _ (account_read base order found k) (λ a.
    same_first _ _ NoSecurity _ _ (security_read base order found k (passes_account found a)) (λ s.
    owned_read base order found xs ys books k later a s
    (owner_found base order.account books (not_not (is_some (account_with_id base order.account)) (sym (account_read base order found k) ∙ a)))
    (not_not (is_some (security_with_symbol base order.symbol)) (sym (security_read base order found k (passes_account found a)) ∙ s)))) in
    alike.first

-- ---- the terms

price_or : (s : Option Security) → unwrap_or (option_map (λ r. r.price) (option_map last_trade_row s)) 0 ≡ option_map_or (λ s. s.last_price) s 0
price_or None = refl
price_or (Some s) = refl

status_or : (accounts : List Account) (posted : List Posting) (a : Option Account)
    → option_map_or (λ a. a.tax_status) (option_map order_account_of_row (option_map (account_row accounts posted) a)) Untaxed ≡ option_map_or (λ a. a.tax_status) a Untaxed
status_or accounts posted None = refl
status_or accounts posted (Some a) = refl

some_or : (o : Option ℕ) → is_some o ≡ true → o ≡ Some (unwrap_or o 0)
some_or None h = absurd (cc)
some_or (Some n) h = refl

last_price_read : (base : Base) (order : Order) (found : OrderPlanFacts) → EstimateFactsMatchTables (sheets base) order found → PassesFirstOrderChecks 1 found
    → unwrap_or found.last_price 0 ≡ last_price base order.symbol
last_price_read base order found k p =
    ap (λ o. unwrap_or o 0) (k.last_price p ∙ ap (option_map (λ r. r.price)) (reads_last_trade base order.symbol)) ∙ price_or (security_with_symbol base order.symbol)

rates_read : (base : Base) (order : Order) (found : OrderPlanFacts) → EstimateFactsMatchTables (sheets base) order found → OwnerFound base order.account → first_refusal (order_checks found) ≡ None
    → found.rates ≡ base_spec.tax_rate_sum_of_customer base (customer_id_of_account base order.account)
rates_read base order found k f e =
    of_account base order.account (λ a. found.rates ≡ customer_tax_rate_sum (sheets base) a.customer) f (k.rates e)
    ∙ reads_rates base f.a.customer ∙ ap (base_spec.tax_rate_sum_of_customer base) (sym (ap (λ x. option_map_or (λ a. a.customer) x 0) f.there))

all_assets : (base : Base) (order : Order) (found : OrderPlanFacts) → BooksInvariant base → EstimateFactsMatchTables (sheets base) order found
    → OwnerFound base order.account → first_refusal (order_checks found) ≡ None
    → found.assets ≡ assets_of_account base order.account
all_assets base order found books k f e =
    of_account base order.account (λ a. found.assets ≡ a.balance +ℤ market_value_of_account_row (sheets base) a) f (k.assets e)
    ∙ reads_assets base order.account (account_row base.accounts (postings_of_base base) f.a) books f.row

-- what was found for an order that nothing refuses
pub record AllFound (base : Base) (order : Order) (found : OrderPlanFacts) : Type 0 where
  pub broker : option_map_or (λ a. a.broker) found.account 0 ≡ broker_id_of_account base order.account
  pub terms : AreOrderTermsInBase base (abstract_order order) (terms_of_order order found)
  pub held : (terms_of_order order found).held ≡ lot_quantity_sum (lots_of_position (sheets base) order.account order.symbol)

broker_or : (accounts : List Account) (posted : List Posting) (a : Option Account)
    → option_map_or (λ a. a.broker) (option_map order_account_of_row (option_map (account_row accounts posted) a)) 0 ≡ option_map_or (λ a. a.broker) a 0
broker_or accounts posted None = refl
broker_or accounts posted (Some a) = refl

pub all_found : (base : Base) (order : Order) (found : OrderPlanFacts) → BooksInvariant base → EstimateFactsMatchTables (sheets base) order found → first_refusal (order_checks found) ≡ None
    → AllFound base order found
all_found base order found books k e =
    let p = none_refuse (order_checks found) e in
    let f : OwnerFound base order.account = owner_found base order.account books (not_not (is_some (account_with_id base order.account)) (sym (account_read base order found k) ∙ p.0)) in
    let one : PassesFirstOrderChecks 1 found = passes_account found p.0 in
    let listed = not_not (is_some (security_with_symbol base order.symbol)) (sym (security_read base order found k one) ∙ p.1.0) in
    let three : PassesFirstOrderChecks 3 found = passes_executor found p.0 p.1.0 p.1.1.0 in
    let four : PassesFirstOrderChecks 4 found = passes_charge found p.0 p.1.0 p.1.1.0 p.1.1.1.0 in
    let charged = not_not (is_some found.charge) p.1.1.1.0 in
    let rated = not_not (is_some found.rate) p.1.1.1.1.0 in
    let account = k.account ∙ ap (option_map order_account_of_row) (reads_account base order.account) in
    record {
      broker = ap (λ o. option_map_or (λ a. a.broker) o 0) account ∙ broker_or base.accounts (postings_of_base base) (account_with_id base order.account);
      terms = record {
        side = refl;
        qty = refl;
        price = ap (λ n. unwrap_or (price_of_order_type order.order_type) n) (last_price_read base order found k one);
        tax_status = ap (λ o. option_map_or (λ a. a.tax_status) o Untaxed) account ∙ status_or base.accounts (postings_of_base base) (account_with_id base order.account);
        rates = rates_read base order found k f e;
        rate = sym (rate_read base order found books k f listed four) ∙ some_or found.rate rated;
        charge = sym (charge_read base order found k f three) ∙ some_or found.charge charged;
        assets = all_assets base order found books k f e;
      };
      held = held_read base order.account order.symbol found.summary books (ap is_some f.there) listed (k.summary e) ∙ sym (total_is base order.account order.symbol books);
    }

pub terms_read : (base : Base) (order : Order) (found : OrderPlanFacts) → BooksInvariant base → EstimateFactsMatchTables (sheets base) order found → first_refusal (order_checks found) ≡ None
    → AreOrderTermsInBase base (abstract_order order) (terms_of_order order found)
terms_read base order found books k e = (all_found base order found books k e).terms
