-- The facts read for an order are those that its estimate needs.
use Rattle.std.proofs.Common.{◌≡◌, ℕ, ◌==◌, ◌+ℤ◌, ℤ, Bool, true, false, cond, List, [], ◌∷◌, Option, Some, None, refl, sym, subst, ap, ◌∙◌}
use Rattle.std.proofs.Common.{filter, find, map, option_map, ◌+◌}
use Rattle.std.proofs.lemmas.Bool.{eqb-true}
use Rattle.std.specs.Prelude.{◌&&◌, IfSome, MatchOption, option_to_list}
use Rattle.brk_model.specs.Joins.{account_row_with_id, security_row_with_symbol}
use Rattle.brk_model.specs.PositionView.{market_value_of_account_row}
use Rattle.brk_model.specs.Records.{Customer}
use Rattle.brk_model.specs.Tables.{AccountRow, Tables}
use Rattle.brk_money.specs.OrderTypes.{trade_type_of_order_type}
use Rattle.brk_money.specs.declared.refusal.Refusal.TheVariants.{NoAccount}
use Rattle.brk_ref_orders.specs.declared.order.Order.{Order}
use Rattle.brk_model.specs.Orders.{is_customer_or_has_permission}
use Rattle.brk_ref.specs.Records.{abstract_account_row, abstract_customer, abstract_executor}
use Rattle.brk_ref.specs.declared.account.AccountRow as ref
use Rattle.brk_ref.specs.declared.customer.Customer as customer
use Rattle.brk_trade.specs.declared.order.OrderPlanFacts.{OrderPlanFacts}
use Rattle.brk_trade_books.specs.OrderReads.{CustomerOfAccountSatisfies, charge_of_type_and_tier}
use Rattle.brk_trade_theorems.specs.OrderPlans.{EstimateFactsMatchTables, order_account_of_row}
use Rattle.brk_trade_books.specs.Reads.{customer_tax_rate_sum}
use Rattle.brk_trade_books.specs.TradeReads.{commission_band_of_quantity, permission_list_for_tax_id, summary_row_of_position}
use Rattle.brk_desk_decisions.specs.OrderFactReads.{EstimateAmountsMatchTables, CustomerOrderFactsMatchTables, EstimateFactsMatchIfAccountOfOrder}
use Rattle.brk_store_required.specs.Required.{IsCustomerWithId}
use Rattle.brk_desk_decisions.specs.OrderFactReads.{facts_with_account, facts_without_account}
use Rattle.brk_desk_decisions.specs.declared.order_check_reads.OrderCheckFacts.{OrderCheckFacts}
use Rattle.brk_desk_decisions.specs.declared.amounts.Amounts.{Amounts}

not_none : {X : Type 0} (x : X) → Some x ≡ None → ⊥
not_none x e = absurd (cc)

pub no_account : (t : Tables) (order : Order) → None ≡ account_row_with_id t order.account → EstimateFactsMatchTables t order facts_without_account
no_account t order e = record {
  account = ap (option_map order_account_of_row) e;
  last_price = λ p. absurd (not_none NoAccount p);
  is_permitted = λ p. absurd (not_none NoAccount p);
  charge = λ p. absurd (not_none NoAccount p);
  rate = λ p. absurd (not_none NoAccount p);
  rates = λ p. absurd (not_none NoAccount p);
  assets = λ p. absurd (not_none NoAccount p);
  summary = λ p. absurd (not_none NoAccount p);
}

module _ (t : Tables) (account : ℕ) (a : ref.AccountRow) (c : customer.Customer) (there : Some (abstract_account_row a) ≡ account_row_with_id t account)
    (k : IsCustomerWithId t a.account.customer c) where
  if_account : (holds : AccountRow → Type 0) → holds (abstract_account_row a) → IfSome (account_row_with_id t account) holds
  if_account holds h = subst (λ x. IfSome x holds) there h

  if_customer : (holds : Customer → Type 0) → holds (abstract_customer c) → CustomerOfAccountSatisfies t account holds
  if_customer holds h = if_account (λ a. IfSome (find (λ r. r.id == a.customer) t.customers) holds) (subst (λ x. IfSome x holds) (sym k) h)

-- The row that was found passes the test.
passes_found : {X : Type 0} (p : X → Bool) (xs : List X) (x : X) → find p xs ≡ Some x → p x ≡ true
passes_found p [] x e = absurd (let f = e in cc)
passes_found p (y ∷ ys) x e = go (passes_found p ys x) (p y) refl
  where
    go : (find p ys ≡ Some x → p x ≡ true) → (b : Bool) → p y ≡ b → p x ≡ true
    go more true k = let f : Some y ≡ Some x = rw k at e in let same : y ≡ x = cc in ap p (sym same) ∙ k
    go more false k = more (rw k at e)

pub all_found : (t : Tables) (order : Order) (a : ref.AccountRow) (c : customer.Customer) (tested : OrderCheckFacts) (amounts : Amounts) → IsCustomerWithId t a.account.customer c
    → CustomerOrderFactsMatchTables t order c tested → EstimateAmountsMatchTables t a order amounts → EstimateFactsMatchIfAccountOfOrder t order a (facts_with_account a tested amounts)
all_found t order a c tested amounts k x y there = record {
  account = ap (option_map order_account_of_row) there;
  last_price = λ p. x.last_price;
  is_permitted = λ p. if_customer t order.account a c there k
      (λ c. tested.is_permitted ≡ is_customer_or_has_permission c (permission_list_for_tax_id t order.account order.executor.tax_id) (abstract_executor order.executor)) x.is_permitted;
  charge = λ p. if_customer t order.account a c there k (λ c. tested.charge ≡ charge_of_type_and_tier t (trade_type_of_order_type order.order_type) c.tier) x.charge;
  rate = λ p. if_customer t order.account a c there k
      (λ c. IfSome (security_row_with_symbol t order.symbol)
      (λ s. tested.rate ≡ option_map (λ b. b.rate) (commission_band_of_quantity t c.tier (trade_type_of_order_type order.order_type) s.exchange order.qty)))
      x.rate;
  rates = λ p. if_account t order.account a c there k (λ a. amounts.rates ≡ customer_tax_rate_sum t a.customer) y.rates;
  assets = λ p. if_account t order.account a c there k (λ a. amounts.assets ≡ a.balance +ℤ market_value_of_account_row t a) y.held.assets_total;
  summary = λ p. y.held.shares_held
      ∙ ap (λ account. option_map (λ r. r.qty) (summary_row_of_position t account order.symbol))
      (eqb-true a.account.id order.account (passes_found (λ (r : AccountRow). r.id == order.account) t.accounts (abstract_account_row a) (sym there)));
}

-- the last trade is no part of an estimate
pub with_last_trade : (t : Tables) (order : Order) (found : OrderPlanFacts) (last : Option ℕ) → EstimateFactsMatchTables t order found
    → EstimateFactsMatchTables t order (record found { last_trade = last })
with_last_trade t order found last k = record {
  account = k.account;
  last_price = k.last_price;
  is_permitted = k.is_permitted;
  charge = k.charge;
  rate = k.rate;
  rates = k.rates;
  assets = k.assets;
  summary = k.summary;
}

-- ---- rows

-- The first row that passes the test `p` among those that pass `q` is the first that passes both.
pub find-filter : {X : Type 0} (q p : X → Bool) (xs : List X) → find p (filter q xs) ≡ find (λ x. q x && p x) xs
find-filter q p [] = refl
find-filter {X = X} q p (x ∷ xs) = by_test (q x) (find-filter q p xs)
  where
    by_test : (b : Bool) → find p (filter q xs) ≡ find (λ x. q x && p x) xs
        → find p (cond b (x ∷ filter q xs) (filter q xs)) ≡ cond (b && p x) (Some x) (find (λ x. q x && p x) xs)
    by_test true e = ap (λ o. cond (p x) (Some x) o) e
    by_test false e = e

-- what is there as a list
pub listed : {X Y : Type 0} (f : X → Y) (o : Option X) (xs : List X) → MatchOption o (xs ≡ []) (λ x. xs ≡ x ∷ []) → map f xs ≡ option_to_list (option_map f o)
listed f None xs e = ap (map f) e
listed f (Some x) xs e = ap (map f) e
