-- What is kept by key after a row was added.
use Rattle.std.proofs.Common.{◌≡◌, ◌∙◌, ◌==◌, ℕ, Bool, true, false, cond, List, [], ◌∷◌, ◌++◌, Option, Some, None, find, option_map, refl, ap, sym}
use Rattle.std.specs.Prelude.{bytes_eq}
use Rattle.std.proofs.lemmas.Bool.{eqb-true}
use Rattle.std.proofs.lemmas.Slice.Eq.{bytes_eq-Decides}
use Rattle.brk_money.specs.Spelling.{Text}
use Rattle.brk_model.specs.Lists.{insert_by}
use Rattle.brk_model.specs.Records.{Customer}
use Rattle.brk_model.specs.Tables.{SecurityRow}
use Rattle.brk_store_index.specs.ByKey.{AddsCustomer, AddsSecurity, AreCustomersOf, AreSecuritiesOf, customer_with_id, security_with_symbol}
use Rattle.brk_store_index.specs.declared.by_key.CustomersById.{CustomersById}
use Rattle.brk_store_index.specs.declared.by_key.SecuritiesBySymbol.{SecuritiesBySymbol}
use Rattle.brk_store_index.proofs.Pricing.{find_inserted, pushed}

-- the value under a key that was put over those before
pub mapped_put : {X Y : Type 0} (f : X → Y) (b : Bool) (x : X) (y : Y) (old : Option X) → f x ≡ y → option_map f (cond b (Some x) old) ≡ cond b (Some y) (option_map f old)
mapped_put f true x y old same = ap Some same
mapped_put f false x y old same = refl

pub not_mapped : {X Y : Type 0} (f : X → Y) (o : Option X) → o ≡ None → option_map f o ≡ None
not_mapped f o none = ap (option_map f) none

module _ {K Row : Type 0} (same : K → K → Bool) (equal : (a b : K) → same a b ≡ true → a ≡ b) (key : Row → K) (old new : K → Option Row) (r : Row) (rows : List Row) (fresh : old (key r) ≡ None)
    (put : (k : K) → new k ≡ cond (same (key r) k) (Some r) (old k)) (are : (k : K) → old k ≡ find (λ x. same (key x) k) rows) where
  -- what is found by each key, after a row with another key was inserted
  pub found_inserted : (less : Row → Row → Bool) (k : K) → new k ≡ find (λ x. same (key x) k) (insert_by less r rows)
  found_inserted less k =
      put k ∙ ap (cond (same (key r) k) (Some r)) (are k) ∙ sym (find_inserted less (λ x. same (key x) k) r rows (λ e. sym (are k) ∙ ap old (sym (equal (key r) k e)) ∙ fresh))

  pub found_pushed : (k : K) → new k ≡ find (λ x. same (key x) k) (rows ++ r ∷ [])
  found_pushed k = found_inserted (λ x y. true) k ∙ ap (find (λ x. same (key x) k)) (pushed r rows)

same_numbers : (a b : ℕ) → (a == b) ≡ true → a ≡ b
same_numbers a b e = eqb-true a b e

same_texts : (s t : Text) → bytes_eq s t ≡ true → s ≡ t
same_texts s t e = (bytes_eq-Decides s t).0 e

pub customer_inserted : (less : Customer → Customer → Bool) (old new : CustomersById) (c : Customer) (rows : List Customer) → AddsCustomer old c new → AreCustomersOf old rows → AreCustomersOf new (insert_by less c rows)
customer_inserted less old new c rows adds are =
    found_inserted (λ (a b : ℕ). a == b) same_numbers (λ (r : Customer). r.id) (customer_with_id old) (customer_with_id new) c rows adds.fresh adds.customers are less

pub customer_pushed : (old new : CustomersById) (c : Customer) (rows : List Customer) → AddsCustomer old c new → AreCustomersOf old rows → AreCustomersOf new (rows ++ c ∷ [])
customer_pushed old new c rows adds are =
    found_pushed (λ (a b : ℕ). a == b) same_numbers (λ (r : Customer). r.id) (customer_with_id old) (customer_with_id new) c rows adds.fresh adds.customers are

pub security_inserted : (less : SecurityRow → SecurityRow → Bool) (old new : SecuritiesBySymbol) (s : SecurityRow) (rows : List SecurityRow) → AddsSecurity old s new → AreSecuritiesOf old rows
    → AreSecuritiesOf new (insert_by less s rows)
security_inserted less old new s rows adds are =
    found_inserted (λ (a b : Text). bytes_eq a b) same_texts (λ (r : SecurityRow). r.symbol) (security_with_symbol old) (security_with_symbol new) s rows adds.fresh adds.securities are less

pub security_pushed : (old new : SecuritiesBySymbol) (s : SecurityRow) (rows : List SecurityRow) → AddsSecurity old s new → AreSecuritiesOf old rows → AreSecuritiesOf new (rows ++ s ∷ [])
security_pushed old new s rows adds are =
    found_pushed (λ (a b : Text). bytes_eq a b) same_texts (λ (r : SecurityRow). r.symbol) (security_with_symbol old) (security_with_symbol new) s rows adds.fresh adds.securities are
