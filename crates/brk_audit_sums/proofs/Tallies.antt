-- Amounts added at keys.
use Rattle.std.proofs.Common.{◌≡◌, ℕ, ◌+◌, ◌<◌, ◌≤◌, Bool, true, false, cond, List, [], ◌∷◌, refl, sym, ◌∙◌, ap, filter, take, length, get_or, Some, ℤ, pos, arith}
use Rattle.std.specs.Prelude.{◌+ℤ◌, nat_abs, unwrap_or}
use Rattle.std.specs.declared.cmp.Ordering.{Ordering}
use Rattle.std.specs.declared.cmp.Ordering.TheVariants.{Less, Equal, Greater}
use Rattle.std.specs.Ordering.{is_eq}
use Rattle.std.specs.Cmp.{IsTotalOrder}
use Rattle.std.specs.BTreeMap.{BTreeMap, Updates, get, get_by}
use Rattle.std.specs.Map.{lookup}
use Rattle.std.proofs.Math.IntN.{+ℤ_idr}
use Rattle.std.proofs.lemmas.List.Elements.{filter_more}
use Rattle.brk_audit_sums.specs.declared.tally.KeyedAmount.{KeyedAmount}
use Rattle.brk_model.specs.Lists.{total_by}
use Rattle.brk_trade_books.proofs.Worth.{total-append}
use Rattle.brk_audit_sums.specs.Tally.{sum_at_key, total_amount_at_key}

is_equal : (o : Ordering) → is_eq o ≡ true → o ≡ Equal
is_equal Less e = absurd (cc)
is_equal Equal e = refl
is_equal Greater e = absurd (cc)

same_place : {K X : Type 0} (cmp : K → K → Ordering) (law : IsTotalOrder cmp) (m : BTreeMap K X) (k q : K) → is_eq (cmp k q) ≡ true → get cmp m q ≡ get cmp m k
same_place cmp law m k q e = sym (ap (λ c. get_by c m) (λ i z. law.congr k q z (is_equal (cmp k q) e) i))

-- an empty map has nothing at a key
pub none_at : {K : Type 0} (cmp : K → K → Ordering) (m : BTreeMap K ℤ) (q : K) → m.entries ≡ [] → sum_at_key cmp m q ≡ pos 0
none_at cmp m q e = ap (λ es. unwrap_or (lookup (λ k. is_eq (cmp q k)) es) (pos 0)) e

-- an amount added at a key
pub posted : {K : Type 0} (cmp : K → K → Ordering) (law : IsTotalOrder cmp) (m n : BTreeMap K ℤ) (k : K) (amount sum : ℤ) → sum ≡ sum_at_key cmp m k +ℤ amount
    → Updates cmp m n k (Some sum) → (q : K) → sum_at_key cmp n q ≡ sum_at_key cmp m q +ℤ cond (is_eq (cmp k q)) amount (pos 0)
posted {K = K} cmp law m n k amount sum s h q = ap (λ o. unwrap_or o (pos 0)) (h.0 q) ∙ by_place (is_eq (cmp k q)) refl
  where
    by_place : (b : Bool) → is_eq (cmp k q) ≡ b → unwrap_or (cond b (Some sum) (get cmp m q)) (pos 0) ≡ sum_at_key cmp m q +ℤ cond b amount (pos 0)
    by_place true e = s ∙ sym (ap (λ o. unwrap_or o (pos 0) +ℤ amount) (same_place cmp law m k q e))
    by_place false e = sym (+ℤ_idr (sum_at_key cmp m q))

-- and no sum grows by more than that one
pub posted_small : {K : Type 0} (cmp : K → K → Ordering) (law : IsTotalOrder cmp) (m n : BTreeMap K ℤ) (k : K) (sum : ℤ) (most : ℕ) → nat_abs sum ≤ nat_abs (sum_at_key cmp m k) + most
    → Updates cmp m n k (Some sum) → (q : K) → nat_abs (sum_at_key cmp n q) ≤ nat_abs (sum_at_key cmp m q) + most
posted_small {K = K} cmp law m n k sum most s h q = by_place (is_eq (cmp k q)) refl (ap (λ o. unwrap_or o (pos 0)) (h.0 q))
  where
    by_place : (b : Bool) → is_eq (cmp k q) ≡ b → sum_at_key cmp n q ≡ unwrap_or (cond b (Some sum) (get cmp m q)) (pos 0) → nat_abs (sum_at_key cmp n q) ≤ nat_abs (sum_at_key cmp m q) + most
    by_place true e f =
        let g : nat_abs (sum_at_key cmp n q) ≡ nat_abs sum = ap nat_abs f in
        let j : nat_abs (sum_at_key cmp m q) ≡ nat_abs (sum_at_key cmp m k) = ap (λ o. nat_abs (unwrap_or o (pos 0))) (same_place cmp law m k q e) in
        omega arith
    by_place false e f = let g : nat_abs (sum_at_key cmp n q) ≡ nat_abs (sum_at_key cmp m q) = ap nat_abs f in omega arith

-- the sum at a key, with one more posting
pub total_more : {K : Type 0} (cmp : K → K → Ordering) (ps : List (KeyedAmount K)) (i : ℕ) (p : KeyedAmount K) (q : K) → i < length ps
    → total_amount_at_key cmp (take (i + 1) ps) q ≡ total_amount_at_key cmp (take i ps) q +ℤ cond (is_eq (cmp (get_or ps i p).key q)) (get_or ps i p).amount (pos 0)
unfolding total_by
total_more {K = K} cmp ps i p q h =
    ap (total_by (λ p. p.amount)) (filter_more (λ p. is_eq (cmp p.key q)) ps i p h)
    ∙ total-append (λ p. p.amount) (filter (λ p. is_eq (cmp p.key q)) (take i ps)) _
    ∙ ap (λ z. total_amount_at_key cmp (take i ps) q +ℤ z) (by_test (is_eq (cmp (get_or ps i p).key q)))
  where
    by_test : (b : Bool) → total_by (λ p. p.amount) (cond b (get_or ps i p ∷ []) []) ≡ cond b (get_or ps i p).amount (pos 0)
    by_test true = +ℤ_idr (get_or ps i p).amount
    by_test false = refl
