-- The order of keys by comparisons, and rows sorted by key.
use Rattle.std.proofs.Common.{◌≡◌, ℕ, zero, suc, ◌<◌, List, [], ◌∷◌, Bool, true, false, not, ◌&&◌, ◌||◌, ◌==◌, Ordering, Less, Equal, Greater, nat_cmp, refl}
use Rattle.std.proofs.Common.{sym, ap, subst, add-one, ◌∙◌, inl, inr, length, get_or, arith, eq-eqb, ne_eqb}
use Rattle.std.specs.Prelude.{nat_lt}
use Rattle.std.specs.List.{IsAllAdjacentAnswer}
use Rattle.std.specs.Ordering.{is_gt, is_lt, ordering_then, ordering_reverse}
use Rattle.std.specs.Cmp.Lexicographic.{slice_cmp}
use Rattle.std.proofs.lemmas.Cmp.{nat_cmp_total, nat_list_cmp_total}
use Rattle.std.proofs.lemmas.Bool.{cases_Bool, ltb-true, ltb-false, and_from}
use Rattle.std.proofs.lemmas.Bool.Decides.{nat_tests}
use Rattle.brk_model.specs.Lists.{is_text_less}
use Rattle.brk_model.specs.Keys.{KeyPart, number, word, is_key_part_less, is_key_less}
use Rattle.brk_model.specs.Form.{is_sorted_by_unique_key}
use Rattle.brk_audit_form.specs.Keys.{key_part_cmp, key_cmp}

pub texts_before : (s t : List ℕ) → is_text_less s t ≡ is_gt (slice_cmp nat_cmp t s)
texts_before [] [] = refl
texts_before (x ∷ s) [] = refl
texts_before [] (y ∷ t) = refl
texts_before (x ∷ s) (y ∷ t) = elim (cases_Bool (nat_lt y x)) [
  | inl b ↦ let a : nat_lt x y ≡ false = elim (cases_Bool (nat_lt x y)) [ inl a ↦ absurd (omega (arith, ltb-true x y a, ltb-true y x b)) | inr a ↦ a ] in rw (a, b) refl
  | inr b ↦ elim (cases_Bool (nat_lt x y)) [
    | inl a ↦ let e : (y == x) ≡ false = ne_eqb y x (λ e. omega (arith, ltb-true x y a, e)) in rw (a, b, e) refl
    | inr a ↦ let e : (y == x) ≡ true = eq-eqb y x (omega (arith, ltb-false x y a, ltb-false y x b)) in rw (a, b, e) (texts_before s t)
  ]
]

pub gt_lt : (o p : Ordering) → o ≡ ordering_reverse p → is_gt o ≡ is_lt p
gt_lt o Less e = ap is_gt e
gt_lt o Equal e = ap is_gt e
gt_lt o Greater e = ap is_gt e

pub numbers_before : (m n : ℕ) → nat_lt m n ≡ is_lt (nat_cmp m n)
numbers_before m n = grind (arith, nat_tests)

-- how a part goes before another, one way and the other
part_lt : (j k : KeyPart) → is_key_part_less j k ≡ is_lt (key_part_cmp j k)
part_lt (number m) (number n) = numbers_before m n
part_lt (word s) (word t) = texts_before s t ∙ gt_lt (slice_cmp nat_cmp t s) (slice_cmp nat_cmp s t) (nat_list_cmp_total.antisymm t s)
part_lt (number m) (word t) = refl
part_lt (word s) (number n) = refl

part_gt : (j k : KeyPart) → is_key_part_less k j ≡ is_gt (key_part_cmp j k)
part_gt (number m) (number n) = numbers_before n m ∙ sym (gt_lt (nat_cmp m n) (nat_cmp n m) (nat_cmp_total.antisymm m n))
part_gt (word s) (word t) = texts_before t s
part_gt (number m) (word t) = refl
part_gt (word s) (number n) = refl

decided : (o rest : Ordering) (a b c : Bool) → a ≡ is_lt o → b ≡ is_gt o → c ≡ is_lt rest → (a || (not b && c)) ≡ is_lt (ordering_then o rest)
decided o rest a b c p q r = (λ i. p i || (not (q i) && r i)) ∙ by_cases o
  where
    by_cases : (o : Ordering) → (is_lt o || (not (is_gt o) && is_lt rest)) ≡ is_lt (ordering_then o rest)
    by_cases Less = refl
    by_cases Equal = refl
    by_cases Greater = refl

alone : (o : Ordering) (a b : Bool) → a ≡ is_lt o → b ≡ is_gt o → (a || (not b && false)) ≡ is_lt o
alone o a b p q = (λ i. p i || (not (q i) && false)) ∙ by_cases o
  where
    by_cases : (o : Ordering) → (is_lt o || (not (is_gt o) && false)) ≡ is_lt o
    by_cases Less = refl
    by_cases Equal = refl
    by_cases Greater = refl

pub key_lt : (js ks : List KeyPart) → is_key_less js ks ≡ is_lt (key_cmp js ks)
key_lt [] [] = refl
key_lt [] (k ∷ ks) = refl
key_lt (j ∷ js) [] = refl
key_lt (j ∷ []) (k ∷ []) = alone (key_part_cmp j k) _ _ (part_lt j k) (part_gt j k)
key_lt (j ∷ []) (k ∷ l ∷ ls) = decided (key_part_cmp j k) (key_cmp [] (l ∷ ls)) _ _ _ (part_lt j k) (part_gt j k) (key_lt [] (l ∷ ls))
key_lt (j ∷ i ∷ is) (k ∷ []) = decided (key_part_cmp j k) (key_cmp (i ∷ is) []) _ _ _ (part_lt j k) (part_gt j k) (key_lt (i ∷ is) [])
key_lt (j ∷ i ∷ is) (k ∷ l ∷ ls) = decided (key_part_cmp j k) (key_cmp (i ∷ is) (l ∷ ls)) _ _ _ (part_lt j k) (part_gt j k) (key_lt (i ∷ is) (l ∷ ls))

-- each row goes before the next
rises_all : {X : Type 0} (key : X → List KeyPart) (xs : List X) → ((k : ℕ) (d : X) → suc k < length xs → is_key_less (key (get_or xs k d)) (key (get_or xs (suc k) d)) ≡ true)
    → is_sorted_by_unique_key key xs ≡ true
rises_all key [] a = refl
rises_all key (x ∷ []) a = refl
rises_all key (x ∷ y ∷ ys) a = and_from _ _ (a 0 x (omega arith)) (rises_all key (y ∷ ys) (λ k d h. a (suc k) d (omega arith)))

rises_not : {X : Type 0} (key : X → List KeyPart) (xs : List X) (k : ℕ) → suc k < length xs
    → ((d : X) → is_key_less (key (get_or xs k d)) (key (get_or xs (suc k) d)) ≡ false) → is_sorted_by_unique_key key xs ≡ false
rises_not key [] k h f = absurd (omega arith)
rises_not key (x ∷ []) k h f = absurd (omega arith)
rises_not key (x ∷ y ∷ ys) zero h f = ap (λ b. b && is_sorted_by_unique_key key (y ∷ ys)) (f x)
rises_not key (x ∷ y ∷ ys) (suc k) h f = ap (λ b. is_key_less (key x) (key y) && b) (rises_not key (y ∷ ys) k (omega arith) f) ∙ and_false (is_key_less (key x) (key y))
  where
    and_false : (b : Bool) → (b && false) ≡ false
    and_false true = refl
    and_false false = refl

pub rises_told : {X : Type 0} (key : X → List KeyPart) (xs : List X) (r : Bool) → IsAllAdjacentAnswer (λ x y b. b ≡ is_key_less (key x) (key y)) xs r → r ≡ is_sorted_by_unique_key key xs
rises_told key xs true a =
    sym (rises_all key xs (λ k d h. subst (λ j. is_key_less (key (get_or xs k d)) (key (get_or xs j d)) ≡ true) (add-one k) (sym (a k d (omega arith)))))
rises_told key xs false a =
    sym (rises_not key xs a.0 (omega (arith, a.1)) (λ d. subst (λ j. is_key_less (key (get_or xs a.0 d)) (key (get_or xs j d)) ≡ false) (add-one a.0) (sym (a.2 d))))
