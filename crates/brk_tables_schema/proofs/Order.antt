-- Ascending keys: the order of the model and that of the database are one.
use Rattle.std.proofs.Common.{◌≡◌, ℕ, pos, List, [], ◌∷◌, Bool, true, false, not, ◌&&◌, ◌||◌, if◌then◌else◌, ◌==◌, Ordering, Less, Equal, Greater, int_cmp}
use Rattle.std.proofs.Common.{nat_cmp, refl, sym, ap, ap₂, ◌∙◌, inl, inr, arith, eq-eqb, ne_eqb}
use Rattle.std.specs.Prelude.{nat_lt}
use Rattle.std.specs.Ordering.{is_gt, ordering_then, ordering_reverse}
use Rattle.std.specs.Cmp.{IsTotalOrder}
use Rattle.std.specs.Cmp.Lexicographic.{slice_cmp}
use Rattle.std.proofs.lemmas.Cmp.{on_total, lists_total}
use Rattle.std.proofs.lemmas.Bool.{cases_Bool, ltb-true, ltb-false}
use Rattle.sqlite_value.specs.Order.{value_cmp}
use Rattle.sqlite_value.proofs.OrderLemmas.{value_cmp_total, value_cmp-Int, value_cmp-Text}
use Rattle.sqlite_keyed.specs.Lists.{insert_sorted}
use Rattle.brk_model.specs.Lists.{is_text_less}
use Rattle.brk_model.specs.Keys.{KeyPart, number, word, is_key_part_less, is_key_less, insert_row_by_key}
use Rattle.brk_tables_schema.specs.Order.{key_part_value, key_values, ordering_by_key}

pub key_total : {X : Type 0} (key : X → List KeyPart) → IsTotalOrder (ordering_by_key key)
key_total key = on_total (λ x. key_values (key x)) (lists_total value_cmp_total)

-- ---- one part

numbers_before : (m n : ℕ) → nat_lt m n ≡ is_gt (int_cmp (pos n) (pos m))
numbers_before m n = elim (cases_Bool (nat_lt m n)) [
  | inl a ↦ elim (cases_Bool (nat_lt n m)) [ inl b ↦ absurd (omega (arith, ltb-true m n a, ltb-true n m b)) | inr b ↦ rw (a, b) refl ]
  | inr a ↦ elim (cases_Bool (nat_lt n m)) [ inl b ↦ rw (a, b) refl | inr b ↦ rw (a, b) refl ]
]

texts_before : (s t : List ℕ) → is_text_less s t ≡ is_gt (slice_cmp nat_cmp t s)
texts_before [] [] = refl
texts_before (x ∷ s) [] = refl
texts_before [] (y ∷ t) = refl
texts_before (x ∷ s) (y ∷ t) = elim (cases_Bool (nat_lt y x)) [
  | inl b ↦ let a : nat_lt x y ≡ false = elim (cases_Bool (nat_lt x y)) [ inl a ↦ absurd (omega (arith, ltb-true x y a, ltb-true y x b)) | inr a ↦ a ] in rw (a, b) refl
  | inr b ↦ elim (cases_Bool (nat_lt x y)) [
    | inl a ↦ let e : (y == x) ≡ false = ne_eqb y x (λ e. omega (arith, ltb-true x y a, e)) in rw (a, b, e) refl
    | inr a ↦ let e : (y == x) ≡ true = eq-eqb y x (omega (arith, ltb-false x y a, ltb-false y x b)) in rw (a, b, e) (texts_before s t)
  ]
]

parts_before : (j k : KeyPart) → is_key_part_less j k ≡ is_gt (value_cmp (key_part_value k) (key_part_value j))
unfolding value_cmp
parts_before (number m) (number n) = numbers_before m n ∙ ap is_gt (sym (value_cmp-Int (pos n) (pos m)))
parts_before (word s) (word t) = texts_before s t ∙ ap is_gt (sym (value_cmp-Text t s))
parts_before (number m) (word t) = refl
parts_before (word s) (number n) = refl

-- ---- whole keys

decided : (o : Ordering) (a b c d : Bool) → a ≡ is_gt o → b ≡ is_gt (ordering_reverse o) → c ≡ d → (rest : Ordering) → d ≡ is_gt rest → (a || (not b && c)) ≡ is_gt (ordering_then o rest)
decided Less a b c d p q r rest s = rw (p, q) refl
decided Equal a b c d p q r rest s = rw (p, q) (r ∙ s)
decided Greater a b c d p q r rest s = rw p refl

keys_before : (js ks : List KeyPart) → is_key_less js ks ≡ is_gt (slice_cmp value_cmp (key_values ks) (key_values js))
keys_before [] [] = refl
keys_before (j ∷ js) [] = refl
keys_before [] (k ∷ ks) = refl
keys_before (j ∷ js) (k ∷ ks) =
    decided (value_cmp (key_part_value k) (key_part_value j)) _ _ _ _ (parts_before j k)
    (parts_before k j ∙ ap is_gt (value_cmp_total.antisymm (key_part_value j) (key_part_value k))) refl _ (keys_before js ks)

-- a row is put where its key goes
pub inserted : {X : Type 0} (key : X → List KeyPart) (x : X) (xs : List X) → insert_row_by_key key x xs ≡ insert_sorted (ordering_by_key key) x xs
inserted key x [] = refl
inserted key x (y ∷ xs) = ap₂ (λ b (l : List _). if b then y ∷ l else x ∷ y ∷ xs) (keys_before (key y) (key x)) (inserted key x xs)
