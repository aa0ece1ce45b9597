-- Texts compared by their bytes, and brokers by their volumes.
use Rattle.std.proofs.Common.{◌≡◌, ℕ, List, [], ◌∷◌, Bool, true, false, not, ◌&&◌, ◌||◌, ◌==◌, Ordering, nat_cmp, refl, sym, ◌∙◌, inl, inr, arith, eq-eqb, ne_eqb}
use Rattle.std.specs.Prelude.{nat_lt, int_lt, pos, bytes_eq}
use Rattle.std.specs.Cmp.Lexicographic.{slice_cmp}
use Rattle.std.specs.Ordering.{is_eq, is_lt}
use Rattle.std.proofs.lemmas.Bool.{cases_Bool, ltb-true, ltb-false}
use Rattle.std.proofs.lemmas.Bool.Decides.{nat_tests}
use Rattle.std.proofs.lemmas.Map.Text.{is_eq-slice_cmp}
use Rattle.brk_model.specs.Lists.{is_text_less}

texts_before : (s t : List ℕ) → is_text_less s t ≡ is_lt (slice_cmp nat_cmp s t)
texts_before [] [] = refl
texts_before (x ∷ s) [] = refl
texts_before [] (y ∷ t) = refl
texts_before (x ∷ s) (y ∷ t) = elim (cases_Bool (nat_lt x y)) [
  | inl a ↦ rw a refl
  | inr a ↦ elim (cases_Bool (nat_lt y x)) [
    | inl b ↦ let e : (x == y) ≡ false = ne_eqb x y (λ e. omega (arith, ltb-true y x b, e)) in rw (a, b, e) refl
    | inr b ↦ let e : (x == y) ≡ true = eq-eqb x y (omega (arith, ltb-false x y a, ltb-false y x b)) in rw (a, b, e) (texts_before s t)
  ]
]

-- the order of two rows whose names compare so
pub names_compared : (s t : List ℕ) (o : Ordering) (later : Bool) → slice_cmp nat_cmp s t ≡ o
    → is_text_less s t || (bytes_eq s t && later) ≡ is_lt o || (is_eq o && later)
names_compared s t o later e =
    (λ i. texts_before s t i || (sym (is_eq-slice_cmp s t) i && later)) ∙ (λ i. is_lt (e i) || (is_eq (e i) && later))

-- a volume before another, of numbers that are not below 0
pub volumes_before : (m n : ℕ) (named : Bool) → nat_lt n m || ((n == m) && named) ≡ int_lt (pos n) (pos m) || (not (int_lt (pos m) (pos n)) && named)
volumes_before m n named = grind (arith, nat_tests)
