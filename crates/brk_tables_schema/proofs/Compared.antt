-- Comparisons of a column with a parameter other than equality.
use Rattle.std.proofs.Common.{◌≡◌, ℕ, pos, Bool, true, false, not, Some, int_cmp, refl, ap, ◌∙◌, inl, inr, arith}
use Rattle.std.specs.Prelude.{nat_lt, nat_le}
use Rattle.std.specs.Ordering.{is_le, is_ge}
use Rattle.std.proofs.lemmas.Bool.{cases_Bool, ltb-true}
use Rattle.std.proofs.lemmas.Bool.Decides.{nat_tests}
use Rattle.sqlite_value.specs.declared.value.Value.TheVariants.{Int}
use Rattle.sqlite_value.specs.declared.keys.Collation.TheVariants.{Binary}
use Rattle.sqlite_value.proofs.OrderLemmas.{value_cmp-Int}
use Rattle.sqlite_sql.specs.declared.ops.BinaryOp.TheVariants.{Compare}
use Rattle.sqlite_sql.specs.declared.ops.CompareOp.TheVariants.{Le, Ge}
use Rattle.sqlite_sql.specs.Ops.{binary, is_true, from_truth}

truth : (b : Bool) → is_true (from_truth (Some b)) ≡ b
truth true = refl
truth false = refl

not_below : (m n : ℕ) → not (nat_lt m n) ≡ nat_le n m
not_below m n = grind (arith, nat_tests)

pub at_least : (m n : ℕ) → is_true (binary (Compare Ge Binary) (Int (pos m)) (Int (pos n))) ≡ nat_le n m
unfolding binary
at_least m n = truth _ ∙ ap is_ge (value_cmp-Int (pos m) (pos n)) ∙ go ∙ not_below m n
  where
    go : is_ge (int_cmp (pos m) (pos n)) ≡ not (nat_lt m n)
    go = elim (cases_Bool (nat_lt m n)) [
      | inl a ↦ rw a refl
      | inr a ↦ elim (cases_Bool (nat_lt n m)) [ inl b ↦ rw (a, b) refl | inr b ↦ rw (a, b) refl ]
    ]

pub at_most : (m n : ℕ) → is_true (binary (Compare Le Binary) (Int (pos m)) (Int (pos n))) ≡ nat_le m n
unfolding binary
at_most m n = truth _ ∙ ap is_le (value_cmp-Int (pos m) (pos n)) ∙ go ∙ not_below n m
  where
    go : is_le (int_cmp (pos m) (pos n)) ≡ not (nat_lt n m)
    go = elim (cases_Bool (nat_lt m n)) [
      | inl a ↦ elim (cases_Bool (nat_lt n m)) [ inl b ↦ absurd (omega (arith, ltb-true m n a, ltb-true n m b)) | inr b ↦ rw (a, b) refl ]
      | inr a ↦ elim (cases_Bool (nat_lt n m)) [ inl b ↦ rw (a, b) refl | inr b ↦ rw (a, b) refl ]
    ]
