-- A stable sort by a number gives the list of `sort_by_key` of the model.
use Rattle.std.proofs.Common.{◌≡◌, ℕ, List, nat_cmp, is_lt, sym, ◌∙◌, arith}
use Rattle.std.specs.Prelude.{nat_lt}
use Rattle.std.specs.Cmp.{IsStrictWeakOrder}
use Rattle.std.specs.Fn.{Called}
use Rattle.std.specs.List.Sorted.{IsSortedByKeyClosure, IsStableByKeyClosure}
use Rattle.std.proofs.lemmas.Bool.Decides.{nat_tests}
use Rattle.std.proofs.lemmas.Fn.{always_returns_same}
use Rattle.brk_model.specs.Lists.{sort_by, sort_by_key}
use Rattle.brk_tables_cash.proofs.StableSorts.{stably_sorted}
use denote.Param.Members.{Mut}
use denote.Ref.{Bor}

by_comparison : (m n : ℕ) → is_lt (nat_cmp m n) ≡ nat_lt m n
by_comparison m n = grind (arith, nat_tests)

module _ {X : Type 0} (n : X → ℕ) where
  by_number : IsStrictWeakOrder (λ (x y : X). is_lt (nat_cmp (n x) (n y)))
  by_number = record {
    one_way = λ x y e. grind (arith, nat_tests);
    chain = λ x y z e f. grind (arith, nat_tests);
  }

  pub in_turn : {F : Type 0} {g : Mut F (Bor X × Unit {0}) ℕ} {f : F} (xs ys : List X) → IsSortedByKeyClosure g nat_cmp f ys → IsStableByKeyClosure g nat_cmp f xs ys
      → ((a : Bor X × Unit {0}) (r : ℕ) (f' : F) → Called g f a r f' → (r ≡ n a.0.now) × (f' ≡ f)) → ys ≡ sort_by_key n xs
  in_turn {g = g} {f = f} xs ys sorted stable calls =
      let always = always_returns_same g (λ a r. r ≡ n a.0.now) f calls in
      stably_sorted (λ x y. is_lt (nat_cmp (n x) (n y))) by_number xs ys (sorted n always) (stable n always)
      ∙ (λ i. sort_by (λ x y. by_comparison (n x) (n y) i) xs)
