-- The total of a list with one more element.
use Rattle.std.proofs.Common.{◌≡◌, ◌+ℤ◌, ◌+◌, ℤ, Bool, true, false, List, [], ◌∷◌, ◌++◌, append-nil, ap, arith, cond, filter, length, pos, refl, ◌∙◌}
use Rattle.std.proofs.lemmas.Int.{ints}
use Rattle.std.proofs.lemmas.List.{length_push}
use Rattle.std.proofs.lemmas.List.Elements.{filter-append}
use Rattle.brk_model.specs.Lists.{total_by}

pub total_by-more : {X : Type 0} (f : X → ℤ) (xs : List X) (x : X) → total_by f (xs ++ x ∷ []) ≡ total_by f xs +ℤ f x
unfolding total_by
total_by-more f [] x = omega (arith, ints)
total_by-more f (y ∷ xs) x = let h = total_by-more f xs x in omega (h, arith, ints)

pub total_by-none : {X : Type 0} (f : X → ℤ) → total_by f [] ≡ pos 0
unfolding total_by
total_by-none f = refl

-- the total of elements that are picked, with one element behind them that may be picked
picked_last : {X : Type 0} (f : X → ℤ) (b : Bool) (xs : List X) (x : X) → total_by f (xs ++ cond b (x ∷ []) []) ≡ total_by f xs +ℤ cond b (f x) (pos 0)
picked_last f true xs x = total_by-more f xs x
picked_last f false xs x = ap (total_by f) (append-nil xs) ∙ zero (total_by f xs)
  where
    zero : (z : ℤ) → z ≡ z +ℤ pos 0
    zero z = omega (arith, ints)

-- the total of the elements that pass a test, with one more element
pub picked_more : {X : Type 0} (f : X → ℤ) (p : X → Bool) (xs : List X) (x : X) → total_by f (filter p (xs ++ x ∷ [])) ≡ total_by f (filter p xs) +ℤ cond (p x) (f x) (pos 0)
picked_more f p xs x = ap (total_by f) (filter-append p xs (x ∷ [])) ∙ picked_last f (p x) (filter p xs) x

-- the number of elements that are picked, with one element behind them that may be picked
counted_last : {X : Type 0} (b : Bool) (xs : List X) (x : X) → length (xs ++ cond b (x ∷ []) []) ≡ length xs + cond b 1 0
counted_last true xs x = length_push xs x
counted_last false xs x = let same = ap length (append-nil xs) in omega (arith, same)

-- the number of the elements that pass a test, with one more element
pub counted_more : {X : Type 0} (p : X → Bool) (xs : List X) (x : X) → length (filter p (xs ++ x ∷ [])) ≡ length (filter p xs) + cond (p x) 1 0
counted_more p xs x = ap length (filter-append p xs (x ∷ [])) ∙ counted_last (p x) (filter p xs) x
