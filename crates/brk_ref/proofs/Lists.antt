-- Searches of a list after a map, and tests one after another.
use Rattle.std.proofs.Common.{◌≡◌, Bool, true, false, cond, List, [], ◌∷◌, refl, ap, map, Some}
use Rattle.std.specs.Prelude.{find, option_map, ◌||◌}
use Rattle.std.specs.List.{list_any}

pub any_mapped : {X Y : Type 0} (test : Y → Bool) (f : X → Y) (xs : List X) → list_any test (map f xs) ≡ list_any (λ x. test (f x)) xs
any_mapped test f [] = refl
any_mapped test f (x ∷ xs) = ap (λ b. test (f x) || b) (any_mapped test f xs)

-- what is found among the mapped elements, by a column that the map keeps
pub found_mapped : {X Y Z : Type 0} (test : Y → Bool) (f : X → Y) (column : Y → Z) (xs : List X)
    → option_map column (find test (map f xs)) ≡ option_map (λ x. column (f x)) (find (λ x. test (f x)) xs)
found_mapped test f column [] = refl
found_mapped test f column (x ∷ xs) = by_test (test (f x)) (found_mapped test f column xs)
  where
    by_test : (b : Bool) → option_map column (find test (map f xs)) ≡ option_map (λ x. column (f x)) (find (λ x. test (f x)) xs)
        → option_map column (cond b (Some (f x)) (find test (map f xs))) ≡ option_map (λ x. column (f x)) (cond b (Some x) (find (λ x. test (f x)) xs))
    by_test true e = refl
    by_test false e = e

-- what one test refused, and whether one of the others passed
pub or_rest : (first rest passed : Bool) → first ≡ false → rest ≡ passed → rest ≡ first || passed
or_rest first rest passed e h = rw e h
