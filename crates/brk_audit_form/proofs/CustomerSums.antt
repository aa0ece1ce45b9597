-- Sums over the first rows of a list, and over one row more.
use Rattle.std.proofs.Common.{◌≡◌, ℕ, zero, suc, ◌+◌, ◌≤◌, Bool, true, false, cond, List, [], ◌∷◌, refl, sym, ◌∙◌, ap, map, filter, take, length, arith}
use Rattle.std.specs.Prelude.{sum_by}
use Rattle.std.proofs.lemmas.List.Sums.{sum_by-cons}

pub filter-le : {X : Type 0} (p : X → Bool) (xs : List X) → length (filter p xs) ≤ length xs
filter-le p [] = omega arith
filter-le {X = X} p (x ∷ xs) = by_test (p x) (filter-le p xs)
  where
    by_test : (b : Bool) → length (filter p xs) ≤ length xs → length (cond b (x ∷ filter p xs) (filter p xs)) ≤ length (x ∷ xs)
    by_test true h = omega arith
    by_test false h = omega arith

pub taken : {X : Type 0} (i : ℕ) (xs : List X) → length (take i xs) ≤ i
taken zero xs = omega arith
taken (suc i) [] = omega arith
taken (suc i) (x ∷ xs) = let h = taken i xs in omega arith

pub sum-mapped : {X Y : Type 0} (f : Y → ℕ) (p : Y → Bool) (of : X → Y) (xs : List X) → sum_by (λ x. f (of x)) (filter (λ x. p (of x)) xs) ≡ sum_by f (filter p (map of xs))
sum-mapped f p of [] = refl
sum-mapped {X = X} f p of (x ∷ xs) = by_test (p (of x)) (sum-mapped f p of xs)
  where
    by_test : (b : Bool) → sum_by (λ x. f (of x)) (filter (λ x. p (of x)) xs) ≡ sum_by f (filter p (map of xs))
        → sum_by (λ x. f (of x)) (cond b (x ∷ filter (λ x. p (of x)) xs) (filter (λ x. p (of x)) xs)) ≡ sum_by f (cond b (of x ∷ filter p (map of xs)) (filter p (map of xs)))
    by_test true e =
        sum_by-cons (λ x. f (of x)) x (filter (λ x. p (of x)) xs) ∙ ap (λ n. f (of x) + n) e ∙ sym (sum_by-cons f (of x) (filter p (map of xs)))
    by_test false e = e

pub count-mapped : {X Y : Type 0} (p : Y → Bool) (of : X → Y) (xs : List X) → length (filter (λ x. p (of x)) xs) ≡ length (filter p (map of xs))
count-mapped p of [] = refl
count-mapped {X = X} p of (x ∷ xs) = by_test (p (of x)) (count-mapped p of xs)
  where
    by_test : (b : Bool) → length (filter (λ x. p (of x)) xs) ≡ length (filter p (map of xs))
        → length (cond b (x ∷ filter (λ x. p (of x)) xs) (filter (λ x. p (of x)) xs)) ≡ length (cond b (of x ∷ filter p (map of xs)) (filter p (map of xs)))
    by_test true e = ap (λ n. suc n) e
    by_test false e = e
