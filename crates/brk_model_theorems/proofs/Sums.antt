-- Signed sums over lists that are filtered, mapped and sorted.
use Rattle.std.proofs.Common.{◌≡◌, Bool, true, false, not, cond, List, [], ◌∷◌, ◌++◌, refl, ◌∙◌, ap, map, filter, arith, ℤ, pos, negsuc, zero, suc, ◌+ℤ◌}
use Rattle.std.proofs.lemmas.Int.{ints}
use Rattle.brk_model.specs.Lists.{total_by, is_zero, insert_by, sort_by}

pub total_by-append : {X : Type 0} (f : X → ℤ) (xs ys : List X) → total_by f (xs ++ ys) ≡ total_by f xs +ℤ total_by f ys
unfolding total_by
total_by-append f [] ys = omega (arith, ints)
total_by-append f (x ∷ xs) ys = let h = total_by-append f xs ys in omega (h, arith, ints)

pub total_by-sum : {X : Type 0} (f g : X → ℤ) (xs : List X) → total_by (λ x. f x +ℤ g x) xs ≡ total_by f xs +ℤ total_by g xs
unfolding total_by
total_by-sum f g [] = refl
total_by-sum f g (x ∷ xs) = let h = total_by-sum f g xs in omega (h, arith, ints)

pub total_by-zero : {X : Type 0} (xs : List X) → total_by (λ x. pos 0) xs ≡ pos 0
unfolding total_by
total_by-zero [] = refl
total_by-zero (x ∷ xs) = ap (λ y. pos 0 +ℤ y) (total_by-zero xs)

pub total_by-map : {X Y : Type 0} (f : Y → ℤ) (g : X → Y) (xs : List X) → total_by f (map g xs) ≡ total_by (λ x. f (g x)) xs
unfolding total_by
total_by-map f g [] = refl
total_by-map f g (x ∷ xs) = ap (λ y. f (g x) +ℤ y) (total_by-map f g xs)

pub total_by-same : {X : Type 0} (f g : X → ℤ) → ((x : X) → f x ≡ g x) → (xs : List X) → total_by f xs ≡ total_by g xs
unfolding total_by
total_by-same f g e [] = refl
total_by-same f g e (x ∷ xs) = ap (λ y. y +ℤ total_by f xs) (e x) ∙ ap (λ y. g x +ℤ y) (total_by-same f g e xs)

-- a sum over the elements that pass a test counts 0 for the others
pub total_by-filter : {X : Type 0} (f : X → ℤ) (p : X → Bool) (xs : List X) → total_by f (filter p xs) ≡ total_by (λ x. cond (p x) (f x) (pos 0)) xs
unfolding total_by
total_by-filter f p [] = refl
total_by-filter {X = X} f p (x ∷ xs) = at (p x) ∙ ap (λ y. cond (p x) (f x) (pos 0) +ℤ y) (total_by-filter f p xs)
  where
    at : (b : Bool) → total_by f (cond b (x ∷ filter p xs) (filter p xs)) ≡ cond b (f x) (pos 0) +ℤ total_by f (filter p xs)
    at true = refl
    at false = omega (arith, ints)

-- leaving out what counts 0 leaves the sum
pub total_by-left_out : {X : Type 0} (f : X → ℤ) (p : X → Bool) → ((x : X) → p x ≡ false → f x ≡ pos 0) → (xs : List X) → total_by f (filter p xs) ≡ total_by f xs
unfolding total_by
total_by-left_out f p z [] = refl
total_by-left_out f p z (x ∷ xs) = at (p x) refl ∙ ap (λ y. f x +ℤ y) (total_by-left_out f p z xs)
  where
    at : (b : Bool) → p x ≡ b → total_by f (cond b (x ∷ filter p xs) (filter p xs)) ≡ f x +ℤ total_by f (filter p xs)
    at true e = refl
    at false e = let k = z x e in omega (k, arith, ints)

pub zero-is : (z : ℤ) → not (is_zero z) ≡ false → z ≡ pos 0
zero-is (pos zero) h = refl
zero-is (pos (suc n)) h = absurd (cc)
zero-is (negsuc n) h = absurd (cc)

-- a sum does not depend on the order
total_by-insert : {X : Type 0} (f : X → ℤ) (before : X → X → Bool) (x : X) (ys : List X) → total_by f (insert_by before x ys) ≡ f x +ℤ total_by f ys
unfolding total_by
total_by-insert f before x [] = refl
total_by-insert f before x (y ∷ ys) = at (before y x) (total_by-insert f before x ys)
  where
    at : (b : Bool) → total_by f (insert_by before x ys) ≡ f x +ℤ total_by f ys → total_by f (cond b (y ∷ insert_by before x ys) (x ∷ y ∷ ys)) ≡ f x +ℤ (f y +ℤ total_by f ys)
    at true h = omega (h, arith, ints)
    at false h = refl

pub total_by-sort : {X : Type 0} (f : X → ℤ) (before : X → X → Bool) (xs : List X) → total_by f (sort_by before xs) ≡ total_by f xs
unfolding total_by sort_by
total_by-sort f before [] = refl
total_by-sort f before (x ∷ xs) = total_by-insert f before x (sort_by before xs) ∙ ap (λ y. f x +ℤ y) (total_by-sort f before xs)
