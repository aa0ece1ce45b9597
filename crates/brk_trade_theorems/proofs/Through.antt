-- Lists whose elements are mapped: filtered, sorted, cut and summed.
use Rattle.std.proofs.Common.{◌≡◌, ℕ, zero, suc, Bool, true, false, cond, ◌&&◌, List, [], ◌∷◌, ◌++◌, refl, sym, ap, ◌∙◌, map, filter, take, ℤ, ◌+ℤ◌, ◌+◌}
use Rattle.std.specs.Prelude.{flat_map, sum_by}
use Rattle.std.specs.List.{AllByRecursion}
use Rattle.std.proofs.lemmas.List.Sums.{sum_by-cons}
use Rattle.brk_model.specs.Lists.{insert_by, sort_by, total_by}
use Rattle.brk_trade_books.proofs.Order.{map-insert_by}

pub map-map : {X Y Z : Type 0} (g : Y → Z) (f : X → Y) (xs : List X) → map g (map f xs) ≡ map (λ x. g (f x)) xs
map-map g f [] = refl
map-map g f (x ∷ xs) = ap (λ ys. g (f x) ∷ ys) (map-map g f xs)

pub flat_map-map : {X Y Z : Type 0} (g : Y → List Z) (f : X → Y) (xs : List X) → flat_map g (map f xs) ≡ flat_map (λ x. g (f x)) xs
flat_map-map g f [] = refl
flat_map-map g f (x ∷ xs) = ap (λ ys. g (f x) ++ ys) (flat_map-map g f xs)

pub total-map : {X Y : Type 0} (g : Y → ℤ) (f : X → Y) (xs : List X) → total_by g (map f xs) ≡ total_by (λ x. g (f x)) xs
unfolding total_by
total-map g f [] = refl
total-map g f (x ∷ xs) = ap (λ n. g (f x) +ℤ n) (total-map g f xs)

pub sum-map : {X Y : Type 0} (g : Y → ℕ) (f : X → Y) (xs : List X) → sum_by g (map f xs) ≡ sum_by (λ x. g (f x)) xs
sum-map g f [] = refl
sum-map g f (x ∷ xs) = sum_by-cons g (f x) (map f xs) ∙ ap (λ n. g (f x) + n) (sum-map g f xs) ∙ sym (sum_by-cons (λ x. g (f x)) x xs)

pub filter-map : {X Y : Type 0} (p : Y → Bool) (q : X → Bool) (f : X → Y) (xs : List X) → ((x : X) → p (f x) ≡ q x) → filter p (map f xs) ≡ map f (filter q xs)
filter-map p q f [] h = refl
filter-map p q f (x ∷ xs) h =
    ap (λ b. cond b (f x ∷ filter p (map f xs)) (filter p (map f xs))) (h x) ∙ by_test (q x) (filter-map p q f xs h)
  where
    by_test : (b : Bool) → filter p (map f xs) ≡ map f (filter q xs) → cond b (f x ∷ filter p (map f xs)) (filter p (map f xs)) ≡ map f (cond b (x ∷ filter q xs) (filter q xs))
    by_test true e = ap (λ ys. f x ∷ ys) e
    by_test false e = e

pub filter-both : {X : Type 0} (p q : X → Bool) (xs : List X) → filter (λ x. p x && q x) xs ≡ filter q (filter p xs)
filter-both p q [] = refl
filter-both {X = X} p q (x ∷ xs) = by_first (p x) (filter-both p q xs)
  where
    by_first : (b : Bool) → filter (λ x. p x && q x) xs ≡ filter q (filter p xs)
        → cond (b && q x) (x ∷ filter (λ x. p x && q x) xs) (filter (λ x. p x && q x) xs) ≡ filter q (cond b (x ∷ filter p xs) (filter p xs))
    by_first true e = ap (λ ys. cond (q x) (x ∷ ys) ys) e
    by_first false e = e

pub sort-map : {X Y : Type 0} (before : X → X → Bool) (before' : Y → Y → Bool) (f : X → Y) (xs : List X)
    → ((a b : X) → before' (f a) (f b) ≡ before a b) → sort_by before' (map f xs) ≡ map f (sort_by before xs)
unfolding sort_by
sort-map before before' f [] h = refl
sort-map before before' f (x ∷ xs) h =
    ap (insert_by before' (f x)) (sort-map before before' f xs h) ∙ sym (map-insert_by before before' f x (sort_by before xs) h)

pub take-map : {X Y : Type 0} (f : X → Y) (n : ℕ) (xs : List X) → take n (map f xs) ≡ map f (take n xs)
take-map f zero xs = refl
take-map f (suc n) [] = refl
take-map f (suc n) (x ∷ xs) = ap (λ ys. f x ∷ ys) (take-map f n xs)

pub All-take : {X : Type 0} (P : X → Type 0) (n : ℕ) (xs : List X) → AllByRecursion P xs → AllByRecursion P (take n xs)
All-take P zero xs h = tt
All-take P (suc n) [] h = tt
All-take P (suc n) (x ∷ xs) h = (h.0, All-take P n xs h.1)

pub All-both : {X : Type 0} (P Q : X → Type 0) (xs : List X) → AllByRecursion P xs → AllByRecursion Q xs → AllByRecursion (λ x. P x × Q x) xs
All-both P Q [] g h = tt
All-both P Q (x ∷ xs) g h = ((g.0, h.0), All-both P Q xs g.1 h.1)

-- those that passed a test
pub All-passed : {X : Type 0} (p : X → Bool) (xs : List X) → AllByRecursion (λ x. p x ≡ true) (filter p xs)
All-passed p [] = tt
All-passed {X = X} p (x ∷ xs) = by_test (p x) refl (All-passed p xs)
  where
    by_test : (b : Bool) → p x ≡ b → AllByRecursion (λ x. p x ≡ true) (filter p xs) → AllByRecursion (λ x. p x ≡ true) (cond b (x ∷ filter p xs) (filter p xs))
    by_test true e h = (e, h)
    by_test false e h = h
