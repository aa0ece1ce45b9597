-- Lists that are permutations of each other, and their sums and sorted forms.
use Rattle.std.proofs.Common.{◌≡◌, ℕ, suc, ◌+◌, ◌<◌, ◌≤◌, eqb, ltb, Bool, true, false, cond, List, [], ◌∷◌, ◌++◌, length, get_or, map, filter, refl, sym, ap, ◌∙◌, subst, arith, inl, inr}
use Rattle.std.specs.Prelude.{⊤}
use Rattle.std.specs.Bool.{Decides}
use Rattle.std.specs.Cmp.{IsStrictWeakOrder}
use Rattle.std.specs.List.{sum_by, AllByRecursion}
use Rattle.std.specs.List.Sorted.{IsNonDecreasingBy, IsPermutation, IsSortedBy}
use Rattle.std.proofs.lemmas.Bool.{eq-eqb, ne_eqb, cases_Bool, ltb-false, ltb-true, le-ltb, lt-ltb}
use Rattle.std.proofs.lemmas.List.Sums.{sum_by-cons}
use Rattle.std.proofs.lemmas.List.Sorted.{sum_by-IsPermutation}
use Rattle.brk_model.specs.Lists.{insert_by, sort_by}
use Rattle.brk_trade_books.proofs.Order.{NoneBefore, Sorted}
use Rattle.brk_trade_books.proofs.Same.{All-map, All-mapped}

-- ---- lists that hold the same

-- each sum over them is the same
abbrev pub SameSums : {X : Type 0} → List X → List X → Type 0
SameSums {X} xs ys = (f : X → ℕ) → sum_by f xs ≡ sum_by f ys

pub sum_map : {X Y : Type 0} (f : Y → ℕ) (g : X → Y) (xs : List X) → sum_by f (map g xs) ≡ sum_by (λ x. f (g x)) xs
sum_map f g [] = refl
sum_map f g (x ∷ xs) = sum_by-cons f (g x) (map g xs) ∙ ap (λ n. f (g x) + n) (sum_map f g xs) ∙ sym (sum_by-cons (λ y. f (g y)) x xs)

pub sum_filter : {X : Type 0} (f : X → ℕ) (p : X → Bool) (xs : List X) → sum_by f (filter p xs) ≡ sum_by (λ x. cond (p x) (f x) 0) xs
sum_filter f p [] = refl
sum_filter {X = X} f p (x ∷ xs) = by_test (p x) (sum_filter f p xs) ∙ sym (sum_by-cons (λ y. cond (p y) (f y) 0) x xs)
  where
    by_test : (b : Bool) → sum_by f (filter p xs) ≡ sum_by (λ y. cond (p y) (f y) 0) xs
        → sum_by f (cond b (x ∷ filter p xs) (filter p xs)) ≡ cond b (f x) 0 + sum_by (λ y. cond (p y) (f y) 0) xs
    by_test true e = sum_by-cons f x (filter p xs) ∙ ap (λ n. f x + n) e
    by_test false e = omega (arith, e)

pub sum_insert : {X : Type 0} (f : X → ℕ) (before : X → X → Bool) (x : X) (xs : List X) → sum_by f (insert_by before x xs) ≡ f x + sum_by f xs
sum_insert f before x [] = sum_by-cons f x []
sum_insert {X = X} f before x (y ∷ ys) = by_test (before y x) (sum_insert f before x ys)
  where
    by_test : (b : Bool) → sum_by f (insert_by before x ys) ≡ f x + sum_by f ys → sum_by f (cond b (y ∷ insert_by before x ys) (x ∷ y ∷ ys)) ≡ f x + sum_by f (y ∷ ys)
    by_test true e = omega (arith, e, sum_by-cons f y (insert_by before x ys), sum_by-cons f y ys)
    by_test false e = sum_by-cons f x (y ∷ ys)

pub sum_sort : {X : Type 0} (f : X → ℕ) (before : X → X → Bool) (xs : List X) → sum_by f (sort_by before xs) ≡ sum_by f xs
unfolding sort_by
sum_sort f before [] = refl
sum_sort f before (x ∷ xs) = sum_insert f before x (sort_by before xs) ∙ ap (λ n. f x + n) (sum_sort f before xs) ∙ sym (sum_by-cons f x xs)

pub sum_append : {X : Type 0} (f : X → ℕ) (xs ys : List X) → sum_by f (xs ++ ys) ≡ sum_by f xs + sum_by f ys
sum_append f [] ys = omega arith
sum_append f (x ∷ xs) ys = omega (arith, sum_append f xs ys, sum_by-cons f x (xs ++ ys), sum_by-cons f x xs)

pub sum_same : {X : Type 0} (f g : X → ℕ) (xs : List X) → AllByRecursion (λ x. f x ≡ g x) xs → sum_by f xs ≡ sum_by g xs
sum_same f g [] h = refl
sum_same f g (x ∷ xs) h = let e = h.0 in omega (arith, e, sum_same f g xs h.1, sum_by-cons f x xs, sum_by-cons g x xs)

pub sum_both : {X : Type 0} (f g : X → ℕ) (xs : List X) → sum_by (λ x. f x + g x) xs ≡ sum_by f xs + sum_by g xs
sum_both f g [] = refl
sum_both f g (x ∷ xs) = omega (arith, sum_both f g xs, sum_by-cons f x xs, sum_by-cons g x xs, sum_by-cons (λ y. f y + g y) x xs)

pub permuted : {X : Type 0} (xs ys : List X) → IsPermutation xs ys → SameSums ys xs
permuted xs ys p f = sum_by-IsPermutation f xs ys p

-- ---- in one order

-- a number rises, or falls nowhere
abbrev pub Rises : {X : Type 0} → (X → ℕ) → List X → Type 0
Rises n [] = ⊤
Rises n (x ∷ xs) = AllByRecursion (λ y. n x < n y) xs × Rises n xs

abbrev pub Ascends : {X : Type 0} → (X → ℕ) → List X → Type 0
Ascends n [] = ⊤
Ascends n (x ∷ xs) = AllByRecursion (λ y. n x ≤ n y) xs × Ascends n xs

pub sum_none : {X : Type 0} (f : X → ℕ) (xs : List X) → AllByRecursion (λ x. f x ≡ 0) xs → sum_by f xs ≡ 0
sum_none f [] h = refl
sum_none f (x ∷ xs) h = let e = sum_none f xs h.1 in let z = h.0 in omega (arith, sum_by-cons f x xs, e, z)

-- whether a number is below another, and whether it is none above
abbrev below : {X : Type 0} → (X → ℕ) → ℕ → X → ℕ
below n k x = cond (ltb (n x) k) 1 0

abbrev no_more : {X : Type 0} → (X → ℕ) → ℕ → X → ℕ
no_more n k x = cond (ltb k (n x)) 0 1

-- whether an element has another's number, and is not that element
abbrev beside : {X : Type 0} → (X → ℕ) → (X → X → Bool) → X → X → ℕ
beside n same m x = cond (eqb (n x) (n m)) (cond (same x m) 0 1) 0

pub one_order : {X : Type 0} (n : X → ℕ) (same : X → X → Bool) → ((x y : X) → Decides (same x y) (x ≡ y)) → (xs ys : List X) → Rises n xs → Ascends n ys → SameSums ys xs → ys ≡ xs
one_order n same d [] [] c a h = refl
one_order n same d [] (y ∷ ys) c a h = let e = h (λ _. 1) in absurd (omega (arith, e, sum_by-cons (λ _. 1) y ys))
one_order n same d (x ∷ xs) [] c a h = let e = h (λ _. 1) in absurd (omega (arith, e, sum_by-cons (λ _. 1) x xs))
one_order {X = X} n same d (x ∷ xs) (y ∷ ys) c a h =
    let none_below : sum_by (below n (n x)) (x ∷ xs) ≡ 0 =
    sum_none (below n (n x)) (x ∷ xs) (ap (λ b. cond b 1 0) (le-ltb (n x) (n x) (omega arith)), All-map xs (λ l p. ap (λ b. cond b 1 0) (le-ltb (n l) (n x) (omega (arith, p)))) c.0) in
    let none_beside : sum_by (beside n same x) (x ∷ xs) ≡ 0 =
    sum_none (beside n same x) (x ∷ xs) (
      rw (eq-eqb (n x) (n x) refl, (d x x).1 refl) refl,
      All-map xs
          (λ l p. ap (λ b. cond b (cond (same l x) 0 1) 0) (ne_eqb (n l) (n x) (λ e. absurd (omega (arith, p, e))))) c.0,
    ) in
    let low : n x ≤ n y = elim (cases_Bool (ltb (n y) (n x))) [
      | inl e ↦
          let one : below n (n x) y ≡ 1 = ap (λ b. cond b 1 0) e in
          let s = h (below n (n x)) in
          absurd (omega (arith, one, s, none_below, sum_by-cons (below n (n x)) y ys))
      | inr e ↦ ltb-false (n y) (n x) e
    ] in
    let high : n y ≤ n x = elim (cases_Bool (ltb (n x) (n y))) [
      | inl e ↦
          let p : n x < n y = ltb-true (n x) (n y) e in
          let none : sum_by (no_more n (n x)) (y ∷ ys) ≡ 0 =
          sum_none (no_more n (n x)) (y ∷ ys) (ap (λ b. cond b 0 1) e, All-map ys (λ l q. ap (λ b. cond b 0 1) (lt-ltb (n x) (n l) (omega (arith, p, q)))) a.0) in
          let one : no_more n (n x) x ≡ 1 = ap (λ b. cond b 0 1) (le-ltb (n x) (n x) (omega arith)) in
          let s = h (no_more n (n x)) in
          absurd (omega (arith, one, s, none, sum_by-cons (no_more n (n x)) x xs))
      | inr e ↦ ltb-false (n x) (n y) e
    ] in
    let level : n y ≡ n x = omega (arith, low, high) in
    let zero_beside : beside n same x y ≡ 0 = (let s = h (beside n same x) in omega (arith, s, none_beside, sum_by-cons (beside n same x) y ys)) in
    let alike : same y x ≡ true = elim (cases_Bool (same y x)) [
      | inl e ↦ e
      | inr e ↦
          let one : beside n same x y ≡ 1 = rw (eq-eqb (n y) (n x) level, e) refl in
          absurd (omega (arith, one, zero_beside))
    ] in
    let first : y ≡ x = (d y x).0 alike in
    let rest : ys ≡ xs = one_order n same d xs ys c.1 a.1 (λ f. let s = h f in let fe : f y ≡ f x = ap f first in omega (arith, s, fe, sum_by-cons f y ys, sum_by-cons f x xs)) in
    ap (λ (z : X). z ∷ ys) first ∙ ap (λ (zs : List X). x ∷ zs) rest

-- ---- what sorts say, element by element

pub ascends : {X : Type 0} (n : X → ℕ) (xs : List X) → IsNonDecreasingBy n xs → Ascends n xs
ascends n [] h = tt
ascends {X = X} n (x ∷ xs) h = (all_from xs (λ k b. h 0 (suc k) x (omega arith) (omega (arith, b))), ascends n xs (λ i j e le b. h (suc i) (suc j) e (omega (arith, le)) (omega (arith, b))))
  where
    all_from : (ys : List X) → ((k : ℕ) → k < length ys → n x ≤ n (get_or ys k x)) → AllByRecursion (λ y. n x ≤ n y) ys
    all_from [] g = tt
    all_from (y ∷ ys) g = (g 0 (omega arith), all_from ys (λ k b. g (suc k) (omega (arith, b))))

pub ascends_map : {X Y : Type 0} (n : Y → ℕ) (f : X → Y) (xs : List X) → Ascends (λ x. n (f x)) xs → Ascends n (map f xs)
ascends_map n f [] a = tt
ascends_map n f (x ∷ xs) a = (All-mapped (λ y. n (f x) ≤ n y) f xs a.0, ascends_map n f xs a.1)

pub sorted_by : {X : Type 0} (lt : X → X → Bool) → IsStrictWeakOrder lt → (xs : List X) → IsSortedBy lt xs → Sorted lt xs
sorted_by lt o [] h = tt
sorted_by lt o (x ∷ []) h = (tt, tt)
sorted_by {X = X} lt o (x ∷ y ∷ ys) h =
    let next : lt y x ≡ false = h 0 x (omega arith) (omega arith) in
    let rest : IsSortedBy lt (y ∷ ys) = λ k e low high. subst (λ j. lt (get_or (x ∷ y ∷ ys) j e) (get_or (y ∷ ys) k e) ≡ false) (more k) (h (suc k) e (omega arith) (omega (arith, high))) in
    let s : Sorted lt (y ∷ ys) = sorted_by lt o (y ∷ ys) rest in
    ((next, All-map ys (λ z g. o.chain z y x g next) s.0), s)
  where
    more : (k : ℕ) → suc k + 1 ≡ suc (k + 1)
    more k = omega arith

pub sorted_map : {X Y : Type 0} (before : Y → Y → Bool) (g : X → Y) (xs : List X) → Sorted (λ x y. before (g x) (g y)) xs → Sorted before (map g xs)
sorted_map before g [] s = tt
sorted_map {X = X} before g (x ∷ xs) s = (mapped xs s.0, sorted_map before g xs s.1)
  where
    mapped : (ys : List X) → AllByRecursion (λ y. before (g y) (g x) ≡ false) ys → NoneBefore before (g x) (map g ys)
    mapped [] h = tt
    mapped (y ∷ ys) h = (h.0, mapped ys h.1)
