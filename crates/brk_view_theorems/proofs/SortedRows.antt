-- Lists sorted by a number: sorted again, mapped, summed, and split at an element.
use Rattle.std.proofs.Common.{◌≡◌, ℕ, ◌==◌, Bool, true, false, not, cond, List, [], ◌∷◌, ◌++◌, Option, Some, None, refl, sym, ◌∙◌, ap, subst, map, filter, arith, ℤ, ◌+ℤ◌}
use Rattle.std.specs.Prelude.{⊤, find, nat_lt}
use Rattle.std.specs.List.{AllByRecursion}
use Rattle.std.proofs.lemmas.Bool.Decides.{nat_tests}
use Rattle.brk_model.specs.Lists.{insert_by, sort_by, total_by}
use Rattle.brk_trade_books.proofs.LotReading.{All-sort}
use Rattle.brk_trade_books.proofs.Order.{OneWay, Splits, insert_commute, map-insert_by, nat_one_way, nat_splits}
use Rattle.brk_trade_books.proofs.Same.{All-filter}
use Rattle.brk_trade_books.proofs.Worth.{total-insert}

-- ---- by a number

-- the order by a number
abbrev pub by : {X : Type 0} → (X → ℕ) → X → X → Bool
by m x y = nat_lt (m x) (m y)

pub by_splits : {X : Type 0} (m : X → ℕ) → Splits (by m)
by_splits m x y z g h = nat_splits (m x) (m y) (m z) g h

pub by_one_way : {X : Type 0} (m : X → ℕ) → OneWay (by m)
by_one_way m x y g = nat_one_way (m x) (m y) g

-- no two have one number
abbrev pub Apart : {X : Type 0} → (X → ℕ) → List X → Type 0
Apart m [] = ⊤
Apart m (x ∷ xs) = AllByRecursion (λ y. (m y == m x) ≡ false) xs × Apart m xs

pub apart_filter : {X : Type 0} (m : X → ℕ) (p : X → Bool) (xs : List X) → Apart m xs → Apart m (filter p xs)
apart_filter m p [] a = tt
apart_filter m p (x ∷ xs) a =
    elim (p x) as (λ b. Apart m (cond b (x ∷ filter p xs) (filter p xs)))
    [ true ↦ (All-filter (λ y. (m y == m x) ≡ false) p xs a.0, apart_filter m p xs a.1) | false ↦ apart_filter m p xs a.1 ]

apart_behind : {X Y : Type 0} (m : Y → ℕ) (f : X → Y) (x : X) (ys : List X) → AllByRecursion (λ y. (m (f y) == m (f x)) ≡ false) ys → AllByRecursion (λ y. (m y == m (f x)) ≡ false) (map f ys)
apart_behind m f x [] h = tt
apart_behind m f x (y ∷ ys) h = (h.0, apart_behind m f x ys h.1)

pub apart_map : {X Y : Type 0} (m : Y → ℕ) (f : X → Y) (xs : List X) → Apart (λ x. m (f x)) xs → Apart m (map f xs)
apart_map m f [] a = tt
apart_map m f (x ∷ xs) a = (apart_behind m f x xs a.0, apart_map m f xs a.1)

apart_beside : {X : Type 0} (m n : X → ℕ) (x : X) (ys : List X) → m x ≡ n x → AllByRecursion (λ y. m y ≡ n y) ys → AllByRecursion (λ y. (n y == n x) ≡ false) ys
    → AllByRecursion (λ y. (m y == m x) ≡ false) ys
apart_beside m n x [] e h a = tt
apart_beside m n x (y ∷ ys) e h a = ((λ i. h.0 i == e i) ∙ a.0, apart_beside m n x ys e h.1 a.1)

pub apart_same : {X : Type 0} (m n : X → ℕ) (xs : List X) → AllByRecursion (λ x. m x ≡ n x) xs → Apart n xs → Apart m xs
apart_same m n [] h a = tt
apart_same m n (x ∷ xs) h a = (apart_beside m n x xs h.0 h.1 a.0, apart_same m n xs h.1 a.1)

-- ---- sorted before

turned : (a b : ℕ) → (b == a) ≡ false → nat_lt b a ≡ not (nat_lt a b)
turned a b e = grind (arith, nat_tests)

put_again : {X : Type 0} (m : X → ℕ) (before : X → X → Bool) (x : X) (ys : List X) → AllByRecursion (λ y. (m y == m x) ≡ false) ys
    → sort_by (by m) (insert_by before x ys) ≡ insert_by (by m) x (sort_by (by m) ys)
unfolding sort_by
put_again m before x [] h = refl
put_again {X = X} m before x (y ∷ ys) h = by_test (put_again m before x ys h.1) (before y x)
  where
    by_test : sort_by (by m) (insert_by before x ys) ≡ insert_by (by m) x (sort_by (by m) ys) → (b : Bool)
        → sort_by (by m) (cond b (y ∷ insert_by before x ys) (x ∷ y ∷ ys)) ≡ insert_by (by m) x (insert_by (by m) y (sort_by (by m) ys))
    by_test ih true = ap (insert_by (by m) y) ih ∙ insert_commute (by m) x y (sort_by (by m) ys) (by_splits m) (turned (m x) (m y) h.0)
    by_test ih false = refl

pub sort_again : {X : Type 0} (m : X → ℕ) (before : X → X → Bool) (xs : List X) → Apart m xs → sort_by (by m) (sort_by before xs) ≡ sort_by (by m) xs
unfolding sort_by
sort_again m before [] a = refl
sort_again m before (x ∷ xs) a =
    put_again m before x (sort_by before xs) (All-sort (λ y. (m y == m x) ≡ false) before xs a.0) ∙ ap (insert_by (by m) x) (sort_again m before xs a.1)

-- ---- mapped, and by the same numbers

pub sort_map : {X Y : Type 0} (m : Y → ℕ) (f : X → Y) (xs : List X) → sort_by (by m) (map f xs) ≡ map f (sort_by (by (λ x. m (f x))) xs)
unfolding sort_by
sort_map m f [] = refl
sort_map m f (x ∷ xs) =
    ap (insert_by (by m) (f x)) (sort_map m f xs)
    ∙ sym (map-insert_by (by (λ x. m (f x))) (by m) f x (sort_by (by (λ x. m (f x))) xs) (λ a b. refl))

insert_same : {X : Type 0} (m n : X → ℕ) (x : X) (ys : List X) → m x ≡ n x → AllByRecursion (λ y. m y ≡ n y) ys → insert_by (by m) x ys ≡ insert_by (by n) x ys
insert_same m n x [] e h = refl
insert_same m n x (y ∷ ys) e h = λ i. cond (nat_lt (h.0 i) (e i)) (y ∷ insert_same m n x ys e h.1 i) (x ∷ y ∷ ys)

pub sort_same : {X : Type 0} (m n : X → ℕ) (xs : List X) → AllByRecursion (λ x. m x ≡ n x) xs → sort_by (by m) xs ≡ sort_by (by n) xs
unfolding sort_by
sort_same m n [] h = refl
sort_same m n (x ∷ xs) h =
    insert_same m n x (sort_by (by m) xs) h.0 (All-sort (λ y. m y ≡ n y) (by m) xs h.1) ∙ ap (insert_by (by n) x) (sort_same m n xs h.1)

-- ---- a sum goes by no order

pub total_sorted : {X : Type 0} (f : X → ℤ) (before : X → X → Bool) (xs : List X) → total_by f (sort_by before xs) ≡ total_by f xs
unfolding sort_by total_by
total_sorted f before [] = refl
total_sorted f before (x ∷ xs) = total-insert f before x (sort_by before xs) ∙ ap (λ z. f x +ℤ z) (total_sorted f before xs)

-- ---- the first that passes

abbrev pub first : {X : Type 0} → List X → Option X
first [] = None
first (x ∷ xs) = Some x

pub find_first : {X : Type 0} (p : X → Bool) (xs : List X) → find p xs ≡ first (filter p xs)
find_first p [] = refl
find_first {X = X} p (x ∷ xs) = by_test (p x) (find_first p xs)
  where
    by_test : (b : Bool) → find p xs ≡ first (filter p xs) → cond b (Some x) (find p xs) ≡ first (cond b (x ∷ filter p xs) (filter p xs))
    by_test true ih = refl
    by_test false ih = ih

-- ---- where an element stands

pub record Split (X : Type 0) (x : X) (xs : List X) : Type 0 where
  pub front : List X
  pub back : List X
  pub stands : xs ≡ front ++ x ∷ back

split_own : {X : Type 0} (before : X → X → Bool) (x : X) (ys : List X) → Split X x (insert_by before x ys)
split_own before x [] = record { front = []; back = []; stands = refl }
split_own {X = X} before x (y ∷ ys) = by_test (before y x) (split_own before x ys)
  where
    by_test : (b : Bool) → Split X x (insert_by before x ys) → Split X x (cond b (y ∷ insert_by before x ys) (x ∷ y ∷ ys))
    by_test true s = record { front = y ∷ s.front; back = s.back; stands = ap (λ zs. y ∷ zs) s.stands }
    by_test false s = record { front = []; back = y ∷ ys; stands = refl }

split_put : {X : Type 0} (before : X → X → Bool) (w x : X) (front back : List X) → Split X x (insert_by before w (front ++ x ∷ back))
split_put {X = X} before w x [] back = by_test (before x w)
  where
    by_test : (b : Bool) → Split X x (cond b (x ∷ insert_by before w back) (w ∷ x ∷ back))
    by_test true = record { front = []; back = insert_by before w back; stands = refl }
    by_test false = record { front = w ∷ []; back = back; stands = refl }
split_put {X = X} before w x (y ∷ front) back = by_test (before y w) (split_put before w x front back)
  where
    by_test : (b : Bool) → Split X x (insert_by before w (front ++ x ∷ back)) → Split X x (cond b (y ∷ insert_by before w (front ++ x ∷ back)) (w ∷ y ∷ front ++ x ∷ back))
    by_test true s = record { front = y ∷ s.front; back = s.back; stands = ap (λ zs. y ∷ zs) s.stands }
    by_test false s = record { front = w ∷ y ∷ front; back = back; stands = refl }

pub split_sort : {X : Type 0} (before : X → X → Bool) (x : X) (front back : List X) → Split X x (sort_by before (front ++ x ∷ back))
unfolding sort_by
split_sort before x [] back = split_own before x (sort_by before back)
split_sort {X = X} before x (w ∷ front) back =
    let s : Split X x (sort_by before (front ++ x ∷ back)) = split_sort before x front back in
    subst (λ zs. Split X x (insert_by before w zs)) (sym s.stands) (split_put before w x s.front s.back)
