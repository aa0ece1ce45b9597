-- Rows that are read value by value, and then sorted, equal the sorted rows that have one of the
-- values.
use Rattle.std.proofs.Common.{◌≡◌, List, [], ◌∷◌, ◌++◌, Bool, true, false, not, cond, refl, sym, ap, ◌∙◌, filter}
use Rattle.std.specs.Prelude.{⊤, ◌&&◌, ◌||◌, flat_map}
use Rattle.std.specs.List.{AllByRecursion, list_any}
use Rattle.brk_model.specs.Lists.{insert_by, sort_by}
use Rattle.brk_trade_books.proofs.Order.{Splits, insert_commute}
use Rattle.brk_trade_books.proofs.LotReading.{filter-both, filter-swap}
use Rattle.brk_view_theorems.proofs.Sorting.{AllApart, apart_filter, put_all}
use Rattle.brk_view_theorems.proofs.Trades.{All-filter}

-- some rows put among others, and among them one that is apart from each of these
put_past : {X : Type 0} (before : X → X → Bool) (x : X) (ys zs : List X) → Splits before → AllByRecursion (λ y. before x y ≡ not (before y x)) ys
    → put_all before ys (insert_by before x zs) ≡ insert_by before x (put_all before ys zs)
put_past before x [] zs s h = refl
put_past before x (y ∷ ys) zs s h =
    ap (insert_by before y) (put_past before x ys zs s h.1) ∙ insert_commute before x y (put_all before ys zs) s (turned (before x y) (before y x) h.0)
  where
    turned : (a b : Bool) → a ≡ not b → b ≡ not a
    turned true false e = refl
    turned false true e = refl
    turned true true e = cc
    turned false false e = cc

-- the rows of one kind put among the sorted rows of another
put_parts : {X : Type 0} (before : X → X → Bool) (p q : X → Bool) (xs : List X) → Splits before → AllApart before xs → ((x : X) → p x ≡ true → q x ≡ false)
    → put_all before (filter p xs) (sort_by before (filter q xs)) ≡ sort_by before (filter (λ x. p x || q x) xs)
unfolding sort_by
put_parts before p q [] s a h = refl
put_parts before p q (x ∷ xs) s a h = by_tests (put_parts before p q xs s a.1 h) (p x) (q x) refl refl
  where
    by_tests : put_all before (filter p xs) (sort_by before (filter q xs)) ≡ sort_by before (filter (λ y. p y || q y) xs) → (b c : Bool) → p x ≡ b → q x ≡ c
        → put_all before (cond b (x ∷ filter p xs) (filter p xs)) (sort_by before (cond c (x ∷ filter q xs) (filter q xs)))
        ≡ sort_by before (cond (b || c) (x ∷ filter (λ y. p y || q y) xs) (filter (λ y. p y || q y) xs))
    by_tests ih true true e f = absurd (let g : true ≡ false = sym f ∙ h x e in cc)
    by_tests ih true false e f = ap (insert_by before x) ih
    by_tests ih false true e f =
        put_past before x (filter p xs) (sort_by before (filter q xs)) s (All-filter (λ y. before x y ≡ not (before y x)) p xs a.0) ∙ ap (insert_by before x) ih
    by_tests ih false false e f = ih

-- a row that has one value has none of those after it
abbrev pub Excludes : {X K : Type 0} → (K → X → Bool) → List K → Type 0
Excludes has [] = ⊤
Excludes {X = X} has (k ∷ ks) = ((x : X) → has k x ≡ true → list_any (λ j. has j x) ks ≡ false) × Excludes has ks

pub none_pass : {X : Type 0} (xs : List X) → filter (λ x. false) xs ≡ []
none_pass [] = refl
none_pass (x ∷ xs) = none_pass xs

sort_append : {X : Type 0} (before : X → X → Bool) (xs ys : List X) → sort_by before (xs ++ ys) ≡ put_all before xs (sort_by before ys)
unfolding sort_by
sort_append before [] ys = refl
sort_append before (x ∷ xs) ys = ap (insert_by before x) (sort_append before xs ys)

pub sort_gathered : {X K : Type 0} (before : X → X → Bool) (has : K → X → Bool) (ks : List K) (xs : List X) → Splits before → AllApart before xs → Excludes has ks
    → sort_by before (flat_map (λ k. filter (has k) xs) ks) ≡ sort_by before (filter (λ x. list_any (λ k. has k x) ks) xs)
sort_gathered before has [] xs s a e = ap (sort_by before) (sym (none_pass xs))
sort_gathered before has (k ∷ ks) xs s a e =
    sort_append before (filter (has k) xs) (flat_map (λ j. filter (has j) xs) ks)
    ∙ ap (put_all before (filter (has k) xs)) (sort_gathered before has ks xs s a e.1)
    ∙ put_parts before (has k) (λ x. list_any (λ j. has j x) ks) xs s a e.0

pub same_pieces : {X K : Type 0} (f g : K → List X) (ks : List K) → ((k : K) → f k ≡ g k) → flat_map f ks ≡ flat_map g ks
same_pieces f g ks h i = flat_map (λ k. h k i) ks

-- likewise those of them that pass a further test
pub sort_gathered_of : {X K : Type 0} (before : X → X → Bool) (has : K → X → Bool) (p : X → Bool) (ks : List K) (xs : List X) → Splits before → AllApart before xs → Excludes has ks
    → sort_by before (flat_map (λ k. filter p (filter (has k) xs)) ks) ≡ sort_by before (filter (λ x. list_any (λ k. has k x) ks && p x) xs)
sort_gathered_of before has p ks xs s a e =
    ap (sort_by before) (same_pieces (λ k. filter p (filter (has k) xs)) (λ k. filter (has k) (filter p xs)) ks (λ k. filter-swap p (has k) xs))
    ∙ sort_gathered before has ks (filter p xs) s (apart_filter before p xs a) e
    ∙ ap (sort_by before) (filter-swap (λ x. list_any (λ k. has k x) ks) p xs ∙ sym (filter-both (λ x. list_any (λ k. has k x) ks) p xs))
