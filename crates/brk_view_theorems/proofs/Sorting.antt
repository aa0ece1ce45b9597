-- A list that is sorted in one order and then in another, also after a selection.
use Rattle.std.proofs.Common.{◌≡◌, List, [], ◌∷◌, ◌++◌, Bool, true, false, not, cond, refl, sym, subst, ap, ◌∙◌, map, filter}
use Rattle.std.specs.Prelude.{⊤, flat_map}
use Rattle.std.specs.List.{AllByRecursion}
use Rattle.brk_model.specs.Keys.{KeyPart, rows_sorted_by_key, is_row_key_less}
use Rattle.brk_model.specs.Lists.{insert_by, sort_by}
use Rattle.brk_trade_books.proofs.Order.{All-insert, Splits, by_key-filter, insert_commute}

-- some elements put in their order among others
abbrev pub put_all : {X : Type 0} → (X → X → Bool) → List X → List X → List X
put_all before [] zs = zs
put_all before (x ∷ xs) zs = insert_by before x (put_all before xs zs)

sorted_all : {X : Type 0} (before : X → X → Bool) (xs : List X) → sort_by before xs ≡ put_all before xs []
unfolding sort_by
sorted_all before [] = refl
sorted_all before (x ∷ xs) = ap (insert_by before x) (sorted_all before xs)

-- of any two one goes before the other, and the other not before the one
abbrev pub AllApart : {X : Type 0} → (X → X → Bool) → List X → Type 0
AllApart before [] = ⊤
AllApart before (x ∷ xs) = AllByRecursion (λ y. before x y ≡ not (before y x)) xs × AllApart before xs

-- an element put into some in another order, and these put among others, is put among them last
put_twice : {X : Type 0} (before other : X → X → Bool) (x : X) (ys zs : List X) → Splits before → AllByRecursion (λ y. before x y ≡ not (before y x)) ys
    → put_all before (insert_by other x ys) zs ≡ insert_by before x (put_all before ys zs)
put_twice before other x [] zs s h = refl
put_twice before other x (y ∷ ys) zs s h = by_test (put_twice before other x ys zs s h.1) (other y x) refl
  where
    turned : (a b : Bool) → a ≡ not b → b ≡ not a
    turned true false e = refl
    turned false true e = refl
    turned true true e = cc
    turned false false e = cc

    by_test : put_all before (insert_by other x ys) zs ≡ insert_by before x (put_all before ys zs) → (b : Bool) → other y x ≡ b
        → put_all before (cond b (y ∷ insert_by other x ys) (x ∷ y ∷ ys)) zs ≡ insert_by before x (insert_by before y (put_all before ys zs))
    by_test ih true e = ap (insert_by before y) ih ∙ insert_commute before x y (put_all before ys zs) s (turned (before x y) (before y x) h.0)
    by_test ih false e = refl

pub All-sort : {X : Type 0} (P : X → Type 0) (before : X → X → Bool) (xs : List X) → AllByRecursion P xs → AllByRecursion P (sort_by before xs)
unfolding sort_by
All-sort P before [] h = tt
All-sort P before (x ∷ xs) h = All-insert P before x (sort_by before xs) h.0 (All-sort P before xs h.1)

-- rows in any order are put among others as before
pub put_sorted : {X : Type 0} (before other : X → X → Bool) (xs zs : List X) → Splits before → AllApart before xs → put_all before (sort_by other xs) zs ≡ put_all before xs zs
unfolding sort_by
put_sorted before other [] zs s h = refl
put_sorted before other (x ∷ xs) zs s h =
    put_twice before other x (sort_by other xs) zs s (All-sort (λ y. before x y ≡ not (before y x)) other xs h.0) ∙ ap (insert_by before x) (put_sorted before other xs zs s h.1)

-- and stand in this order as before
pub sort_twice : {X : Type 0} (before other : X → X → Bool) (xs : List X) → Splits before → AllApart before xs → sort_by before (sort_by other xs) ≡ sort_by before xs
sort_twice before other xs s h = sorted_all before (sort_by other xs) ∙ put_sorted before other xs [] s h ∙ sym (sorted_all before xs)

sort_append : {X : Type 0} (before : X → X → Bool) (xs ys : List X) → sort_by before (xs ++ ys) ≡ put_all before xs (sort_by before ys)
unfolding sort_by
sort_append before [] ys = refl
sort_append before (x ∷ xs) ys = ap (insert_by before x) (sort_append before xs ys)

-- likewise rows of which each brings some
pub sort_pieces : {X Y : Type 0} (before other : Y → Y → Bool) (f g : X → List Y) (rows : List X) → Splits before → ((x : X) → f x ≡ sort_by other (g x))
    → AllByRecursion (λ x. AllApart before (g x)) rows → sort_by before (flat_map f rows) ≡ sort_by before (flat_map g rows)
sort_pieces before other f g [] s e h = refl
sort_pieces before other f g (x ∷ rows) s e h =
    sort_append before (f x) (flat_map f rows) ∙ (λ i. put_all before (e x i) (sort_pieces before other f g rows s e h.1 i))
    ∙ put_sorted before other (g x) (sort_by before (flat_map g rows)) s h.0 ∙ sym (sort_append before (g x) (flat_map g rows))

-- those that pass a test, in this order, whatever order all stood in
pub sort_chosen : {X : Type 0} (before : X → X → Bool) (key : X → List KeyPart) (p : X → Bool) (xs : List X) → Splits before → AllApart before (filter p xs)
    → sort_by before (filter p (rows_sorted_by_key key xs)) ≡ sort_by before (filter p xs)
sort_chosen before key p xs s h = ap (sort_by before) (sym (by_key-filter key p xs)) ∙ sort_twice before (is_row_key_less key) (filter p xs) s h

-- ---- what holds of sorted rows holds of them as they stood

All-inserted : {X : Type 0} (P : X → Type 0) (before : X → X → Bool) (x : X) (ys : List X) → AllByRecursion P (insert_by before x ys) → P x × AllByRecursion P ys
All-inserted P before x [] h = (h.0, tt)
All-inserted P before x (y ∷ ys) h = by_test (All-inserted P before x ys) (before y x) h
  where
    by_test : (AllByRecursion P (insert_by before x ys) → P x × AllByRecursion P ys) → (b : Bool) → AllByRecursion P (cond b (y ∷ insert_by before x ys) (x ∷ y ∷ ys)) → P x × AllByRecursion P (y ∷ ys)
    by_test ih true h = let k = ih h.1 in (k.0, (h.0, k.1))
    by_test ih false h = (h.0, h.1)

All-unsorted : {X : Type 0} (P : X → Type 0) (before : X → X → Bool) (xs : List X) → AllByRecursion P (sort_by before xs) → AllByRecursion P xs
unfolding sort_by
All-unsorted P before [] h = tt
All-unsorted P before (x ∷ xs) h = let k = All-inserted P before x (sort_by before xs) h in (k.0, All-unsorted P before xs k.1)

apart_inserted : {X : Type 0} (before other : X → X → Bool) (x : X) (ys : List X) → AllApart before (insert_by other x ys)
    → AllByRecursion (λ y. before x y ≡ not (before y x)) ys × AllApart before ys
apart_inserted before other x [] h = (tt, tt)
apart_inserted before other x (y ∷ ys) h = by_test (apart_inserted before other x ys) (other y x) h
  where
    turned : (a b : Bool) → a ≡ not b → b ≡ not a
    turned true false e = refl
    turned false true e = refl
    turned true true e = cc
    turned false false e = cc

    by_test : (AllApart before (insert_by other x ys) → AllByRecursion (λ y. before x y ≡ not (before y x)) ys × AllApart before ys) → (b : Bool)
        → AllApart before (cond b (y ∷ insert_by other x ys) (x ∷ y ∷ ys)) → AllByRecursion (λ z. before x z ≡ not (before z x)) (y ∷ ys) × AllApart before (y ∷ ys)
    by_test ih true h =
        let k = ih h.1 in
        let j = All-inserted (λ z. before y z ≡ not (before z y)) other x ys h.0 in
        ((turned (before y x) (before x y) j.0, k.0), (j.1, k.1))
    by_test ih false h = (h.0, h.1)

apart_unsorted : {X : Type 0} (before other : X → X → Bool) (xs : List X) → AllApart before (sort_by other xs) → AllApart before xs
unfolding sort_by
apart_unsorted before other [] h = tt
apart_unsorted before other (x ∷ xs) h =
    let k = apart_inserted before other x (sort_by other xs) h in (All-unsorted (λ y. before x y ≡ not (before y x)) other xs k.0, apart_unsorted before other xs k.1)

-- those that pass a test, in this order, where they are apart as they stand by their keys
pub sort_back : {X : Type 0} (before : X → X → Bool) (key : X → List KeyPart) (p : X → Bool) (xs : List X) → Splits before → AllApart before (filter p (rows_sorted_by_key key xs))
    → sort_by before (filter p (rows_sorted_by_key key xs)) ≡ sort_by before (filter p xs)
sort_back before key p xs s h =
    let sorted : rows_sorted_by_key key (filter p xs) ≡ filter p (rows_sorted_by_key key xs) = by_key-filter key p xs in
    sort_chosen before key p xs s (apart_unsorted before (is_row_key_less key) (filter p xs) (subst (AllApart before) (sym sorted) h))

-- ---- elements apart

pub apart_filter : {X : Type 0} (before : X → X → Bool) (p : X → Bool) (xs : List X) → AllApart before xs → AllApart before (filter p xs)
apart_filter before p [] h = tt
apart_filter before p (x ∷ xs) h =
    elim (p x) as (λ b. AllApart before (cond b (x ∷ filter p xs) (filter p xs)))
    [ true ↦ (All-filter (λ y. before x y ≡ not (before y x)) xs h.0, apart_filter before p xs h.1) | false ↦ apart_filter before p xs h.1 ]
  where
    All-filter : (P : _ → Type 0) (ys : List _) → AllByRecursion P ys → AllByRecursion P (filter p ys)
    All-filter P [] k = tt
    All-filter P (y ∷ ys) k = elim (p y) as (λ b. AllByRecursion P (cond b (y ∷ filter p ys) (filter p ys))) [ true ↦ (k.0, All-filter P ys k.1) | false ↦ All-filter P ys k.1 ]

-- ---- the same test, the same rows

pub same_rows : {X : Type 0} (p q : X → Bool) (xs : List X) → ((x : X) → p x ≡ q x) → filter p xs ≡ filter q xs
same_rows p q xs h i = filter (λ x. h x i) xs

pub same_order : {X : Type 0} (before other : X → X → Bool) (xs : List X) → ((x y : X) → before x y ≡ other x y) → sort_by before xs ≡ sort_by other xs
same_order before other xs h i = sort_by (λ x y. h x y i) xs

pub same_map : {X Y : Type 0} (f g : X → Y) (xs : List X) → ((x : X) → f x ≡ g x) → map f xs ≡ map g xs
same_map f g xs h i = map (λ x. h x i) xs
