-- Rows sorted by key, which is a total order: insertions, changes and deletions.
use Rattle.std.proofs.Common.{◌≡◌, Bool, true, false, not, cond, List, [], ◌∷◌, ◌++◌, refl, sym, ◌∙◌, ap, map, filter, arith}
use Rattle.std.specs.Prelude.{⊤, ◌&&◌, ◌||◌, nat_lt}
use Rattle.std.specs.List.{AllByRecursion}
use Rattle.std.proofs.lemmas.Bool.Decides.{nat_tests}
use Rattle.brk_model.specs.Lists.{insert_by, sort_by, is_text_less}
use Rattle.brk_model.specs.Keys.{KeyPart, number, word, is_key_part_less, is_key_less, is_row_key_less, rows_sorted_by_key}

-- what is before x is before y, or y is before x
abbrev pub Splits : {X : Type 0} → (X → X → Bool) → Type 0
Splits {X = X} before = (x y z : X) → before z x ≡ true → before z y ≡ false → before y x ≡ true

abbrev pub OneWay : {X : Type 0} → (X → X → Bool) → Type 0
OneWay {X = X} before = (x y : X) → before x y ≡ true → before y x ≡ false

abbrev pub Total : {X : Type 0} → (X → X → Bool) → Type 0
Total {X = X} before = (x y : X) → before x y ≡ false → before y x ≡ false → x ≡ y

-- ---- numbers first, then the rest

pub nat_splits : Splits nat_lt
nat_splits x y z g h = grind (arith, nat_tests)

pub nat_one_way : OneWay nat_lt
nat_one_way x y g = grind (arith, nat_tests)

nat_total : Total nat_lt
nat_total x y g h = grind (arith, nat_tests)

-- what first decides of three, each way, and then the rest
rest_splits : (ca cb ac ab ba bc p q r : Bool)
    → (ca ≡ true → cb ≡ false → ba ≡ true) → (ab ≡ true → ac ≡ false → cb ≡ true) → (bc ≡ true → ba ≡ false → ac ≡ true)
    → (p ≡ true → q ≡ false → r ≡ true)
    → ca || (not ac && p) ≡ true → cb || (not bc && q) ≡ false → ba || (not ab && r) ≡ true
rest_splits ca cb ac ab ba bc p q r f g h k u v = grind (arith, nat_tests)

rest_one_way : (ab ba p q : Bool) → (ab ≡ true → ba ≡ false) → (p ≡ true → q ≡ false) → ab || (not ba && p) ≡ true → ba || (not ab && q) ≡ false
rest_one_way true true p q f g h = absurd (cc (f refl))
rest_one_way true false p q f g h = refl
rest_one_way false true p q f g h = cc
rest_one_way false false p q f g h = g h

rest_total : (ab ba p q : Bool) → ab || (not ba && p) ≡ false → ba || (not ab && q) ≡ false → (ab ≡ false) × (ba ≡ false) × (p ≡ false) × (q ≡ false)
rest_total true ba p q g h = cc
rest_total false true p q g h = cc
rest_total false false p q g h = (refl, refl, g, h)

text_splits : Splits is_text_less
text_splits [] y [] g h = cc
text_splits [] y (c ∷ z) g h = cc
text_splits (a ∷ x) [] z g h = refl
text_splits (a ∷ x) (b ∷ y) [] g h = cc
text_splits (a ∷ x) (b ∷ y) (c ∷ z) g h =
    rest_splits (nat_lt c a) (nat_lt c b) (nat_lt a c) (nat_lt a b) (nat_lt b a) (nat_lt b c)
    (is_text_less z x) (is_text_less z y) (is_text_less y x)
    (nat_splits a b c) (nat_splits b c a) (λ u v. nat_splits c a b u v) (text_splits x y z) g h

text_one_way : OneWay is_text_less
text_one_way [] [] g = cc
text_one_way [] (b ∷ y) g = refl
text_one_way (a ∷ x) [] g = cc
text_one_way (a ∷ x) (b ∷ y) g =
    rest_one_way (nat_lt a b) (nat_lt b a) (is_text_less x y) (is_text_less y x) (nat_one_way a b) (text_one_way x y) g

text_total : Total is_text_less
text_total [] [] g h = refl
text_total [] (b ∷ y) g h = cc
text_total (a ∷ x) [] g h = cc
text_total (a ∷ x) (b ∷ y) g h =
    let k : (nat_lt a b ≡ false) × (nat_lt b a ≡ false) × (is_text_less x y ≡ false) × (is_text_less y x ≡ false) =
    rest_total (nat_lt a b) (nat_lt b a) (is_text_less x y) (is_text_less y x) g h in
    let d : a ≡ b = nat_total a b k.0 k.1 in
    let e : x ≡ y = text_total x y k.2 k.3 in
    cc

part_splits : Splits is_key_part_less
part_splits (number a) (number b) (number c) g h = nat_splits a b c g h
part_splits (number a) (number b) (word c) g h = cc
part_splits (number a) (word b) (number c) g h = cc
part_splits (number a) (word b) (word c) g h = cc
part_splits (word a) (number b) (number c) g h = refl
part_splits (word a) (number b) (word c) g h = refl
part_splits (word a) (word b) (number c) g h = cc
part_splits (word a) (word b) (word c) g h = text_splits a b c g h

part_one_way : OneWay is_key_part_less
part_one_way (number a) (number b) g = nat_one_way a b g
part_one_way (number a) (word b) g = refl
part_one_way (word a) (number b) g = cc
part_one_way (word a) (word b) g = text_one_way a b g

part_total : Total is_key_part_less
part_total (number a) (number b) g h = ap number (nat_total a b g h)
part_total (number a) (word b) g h = cc
part_total (word a) (number b) g h = cc
part_total (word a) (word b) g h = ap word (text_total a b g h)

pub key_splits : Splits is_key_less
key_splits [] y [] g h = cc
key_splits [] y (c ∷ z) g h = cc
key_splits (a ∷ x) [] z g h = refl
key_splits (a ∷ x) (b ∷ y) [] g h = cc
key_splits (a ∷ x) (b ∷ y) (c ∷ z) g h =
    rest_splits (is_key_part_less c a) (is_key_part_less c b) (is_key_part_less a c) (is_key_part_less a b) (is_key_part_less b a) (is_key_part_less b c)
    (is_key_less z x) (is_key_less z y) (is_key_less y x)
    (part_splits a b c) (part_splits b c a) (λ u v. part_splits c a b u v) (key_splits x y z) g h

pub key_one_way : OneWay is_key_less
key_one_way [] [] g = cc
key_one_way [] (b ∷ y) g = refl
key_one_way (a ∷ x) [] g = cc
key_one_way (a ∷ x) (b ∷ y) g =
    rest_one_way (is_key_part_less a b) (is_key_part_less b a) (is_key_less x y) (is_key_less y x) (part_one_way a b) (key_one_way x y) g

pub key_total : Total is_key_less
key_total [] [] g h = refl
key_total [] (b ∷ y) g h = cc
key_total (a ∷ x) [] g h = cc
key_total (a ∷ x) (b ∷ y) g h =
    let k : (is_key_part_less a b ≡ false) × (is_key_part_less b a ≡ false) × (is_key_less x y ≡ false) × (is_key_less y x ≡ false) =
    rest_total (is_key_part_less a b) (is_key_part_less b a) (is_key_less x y) (is_key_less y x) g h in
    let d : a ≡ b = part_total a b k.0 k.1 in
    let e : x ≡ y = key_total x y k.2 k.3 in
    cc

-- ---- rows put in

-- a key that none of these rows has
abbrev pub NewKey : {Row : Type 0} → (Row → List KeyPart) → Row → List Row → Type 0
NewKey key x ys = AllByRecursion (λ y. key y ≡ key x → ⊥) ys

-- of two different keys one is first
first_of_two : (j k : List KeyPart) → (j ≡ k → ⊥) → (b c : Bool) → is_key_less j k ≡ b → is_key_less k j ≡ c → b ≡ not c
first_of_two j k h true true g i = absurd (cc (key_one_way j k g))
first_of_two j k h true false g i = refl
first_of_two j k h false true g i = refl
first_of_two j k h false false g i = absurd (h (key_total j k g i))

insert_past : {X : Type 0} (before : X → X → Bool) (x y : X) (ys : List X) → before y x ≡ true → insert_by before x (y ∷ ys) ≡ y ∷ insert_by before x ys
insert_past before x y ys e = rw e refl

insert_here : {X : Type 0} (before : X → X → Bool) (x y : X) (ys : List X) → before y x ≡ false → insert_by before x (y ∷ ys) ≡ x ∷ y ∷ ys
insert_here before x y ys e = rw e refl

-- two elements put in, where both, one or none of them goes past z
both_past : {X : Type 0} (before : X → X → Bool) (x y z : X) (zs : List X) → before z x ≡ true → before z y ≡ true
    → insert_by before y (insert_by before x zs) ≡ insert_by before x (insert_by before y zs)
    → insert_by before y (insert_by before x (z ∷ zs)) ≡ insert_by before x (insert_by before y (z ∷ zs))
both_past before x y z zs e f ih =
    ap (insert_by before y) (insert_past before x z zs e) ∙ insert_past before y z (insert_by before x zs) f ∙ ap (λ ws. z ∷ ws) ih
    ∙ sym (insert_past before x z (insert_by before y zs) e) ∙ sym (ap (insert_by before x) (insert_past before y z zs f))

one_past : {X : Type 0} (before : X → X → Bool) (x y z : X) (zs : List X) → before z x ≡ true → before z y ≡ false → before y x ≡ true
    → insert_by before y (insert_by before x (z ∷ zs)) ≡ insert_by before x (insert_by before y (z ∷ zs))
one_past before x y z zs e f g =
    ap (insert_by before y) (insert_past before x z zs e) ∙ insert_here before y z (insert_by before x zs) f
    ∙ sym (ap (insert_by before x) (insert_here before y z zs f) ∙ insert_past before x y (z ∷ zs) g ∙ ap (λ ws. y ∷ ws) (insert_past before x z zs e))

none_past : {X : Type 0} (before : X → X → Bool) (x y z : X) (zs : List X) → before z x ≡ false → before z y ≡ false → before y x ≡ true → before x y ≡ false
    → insert_by before y (insert_by before x (z ∷ zs)) ≡ insert_by before x (insert_by before y (z ∷ zs))
none_past before x y z zs e f g i =
    ap (insert_by before y) (insert_here before x z zs e) ∙ insert_here before y x (z ∷ zs) i
    ∙ sym (ap (insert_by before x) (insert_here before y z zs f) ∙ insert_past before x y (z ∷ zs) g ∙ ap (λ ws. y ∷ ws) (insert_here before x z zs e))

empty_past : {X : Type 0} (before : X → X → Bool) (x y : X) → before y x ≡ true → before x y ≡ false
    → insert_by before y (insert_by before x []) ≡ insert_by before x (insert_by before y [])
empty_past before x y g i = insert_here before y x [] i ∙ sym (insert_past before x y [] g)

commute_by : {X : Type 0} (before : X → X → Bool) (x y z : X) (zs : List X) → Splits before
    → insert_by before y (insert_by before x zs) ≡ insert_by before x (insert_by before y zs)
    → (zx zy yx xy : Bool) → before z x ≡ zx → before z y ≡ zy → before y x ≡ yx → before x y ≡ xy → yx ≡ not xy
    → insert_by before y (insert_by before x (z ∷ zs)) ≡ insert_by before x (insert_by before y (z ∷ zs))
commute_by before x y z zs s ih true true yx xy e f g i n = both_past before x y z zs e f ih
commute_by before x y z zs s ih true false yx xy e f g i n = one_past before x y z zs e f (s x y z e f)
commute_by before x y z zs s ih false true yx xy e f g i n = sym (one_past before y x z zs f e (s y x z f e))
commute_by before x y z zs s ih false false true false e f g i n = none_past before x y z zs e f g i
commute_by before x y z zs s ih false false false true e f g i n = sym (none_past before y x z zs f e i g)
commute_by before x y z zs s ih false false true true e f g i n = cc
commute_by before x y z zs s ih false false false false e f g i n = cc

commute_empty : {X : Type 0} (before : X → X → Bool) (x y : X) (yx xy : Bool) → before y x ≡ yx → before x y ≡ xy → yx ≡ not xy
    → insert_by before y (insert_by before x []) ≡ insert_by before x (insert_by before y [])
commute_empty before x y true false g i n = empty_past before x y g i
commute_empty before x y false true g i n = sym (empty_past before y x i g)
commute_empty before x y true true g i n = cc
commute_empty before x y false false g i n = cc

-- two elements of which one is first can be put in either way round
pub insert_commute : {X : Type 0} (before : X → X → Bool) (x y : X) (zs : List X) → Splits before → before y x ≡ not (before x y)
    → insert_by before y (insert_by before x zs) ≡ insert_by before x (insert_by before y zs)
insert_commute before x y [] s n = commute_empty before x y (before y x) (before x y) refl refl n
insert_commute before x y (z ∷ zs) s n =
    commute_by before x y z zs s (insert_commute before x y zs s n) (before z x) (before z y) (before y x) (before x y) refl refl refl refl n

-- a row whose key is new stands in the sorted rows as it is put into the sorted others
pub by_key-middle : {Row : Type 0} (key : Row → List KeyPart) (xs : List Row) (x : Row) (ys : List Row) → NewKey key x xs
    → rows_sorted_by_key key (xs ++ x ∷ ys) ≡ insert_by (is_row_key_less key) x (rows_sorted_by_key key (xs ++ ys))
unfolding sort_by
by_key-middle key [] x ys h = refl
by_key-middle key (y ∷ xs) x ys h =
    ap (insert_by (is_row_key_less key) y) (by_key-middle key xs x ys h.1)
    ∙ insert_commute (is_row_key_less key) x y (rows_sorted_by_key key (xs ++ ys)) (λ a b c. key_splits (key a) (key b) (key c))
    (first_of_two (key y) (key x) h.0 (is_key_less (key y) (key x)) (is_key_less (key x) (key y)) refl refl)

-- two rows of different keys can be put in either way round
pub rows_commute : {Row : Type 0} (key : Row → List KeyPart) (x y : Row) (rows : List Row) → (key x ≡ key y → ⊥)
    → insert_by (is_row_key_less key) x (insert_by (is_row_key_less key) y rows) ≡ insert_by (is_row_key_less key) y (insert_by (is_row_key_less key) x rows)
rows_commute key x y rows h =
    insert_commute (is_row_key_less key) y x rows (λ a b c. key_splits (key a) (key b) (key c))
    (first_of_two (key x) (key y) h (is_key_less (key x) (key y)) (is_key_less (key y) (key x)) refl refl)

pub append_nil : {X : Type 0} (xs : List X) → xs ++ [] ≡ xs
append_nil [] = refl
append_nil (x ∷ xs) = ap (λ ys. x ∷ ys) (append_nil xs)

pub by_key-append : {Row : Type 0} (key : Row → List KeyPart) (xs : List Row) (x : Row) → NewKey key x xs
    → rows_sorted_by_key key (xs ++ x ∷ []) ≡ insert_by (is_row_key_less key) x (rows_sorted_by_key key xs)
by_key-append key xs x h = by_key-middle key xs x [] h ∙ ap (λ ys. insert_by (is_row_key_less key) x (rows_sorted_by_key key ys)) (append_nil xs)

-- ---- rows changed, and rows left out

-- a change that leaves the key leaves where a row stands
pub map-insert_by : {X Y : Type 0} (before : X → X → Bool) (before' : Y → Y → Bool) (f : X → Y) (x : X) (ys : List X)
    → ((a b : X) → before' (f a) (f b) ≡ before a b) → map f (insert_by before x ys) ≡ insert_by before' (f x) (map f ys)
map-insert_by before before' f x [] h = refl
map-insert_by before before' f x (y ∷ ys) h =
    rw (h y x) (elim (before y x) as (λ b. map f (cond b (y ∷ insert_by before x ys) (x ∷ y ∷ ys)) ≡ cond b (f y ∷ insert_by before' (f x) (map f ys)) (f x ∷ f y ∷ map f ys))
    [ true ↦ ap (λ zs. f y ∷ zs) (map-insert_by before before' f x ys h) | false ↦ refl ])

pub by_key-map : {X Y : Type 0} (key : X → List KeyPart) (key' : Y → List KeyPart) (f : X → Y) (xs : List X)
    → ((x : X) → key' (f x) ≡ key x) → rows_sorted_by_key key' (map f xs) ≡ map f (rows_sorted_by_key key xs)
unfolding sort_by
by_key-map key key' f [] h = refl
by_key-map key key' f (x ∷ xs) h =
    ap (insert_by (is_row_key_less key') (f x)) (by_key-map key key' f xs h)
    ∙ sym (map-insert_by (is_row_key_less key) (is_row_key_less key') f x (rows_sorted_by_key key xs) (λ a b. ap (λ k. is_key_less k (key' (f b))) (h a) ∙ ap (is_key_less (key a)) (h b)))

-- each goes no later than those after it
abbrev pub NoneBefore : {X : Type 0} → (X → X → Bool) → X → List X → Type 0
NoneBefore before x ys = AllByRecursion (λ y. before y x ≡ false) ys

abbrev pub Sorted : {X : Type 0} → (X → X → Bool) → List X → Type 0
Sorted before [] = ⊤
Sorted before (x ∷ xs) = NoneBefore before x xs × Sorted before xs

none_through : {X : Type 0} (before : X → X → Bool) (x y : X) (ws : List X) → Splits before → before y x ≡ false → NoneBefore before y ws → NoneBefore before x ws
none_through before x y [] s e h = tt
none_through before x y (w ∷ ws) s e h = (not_before (before w x) refl, none_through before x y ws s e h.1)
  where
    not_before : (b : Bool) → before w x ≡ b → before w x ≡ false
    not_before false i = i
    not_before true i = absurd (cc (s x y w i h.0))

pub All-insert : {X : Type 0} (P : X → Type 0) (before : X → X → Bool) (x : X) (ys : List X) → P x → AllByRecursion P ys → AllByRecursion P (insert_by before x ys)
All-insert P before x [] p h = (p, tt)
All-insert P before x (y ∷ ys) p h =
    elim (before y x) as (λ b. AllByRecursion P (cond b (y ∷ insert_by before x ys) (x ∷ y ∷ ys)))
    [ true ↦ (h.0, All-insert P before x ys p h.1) | false ↦ (p, h) ]

sorted_insert : {X : Type 0} (before : X → X → Bool) (x : X) (ys : List X) → Splits before → OneWay before → Sorted before ys → Sorted before (insert_by before x ys)
sorted_insert before x [] s o h = (tt, tt)
sorted_insert before x (y ∷ ys) s o h = by_test (sorted_insert before x ys s o h.1) (before y x) refl
  where
    by_test : Sorted before (insert_by before x ys) → (b : Bool) → before y x ≡ b → Sorted before (insert_by before x (y ∷ ys))
    by_test ih true e = rw e (All-insert (λ w. before w y ≡ false) before x ys (o y x e) h.0, ih)
    by_test ih false e = rw e ((e, none_through before x y ys s e h.0), h)

pub sorted_sort : {X : Type 0} (before : X → X → Bool) (xs : List X) → Splits before → OneWay before → Sorted before (sort_by before xs)
unfolding sort_by
sorted_sort before [] s o = tt
sorted_sort before (x ∷ xs) s o = sorted_insert before x (sort_by before xs) s o (sorted_sort before xs s o)

All-filter : {X : Type 0} (P : X → Type 0) (p : X → Bool) (xs : List X) → AllByRecursion P xs → AllByRecursion P (filter p xs)
All-filter P p [] h = tt
All-filter P p (x ∷ xs) h =
    elim (p x) as (λ b. AllByRecursion P (cond b (x ∷ filter p xs) (filter p xs))) [ true ↦ (h.0, All-filter P p xs h.1) | false ↦ All-filter P p xs h.1 ]

pub insert_front : {X : Type 0} (before : X → X → Bool) (x : X) (ys : List X) → NoneBefore before x ys → insert_by before x ys ≡ x ∷ ys
insert_front before x [] h = refl
insert_front before x (y ∷ ys) h = insert_here before x y ys h.0

filter_insert : {X : Type 0} (before : X → X → Bool) (p : X → Bool) (x : X) (ys : List X) → Splits before → Sorted before ys
    → filter p (insert_by before x ys) ≡ cond (p x) (insert_by before x (filter p ys)) (filter p ys)
filter_insert before p x [] s h = refl
filter_insert before p x (y ∷ ys) s h = by_test (filter_insert before p x ys s h.1) (before y x) refl
  where
    past : filter p (insert_by before x ys) ≡ cond (p x) (insert_by before x (filter p ys)) (filter p ys) → (b c : Bool) → p x ≡ b → p y ≡ c → before y x ≡ true
        → filter p (y ∷ insert_by before x ys) ≡ cond (p x) (insert_by before x (filter p (y ∷ ys))) (filter p (y ∷ ys))
    past ih true true i j e = let k : filter p (insert_by before x ys) ≡ insert_by before x (filter p ys) = rw i at ih in
        rw (i, j) (ap (λ ws. y ∷ ws) k ∙ sym (insert_past before x y (filter p ys) e))
    past ih true false i j e = let k : filter p (insert_by before x ys) ≡ insert_by before x (filter p ys) = rw i at ih in rw (i, j) k
    past ih false true i j e = let k : filter p (insert_by before x ys) ≡ filter p ys = rw i at ih in rw (i, j) (ap (λ ws. y ∷ ws) k)
    past ih false false i j e = let k : filter p (insert_by before x ys) ≡ filter p ys = rw i at ih in rw (i, j) k

    here : (b : Bool) → p x ≡ b → before y x ≡ false → filter p (x ∷ y ∷ ys) ≡ cond (p x) (insert_by before x (filter p (y ∷ ys))) (filter p (y ∷ ys))
    here true i e =
        let n : NoneBefore before x (y ∷ ys) = (e, none_through before x y ys s e h.0) in
        let k : insert_by before x (filter p (y ∷ ys)) ≡ x ∷ filter p (y ∷ ys) =
        insert_front before x (filter p (y ∷ ys)) (All-filter (λ w. before w x ≡ false) p (y ∷ ys) n) in
        ap (λ b. cond b (x ∷ filter p (y ∷ ys)) (filter p (y ∷ ys))) i ∙ sym k ∙ sym (ap (λ b. cond b (insert_by before x (filter p (y ∷ ys))) (filter p (y ∷ ys))) i)
    here false i e = ap (λ b. cond b (x ∷ filter p (y ∷ ys)) (filter p (y ∷ ys))) i ∙ sym (ap (λ b. cond b (insert_by before x (filter p (y ∷ ys))) (filter p (y ∷ ys))) i)

    by_test : filter p (insert_by before x ys) ≡ cond (p x) (insert_by before x (filter p ys)) (filter p ys) → (b : Bool) → before y x ≡ b
        → filter p (insert_by before x (y ∷ ys)) ≡ cond (p x) (insert_by before x (filter p (y ∷ ys))) (filter p (y ∷ ys))
    by_test ih true e = ap (filter p) (insert_past before x y ys e) ∙ past ih (p x) (p y) refl refl e
    by_test ih false e = ap (filter p) (insert_here before x y ys e) ∙ here (p x) refl e

-- those that pass a test stand in order as they do among all
pub sort_filter : {X : Type 0} (before : X → X → Bool) (p : X → Bool) (xs : List X) → Splits before → OneWay before → sort_by before (filter p xs) ≡ filter p (sort_by before xs)
unfolding sort_by
sort_filter before p [] s o = refl
sort_filter before p (x ∷ xs) s o = put (sort_filter before p xs s o) (p x) refl ∙ sym (filter_insert before p x (sort_by before xs) s (sorted_sort before xs s o))
  where
    put : sort_by before (filter p xs) ≡ filter p (sort_by before xs) → (b : Bool) → p x ≡ b
        → sort_by before (filter p (x ∷ xs)) ≡ cond (p x) (insert_by before x (filter p (sort_by before xs))) (filter p (sort_by before xs))
    put ih true e = rw e (ap (insert_by before x) ih)
    put ih false e = rw e ih

pub by_key-filter : {Row : Type 0} (key : Row → List KeyPart) (p : Row → Bool) (xs : List Row) → rows_sorted_by_key key (filter p xs) ≡ filter p (rows_sorted_by_key key xs)
by_key-filter key p xs = sort_filter (is_row_key_less key) p xs (λ a b c. key_splits (key a) (key b) (key c)) (λ a b. key_one_way (key a) (key b))

-- what stands in order stays as it is
pub sort_sorted : {X : Type 0} (before : X → X → Bool) (xs : List X) → Sorted before xs → sort_by before xs ≡ xs
unfolding sort_by
sort_sorted before [] h = refl
sort_sorted before (x ∷ xs) h = ap (insert_by before x) (sort_sorted before xs h.1) ∙ insert_front before x xs h.0

pub sorted_filter : {X : Type 0} (before : X → X → Bool) (p : X → Bool) (xs : List X) → Sorted before xs → Sorted before (filter p xs)
sorted_filter before p [] h = tt
sorted_filter before p (x ∷ xs) h =
    elim (p x) as (λ b. Sorted before (cond b (x ∷ filter p xs) (filter p xs)))
    [ true ↦ (All-filter (λ y. before y x ≡ false) p xs h.0, sorted_filter before p xs h.1) | false ↦ sorted_filter before p xs h.1 ]
