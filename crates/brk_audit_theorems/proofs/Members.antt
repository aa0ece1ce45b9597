-- Elements of lists that are derived from others, and rows inserted one by one.
use Rattle.std.proofs.Common.{◌≡◌, Bool, true, false, cond, List, [], ◌∷◌, ◌++◌, refl, sym, ◌∙◌, ap, subst, map, filter, Some, inl, inr}
use Rattle.std.specs.Prelude.{find, is_some, flat_map}
use Rattle.std.specs.List.{AllByRecursion}
use Rattle.brk_model.specs.Lists.{sort_by}
use Rattle.brk_model.specs.Keys.{KeyPart, is_key_less, rows_sorted_by_key, insert_row_by_key}
use Rattle.brk_trade_books.proofs.Same.{All-append}
use Rattle.brk_trade_books.proofs.Each.{each}
use Rattle.brk_audit_theorems.proofs.Climbs.{Climbs, In, not_itself, of_all}

false_true : {A : Type 0} → false ≡ true → A
false_true e = absurd (cc)

-- ---- members

pub in_filter : {X : Type 0} (p : X → Bool) (xs : List X) (x : X) → In x xs → p x ≡ true → In x (filter p xs)
in_filter p [] x m e = absurd m
in_filter {X = X} p (y ∷ ys) x m e = by_place m (in_filter p ys x)
  where
    more : (b : Bool) → In x (filter p ys) → In x (cond b (y ∷ filter p ys) (filter p ys))
    more true n = inr n
    more false n = n

    by_place : In x (y ∷ ys) → (In x ys → p x ≡ true → In x (filter p ys)) → In x (cond (p y) (y ∷ filter p ys) (filter p ys))
    by_place (inl f) ih = let g : p y ≡ true = ap p (sym f) ∙ e in rw g (inl f)
    by_place (inr n) ih = more (p y) (ih n e)

in_front : {X : Type 0} (x : X) (xs ys : List X) → In x xs → In x (xs ++ ys)
in_front x [] ys m = absurd m
in_front x (z ∷ xs) ys (inl e) = inl e
in_front x (z ∷ xs) ys (inr m) = inr (in_front x xs ys m)

in_back : {X : Type 0} (x : X) (xs ys : List X) → In x ys → In x (xs ++ ys)
in_back x [] ys m = m
in_back x (z ∷ xs) ys m = inr (in_back x xs ys m)

pub in_flat_map : {X Y : Type 0} (f : X → List Y) (xs : List X) (x : X) (y : Y) → In x xs → In y (f x) → In y (flat_map f xs)
in_flat_map f [] x y m n = absurd m
in_flat_map f (z ∷ xs) x y (inl e) n = in_front y (f z) (flat_map f xs) (subst (λ u. In y (f u)) e n)
in_flat_map f (z ∷ xs) x y (inr m) n = in_back y (f z) (flat_map f xs) (in_flat_map f xs x y m n)

pub in_map : {X Y : Type 0} (f : X → Y) (xs : List X) (x : X) → In x xs → In (f x) (map f xs)
in_map f [] x m = absurd m
in_map f (z ∷ xs) x (inl e) = inl (ap f e)
in_map f (z ∷ xs) x (inr m) = inr (in_map f xs x m)

pub All-flat_map : {X Y : Type 0} (P : Y → Type 0) (f : X → List Y) (xs : List X) → AllByRecursion (λ x. AllByRecursion P (f x)) xs → AllByRecursion P (flat_map f xs)
All-flat_map P f [] h = tt
All-flat_map P f (x ∷ xs) h = All-append P (f x) (flat_map f xs) h.0 (All-flat_map P f xs h.1)

-- what was found is a member that passes
pub record FoundIn (X : Type 0) (p : X → Bool) (xs : List X) : Type 0 where
  pub item : X
  pub is : find p xs ≡ Some item
  pub there : In item xs
  pub passes : p item ≡ true

pub found_in : {X : Type 0} (p : X → Bool) (xs : List X) → is_some (find p xs) ≡ true → FoundIn X p xs
found_in p [] e = false_true e
found_in {X = X} p (x ∷ xs) e = by_test (found_in p xs) (p x) refl
  where
    by_test : (is_some (find p xs) ≡ true → FoundIn X p xs) → (b : Bool) → p x ≡ b → FoundIn X p (x ∷ xs)
    by_test ih true g = record { item = x; is = rw g refl; there = inl refl; passes = g }
    by_test ih false g = let f : FoundIn X p xs = ih (rw g at e) in record { item = f.item; is = rw g f.is; there = inr f.there; passes = f.passes }

-- a key is of one row
pub one_of_key : {Row : Type 0} (key : Row → List KeyPart) (xs : List Row) (x y : Row) → Climbs key xs → In x xs → In y xs → key x ≡ key y → x ≡ y
one_of_key key [] x y c m n e = absurd m
one_of_key key (z ∷ xs) x y c (inl f) (inl g) e = f ∙ sym g
one_of_key key (z ∷ xs) x y c (inl f) (inr n) e =
    absurd (not_itself (key z) (key y) (ap key (sym f) ∙ e) (of_all (λ w. is_key_less (key z) (key w) ≡ true) xs y c.0 n))
one_of_key key (z ∷ xs) x y c (inr m) (inl g) e =
    absurd (not_itself (key z) (key x) (ap key (sym g) ∙ sym e) (of_all (λ w. is_key_less (key z) (key w) ≡ true) xs x c.0 m))
one_of_key key (z ∷ xs) x y c (inr m) (inr n) e = one_of_key key xs x y c.1 m n e

-- ---- maps that change nothing

pub map_back : {X : Type 0} (f : X → X) (xs : List X) → AllByRecursion (λ x. f x ≡ x) xs → map f xs ≡ xs
map_back f [] h = refl
map_back f (x ∷ xs) h = λ i. h.0 i ∷ map_back f xs h.1 i

pub map-map : {X Y Z : Type 0} (g : Y → Z) (f : X → Y) (xs : List X) → map g (map f xs) ≡ map (λ x. g (f x)) xs
map-map g f [] = refl
map-map g f (x ∷ xs) = ap (λ ys. g (f x) ∷ ys) (map-map g f xs)

-- ---- one by one

pub each-append : {X S : Type 0} (f : X → S → S) (xs ys : List X) (s : S) → each f (xs ++ ys) s ≡ each f xs (each f ys s)
each-append f [] ys s = refl
each-append f (x ∷ xs) ys s = ap (f x) (each-append f xs ys s)

pub each-same : {X S : Type 0} (f g : X → S → S) (xs : List X) (s : S) → AllByRecursion (λ x. f x ≡ g x) xs → each f xs s ≡ each g xs s
each-same f g [] s h = refl
each-same f g (x ∷ xs) s h = λ i. h.0 i (each-same f g xs s h.1 i)

pub sorted_each : {Row : Type 0} (key : Row → List KeyPart) (xs : List Row) → rows_sorted_by_key key xs ≡ each (insert_row_by_key key) xs []
unfolding sort_by
sorted_each key [] = refl
sorted_each key (x ∷ xs) = ap (insert_row_by_key key x) (sorted_each key xs)
