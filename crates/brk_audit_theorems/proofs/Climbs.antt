-- Rows sorted by strictly ascending keys: sorting does not change them, and two such lists with the
-- same rows are equal.
use Rattle.std.proofs.Common.{◌≡◌, Bool, true, false, cond, List, [], ◌∷◌, ◌++◌, refl, sym, ◌∙◌, ap, subst, map, filter, inl, inr}
use Rattle.std.specs.Prelude.{⊤, ◌⊎◌}
use Rattle.std.specs.List.{AllByRecursion, list_all}
use Rattle.std.proofs.lemmas.Bool.{and_parts}
use Rattle.brk_model.specs.Keys.{KeyPart, is_key_less, is_row_key_less, rows_sorted_by_key}
use Rattle.brk_model.specs.Form.{is_sorted_by_unique_key}
use Rattle.brk_trade_books.proofs.Order.{Sorted, key_one_way, key_splits, sort_sorted}
use Rattle.brk_trade_books.proofs.Same.{All-filter, All-map, All-append}

-- ---- members

abbrev pub In : {X : Type 0} → X → List X → Type 0
In x [] = ⊥
In x (y ∷ ys) = (x ≡ y) ⊎ In x ys

pub each_in : {X : Type 0} (xs : List X) → AllByRecursion (λ x. In x xs) xs
each_in [] = tt
each_in (x ∷ xs) = (inl refl, All-map xs (λ y h. inr h) (each_in xs))

pub of_all : {X : Type 0} (P : X → Type 0) (xs : List X) (x : X) → AllByRecursion P xs → In x xs → P x
of_all P [] x h m = absurd m
of_all P (y ∷ ys) x h (inl e) = subst P (sym e) h.0
of_all P (y ∷ ys) x h (inr m) = of_all P ys x h.1 m

pub list_all_true : {X : Type 0} (p : X → Bool) (xs : List X) → list_all p xs ≡ true → AllByRecursion (λ x. p x ≡ true) xs
list_all_true p [] e = tt
list_all_true p (x ∷ xs) e = let h = and_parts (p x) (list_all p xs) e in (h.0, list_all_true p xs h.1)

-- ---- keys that rise

abbrev pub Climbs : {Row : Type 0} → (Row → List KeyPart) → List Row → Type 0
Climbs key [] = ⊤
Climbs key (x ∷ xs) = AllByRecursion (λ y. is_key_less (key x) (key y) ≡ true) xs × Climbs key xs

false_true : {A : Type 0} → false ≡ true → A
false_true e = absurd (cc)

pub key_through : (j k l : List KeyPart) → is_key_less j k ≡ true → is_key_less k l ≡ true → is_key_less j l ≡ true
key_through j k l e f = by_test (is_key_less j l) refl
  where
    by_test : (b : Bool) → is_key_less j l ≡ b → is_key_less j l ≡ true
    by_test true g = g
    by_test false g = false_true (sym (key_one_way k l f) ∙ key_splits k l j e g)

-- no key goes before itself, whatever it is called
pub not_itself : (j k : List KeyPart) → j ≡ k → is_key_less j k ≡ true → ⊥
not_itself j k p e = false_true (sym (key_one_way j k e) ∙ (λ i. is_key_less (sym p i) (p i)) ∙ e)

pub climbs : {Row : Type 0} (key : Row → List KeyPart) (xs : List Row) → is_sorted_by_unique_key key xs ≡ true → Climbs key xs
climbs key [] e = tt
climbs key (x ∷ []) e = (tt, tt)
climbs key (x ∷ y ∷ ys) e =
    let h = and_parts (is_key_less (key x) (key y)) (is_sorted_by_unique_key key (y ∷ ys)) e in
    let c : Climbs key (y ∷ ys) = climbs key (y ∷ ys) h.1 in
    ((h.0, All-map ys (λ z f. key_through (key x) (key y) (key z) h.0 f) c.0), c)

pub climbs_sorted : {Row : Type 0} (key : Row → List KeyPart) (xs : List Row) → Climbs key xs → Sorted (is_row_key_less key) xs
climbs_sorted key [] c = tt
climbs_sorted key (x ∷ xs) c = (All-map xs (λ y h. key_one_way (key x) (key y) h) c.0, climbs_sorted key xs c.1)

-- rows by rising key are sorted as they are
pub stays : {Row : Type 0} (key : Row → List KeyPart) (xs : List Row) → Climbs key xs → rows_sorted_by_key key xs ≡ xs
stays key xs c = sort_sorted (is_row_key_less key) xs (climbs_sorted key xs c)

climbs_ahead : {X Y : Type 0} (key : X → List KeyPart) (key' : Y → List KeyPart) (f : X → Y) (x : X) (ys : List X) → ((z : X) → key' (f z) ≡ key z)
    → AllByRecursion (λ y. is_key_less (key x) (key y) ≡ true) ys → AllByRecursion (λ y. is_key_less (key' (f x)) (key' y) ≡ true) (map f ys)
climbs_ahead key key' f x [] e h = tt
climbs_ahead key key' f x (y ∷ ys) e h = ((λ i. is_key_less (e x i) (e y i)) ∙ h.0, climbs_ahead key key' f x ys e h.1)

pub climbs_map : {X Y : Type 0} (key : X → List KeyPart) (key' : Y → List KeyPart) (f : X → Y) (xs : List X) → ((x : X) → key' (f x) ≡ key x)
    → Climbs key xs → Climbs key' (map f xs)
climbs_map key key' f [] e c = tt
climbs_map key key' f (x ∷ xs) e c = (climbs_ahead key key' f x xs e c.0, climbs_map key key' f xs e c.1)

pub climbs_filter : {Row : Type 0} (key : Row → List KeyPart) (p : Row → Bool) (xs : List Row) → Climbs key xs → Climbs key (filter p xs)
climbs_filter key p [] c = tt
climbs_filter key p (x ∷ xs) c =
    elim (p x) as (λ b. Climbs key (cond b (x ∷ filter p xs) (filter p xs)))
    [ true ↦ (All-filter (λ y. is_key_less (key x) (key y) ≡ true) p xs c.0, climbs_filter key p xs c.1) | false ↦ climbs_filter key p xs c.1 ]

-- all of the first rows go before all of the others
abbrev pub AllBefore : {Row : Type 0} → (Row → List KeyPart) → List Row → List Row → Type 0
AllBefore key xs ys = AllByRecursion (λ x. AllByRecursion (λ y. is_key_less (key x) (key y) ≡ true) ys) xs

pub climbs_append : {Row : Type 0} (key : Row → List KeyPart) (xs ys : List Row) → Climbs key xs → Climbs key ys → AllBefore key xs ys → Climbs key (xs ++ ys)
climbs_append key [] ys c d h = d
climbs_append key (x ∷ xs) ys c d h =
    (All-append (λ y. is_key_less (key x) (key y) ≡ true) xs ys c.0 h.0, climbs_append key xs ys c.1 d h.1)

-- ---- two lists with the same rows

heads : {Row : Type 0} (key : Row → List KeyPart) (x y : Row) (xs ys : List Row)
    → AllByRecursion (λ z. is_key_less (key x) (key z) ≡ true) xs → AllByRecursion (λ z. is_key_less (key y) (key z) ≡ true) ys
    → In x (y ∷ ys) → In y (x ∷ xs) → x ≡ y
heads key x y xs ys c d (inl e) n = e
heads key x y xs ys c d (inr m) (inl e) = sym e
heads key x y xs ys c d (inr m) (inr n) =
    let f : is_key_less (key y) (key x) ≡ true = of_all (λ z. is_key_less (key y) (key z) ≡ true) ys x d m in
    let g : is_key_less (key x) (key y) ≡ true = of_all (λ z. is_key_less (key x) (key z) ≡ true) xs y c n in
    false_true (sym (key_one_way (key y) (key x) f) ∙ g)

tails : {Row : Type 0} (key : Row → List KeyPart) (x y : Row) (ys zs : List Row) → x ≡ y
    → AllByRecursion (λ z. is_key_less (key x) (key z) ≡ true) zs → AllByRecursion (λ z. In z (y ∷ ys)) zs → AllByRecursion (λ z. In z ys) zs
tails key x y ys [] e c h = tt
tails {Row = Row} key x y ys (z ∷ zs) e c h = (behind h.0, tails key x y ys zs e c.1 h.1)
  where
    behind : In z (y ∷ ys) → In z ys
    behind (inl f) = absurd (not_itself (key x) (key z) (ap key (e ∙ sym f)) c.0)
    behind (inr m) = m

pub same_rows : {Row : Type 0} (key : Row → List KeyPart) (xs ys : List Row) → Climbs key xs → Climbs key ys
    → AllByRecursion (λ x. In x ys) xs → AllByRecursion (λ y. In y xs) ys → xs ≡ ys
same_rows key [] [] c d f g = refl
same_rows key [] (y ∷ ys) c d f g = absurd g.0
same_rows key (x ∷ xs) [] c d f g = absurd f.0
same_rows key (x ∷ xs) (y ∷ ys) c d f g =
    let e : x ≡ y = heads key x y xs ys c.0 d.0 f.0 g.0 in
    let t : xs ≡ ys = same_rows key xs ys c.1 d.1 (tails key x y ys xs e c.0 f.1) (tails key y x xs ys (sym e) d.0 g.1) in
    λ i. e i ∷ t i
