-- Lists that are made of rows one after another.
use Rattle.std.proofs.Common.{◌≡◌, ◌∙◌, ◌+◌, ◌<◌, ◌&&◌, ℕ, Bool, true, false, cond, List, [], ◌∷◌, ◌++◌, Some, ap, arith, filter, find, get_or, length, map, refl, reverse, sym, take}
use Rattle.std.proofs.lemmas.List.{append-nil, map-append, reverse-append, take_more}
use Rattle.std.proofs.lemmas.List.Elements.{filter-append}

pub map_map : {X Y Z : Type 0} (g : Y → Z) (f : X → Y) (xs : List X) → map g (map f xs) ≡ map (λ x. g (f x)) xs
map_map g f [] = refl
map_map g f (x ∷ xs) = ap (λ ys. g (f x) ∷ ys) (map_map g f xs)

pub map_reverse : {X Y : Type 0} (f : X → Y) (xs : List X) → map f (reverse xs) ≡ reverse (map f xs)
map_reverse f [] = refl
map_reverse f (x ∷ xs) =
    ap (map f) (reverse-append (x ∷ []) xs) ∙ map-append f (reverse xs) (x ∷ []) ∙ ap (λ ys. ys ++ f x ∷ []) (map_reverse f xs) ∙ sym (reverse-append (f x ∷ []) (map f xs))

-- the first rows and the next one
pub first_more : {X : Type 0} (rows : List X) (i : ℕ) (row : X) → i < length rows → row ≡ get_or rows i row → take i rows ++ row ∷ [] ≡ take (i + 1) rows
first_more rows i row inside is = ap (λ x. take i rows ++ x ∷ []) is ∙ sym (take_more rows i row inside)

-- each row made into one thing, and one more
pub one_more : {X Y Z : Type 0} (f : X → Z) (g : Y → Z) (xs : List X) (ys : List Y) (i : ℕ) (x : X) (y : Y) → i < length ys → y ≡ get_or ys i y → f x ≡ g y
    → map f xs ≡ map g (take i ys) → map f (xs ++ x ∷ []) ≡ map g (take (i + 1) ys)
one_more f g xs ys i x y inside is same e =
    map-append f xs (x ∷ []) ∙ (λ j. e j ++ same j ∷ []) ∙ sym (map-append g (take i ys) (y ∷ [])) ∙ ap (map g) (first_more ys i y inside is)

-- ---- rows that pass tests

-- the first rows that pass, and the next row
pub last_more : {X Z : Type 0} (f : X → Z) (p : Z → Bool) (rows : List X) (i : ℕ) (row : X) → i < length rows → row ≡ get_or rows i row
    → filter p (map f (take i rows)) ++ filter p (f row ∷ []) ≡ filter p (map f (take (i + 1) rows))
last_more f p rows i row inside is =
    sym (filter-append p (map f (take i rows)) (f row ∷ [])) ∙ ap (filter p) (sym (map-append f (take i rows) (row ∷ []))) ∙ ap (λ xs. filter p (map f xs)) (first_more rows i row inside is)

pub added_one : {X Z : Type 0} (f : X → Z) (p : Z → Bool) (row : X) (kept : List X) → p (f row) ≡ true → map f (kept ++ row ∷ []) ≡ map f kept ++ filter p (f row ∷ [])
added_one f p row kept passes = map-append f kept (row ∷ []) ∙ (λ j. map f kept ++ cond (sym passes j) (f row ∷ []) [])

pub added_none : {X Z : Type 0} (f : X → Z) (p : Z → Bool) (row : X) (kept : List X) → p (f row) ≡ false → map f kept ≡ map f kept ++ filter p (f row ∷ [])
added_none f p row kept fails = sym (append-nil (map f kept)) ∙ (λ j. map f kept ++ cond (sym fails j) (f row ∷ []) [])

pub filter_both : {X : Type 0} (p q : X → Bool) (xs : List X) → filter (λ x. p x && q x) xs ≡ filter q (filter p xs)
filter_both p q [] = refl
filter_both p q (x ∷ xs) = go (filter_both p q xs) (p x) (q x) refl refl
  where
    go : filter (λ x. p x && q x) xs ≡ filter q (filter p xs) → (a b : Bool) → p x ≡ a → q x ≡ b → filter (λ x. p x && q x) (x ∷ xs) ≡ filter q (filter p (x ∷ xs))
    go more true true e f = rw (e, f) (ap (λ l. x ∷ l) more)
    go more true false e f = rw (e, f) more
    go more false b e f = rw e more

pub find_both : {X : Type 0} (p q : X → Bool) (xs : List X) → find (λ x. p x && q x) xs ≡ find q (filter p xs)
find_both p q [] = refl
find_both p q (x ∷ xs) = go (find_both p q xs) (p x) (q x) refl refl
  where
    go : find (λ x. p x && q x) xs ≡ find q (filter p xs) → (a b : Bool) → p x ≡ a → q x ≡ b → find (λ x. p x && q x) (x ∷ xs) ≡ find q (filter p (x ∷ xs))
    go more true true e f = rw (e, f) refl
    go more true false e f = rw (e, f) more
    go more false b e f = rw e more

pub find_same : {X : Type 0} (p q : X → Bool) → ((x : X) → p x ≡ q x) → (xs : List X) → find p xs ≡ find q xs
find_same p q h [] = refl
find_same p q h (x ∷ xs) = λ i. cond (h x i) (Some x) (find_same p q h xs i)

pub filter_same : {X : Type 0} (p q : X → Bool) → ((x : X) → p x ≡ q x) → (xs : List X) → filter p xs ≡ filter q xs
filter_same p q h [] = refl
filter_same p q h (x ∷ xs) = λ i. cond (h x i) (x ∷ filter_same p q h xs i) (filter_same p q h xs i)

-- what was found passes
pub found_passes : {X : Type 0} (p : X → Bool) (xs : List X) (x : X) → find p xs ≡ Some x → p x ≡ true
found_passes p [] x e = absurd (let f = e in cc)
found_passes p (y ∷ ys) x e = go (found_passes p ys x) (p y) refl
  where
    go : (find p ys ≡ Some x → p x ≡ true) → (b : Bool) → p y ≡ b → p x ≡ true
    go more true k = let same : Some y ≡ Some x = rw k at e in let is : y ≡ x = cc in sym (ap p is) ∙ k
    go more false k = more (rw k at e)

-- ---- from the last one on

pub none_made : {X Y Z : Type 0} (f : X → Z) (shown : Y → Z) (all : List X) (made : List Y) → made ≡ [] → map f all ++ map shown (reverse made) ≡ map f all
none_made f shown all made e = ap (λ ys. map f all ++ map shown (reverse ys)) e ∙ append-nil (map f all)

append_assoc : {X : Type 0} (xs ys zs : List X) → (xs ++ ys) ++ zs ≡ xs ++ (ys ++ zs)
append_assoc [] ys zs = refl
append_assoc (x ∷ xs) ys zs = ap (λ ws. x ∷ ws) (append_assoc xs ys zs)

-- the last of some made into one thing, which goes before those that were made of the ones after it
pub popped : {X Y Z : Type 0} (f : X → Z) (shown : Y → Z) (before rest : List X) (x : X) (made : List Y) (y : Y) (whole : List Z) → before ≡ rest ++ x ∷ []
    → map f before ++ map shown (reverse made) ≡ whole → shown y ≡ f x → map f rest ++ map shown (reverse (made ++ y ∷ [])) ≡ whole
popped f shown before rest x made y whole is p e =
    ap (λ ys. map f rest ++ map shown ys) (reverse-append made (y ∷ []))
    ∙ ap (λ z. map f rest ++ z ∷ map shown (reverse made)) e
    ∙ sym (append_assoc (map f rest) (f x ∷ []) (map shown (reverse made)))
    ∙ ap (λ zs. zs ++ map shown (reverse made)) (sym (map-append f rest (x ∷ [])) ∙ ap (map f) (sym is))
    ∙ p

-- none is left
pub all_made : {X Y Z : Type 0} (f : X → Z) (shown : Y → Z) (rest : List X) (made : List Y) (whole : List Z) → length rest ≡ 0 → map f rest ++ map shown (reverse made) ≡ whole
    → map shown (reverse made) ≡ whole
all_made f shown [] made whole none e = e
all_made f shown (x ∷ rest) made whole none e = absurd (omega (arith, none))
