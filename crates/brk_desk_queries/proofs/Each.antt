-- Lists that grow row by row.
use Rattle.std.proofs.Common.{◌≡◌, ◌∙◌, ◌+◌, ◌<◌, ℕ, List, [], ◌∷◌, ◌++◌, refl, sym, ap, arith, get_or, length, map, reverse, take}
use Rattle.std.specs.Prelude.{flat_map}
use Rattle.std.proofs.lemmas.List.{map-append, reverse-append, take_more}

pub map_map : {X Y Z : Type 0} (g : Y → Z) (f : X → Y) (xs : List X) → map g (map f xs) ≡ map (λ x. g (f x)) xs
map_map g f [] = refl
map_map g f (x ∷ xs) = ap (λ ys. g (f x) ∷ ys) (map_map g f xs)

-- the first rows and the next one
pub first_more : {X : Type 0} (rows : List X) (i : ℕ) (row : X) → i < length rows → row ≡ get_or rows i row → take i rows ++ row ∷ [] ≡ take (i + 1) rows
first_more rows i row inside is = ap (λ x. take i rows ++ x ∷ []) is ∙ sym (take_more rows i row inside)

-- each row made into one thing, and one more
pub made_more : {X Y Z : Type 0} (shown : Y → Z) (f : X → Z) (rows : List X) (i : ℕ) (row : X) (all : List Y) (one : Y) → i < length rows → row ≡ get_or rows i row
    → map shown all ≡ map f (take i rows) → shown one ≡ f row → map shown (all ++ one ∷ []) ≡ map f (take (i + 1) rows)
made_more shown f rows i row all one inside is before e =
    map-append shown all (one ∷ []) ∙ (λ j. before j ++ e j ∷ []) ∙ sym (map-append f (take i rows) (row ∷ [])) ∙ ap (map f) (first_more rows i row inside is)

pub list_more : {X Y : Type 0} (f : X → Y) (rows : List X) (i : ℕ) (row : X) (all : List Y) (one : Y) → i < length rows → row ≡ get_or rows i row
    → all ≡ map f (take i rows) → one ≡ f row → all ++ one ∷ [] ≡ map f (take (i + 1) rows)
list_more f rows i row all one inside is before e =
    (λ j. before j ++ e j ∷ []) ∙ sym (map-append f (take i rows) (row ∷ [])) ∙ ap (map f) (first_more rows i row inside is)

pub flat_map_map : {X Y Z : Type 0} (g : Y → List Z) (f : X → Y) (xs : List X) → flat_map g (map f xs) ≡ flat_map (λ x. g (f x)) xs
flat_map_map g f [] = refl
flat_map_map g f (x ∷ xs) = ap (λ ys. g (f x) ++ ys) (flat_map_map g f xs)

append_assoc : {X : Type 0} (xs ys zs : List X) → (xs ++ ys) ++ zs ≡ xs ++ (ys ++ zs)
append_assoc [] ys zs = refl
append_assoc (x ∷ xs) ys zs = ap (λ ws. x ∷ ws) (append_assoc xs ys zs)

append_none : {X : Type 0} (xs : List X) → xs ++ [] ≡ xs
append_none [] = refl
append_none (x ∷ xs) = ap (λ ws. x ∷ ws) (append_none xs)

flat_map_append : {X Y : Type 0} (f : X → List Y) (xs ys : List X) → flat_map f (xs ++ ys) ≡ flat_map f xs ++ flat_map f ys
flat_map_append f [] ys = refl
flat_map_append f (x ∷ xs) ys = ap (λ ws. f x ++ ws) (flat_map_append f xs ys) ∙ sym (append_assoc (f x) (flat_map f xs) (flat_map f ys))

-- each row made into some things, and some more
pub joined_more : {X Y Z : Type 0} (shown : Y → Z) (f : X → List Z) (rows : List X) (i : ℕ) (row : X) (all some : List Y) → i < length rows → row ≡ get_or rows i row
    → map shown all ≡ flat_map f (take i rows) → map shown some ≡ f row → map shown (all ++ some) ≡ flat_map f (take (i + 1) rows)
joined_more shown f rows i row all some inside is before e =
    map-append shown all some ∙ (λ j. before j ++ (e ∙ sym (append_none (f row))) j) ∙ sym (flat_map_append f (take i rows) (row ∷ [])) ∙ ap (flat_map f) (first_more rows i row inside is)

-- ---- from the last one on

pub none_made : {X Y Z : Type 0} (f : X → Z) (shown : Y → Z) (all : List X) (made : List Y) → made ≡ [] → map f all ++ map shown (reverse made) ≡ map f all
none_made f shown all made e = ap (λ ys. map f all ++ map shown (reverse ys)) e ∙ append_none (map f all)

-- the last of some made into one thing, which goes before those that were made of the ones after it
pub popped : {X Y Z : Type 0} (f : X → Z) (shown : Y → Z) (before rest : List X) (x : X) (made : List Y) (y : Y) (whole : List Z) → before ≡ rest ++ x ∷ []
    → map f before ++ map shown (reverse made) ≡ whole → shown y ≡ f x → map f rest ++ map shown (reverse (made ++ y ∷ [])) ≡ whole
popped f shown before rest x made y whole is p e =
    ap (λ ys. map f rest ++ map shown ys) (reverse-append made (y ∷ []))
    ∙ ap (λ z. map f rest ++ z ∷ map shown (reverse made)) e
    ∙ sym (append_assoc (map f rest) (f x ∷ []) (map shown (reverse made)))
    ∙ ap (λ zs. zs ++ map shown (reverse made)) (sym (map-append f rest (x ∷ [])) ∙ ap (map f) (sym is))
    ∙ p

-- none is left
pub all_made : {X Y Z : Type 0} (f : X → Z) (shown : Y → Z) (rest : List X) (made : List Y) (whole : List Z) → length rest ≡ 0 → map f rest ++ map shown (reverse made) ≡ whole
    → map shown (reverse made) ≡ whole
all_made f shown [] made whole none e = e
all_made f shown (x ∷ rest) made whole none e = absurd (omega (arith, none))
