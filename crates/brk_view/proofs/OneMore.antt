-- The records of the first elements of a list, and those of one more element.
use Rattle.std.proofs.Common.{◌≡◌, ◌∙◌, ◌+◌, ◌<◌, ◌++◌, ◌∷◌, [], ℕ, List, ap, append_assoc, get_or, length, map, sym, take}
use Rattle.std.proofs.lemmas.List.{flat_map_more, map_more, map_push, take_more}
use Rattle.std.specs.Prelude.{flat_map}

-- one more element of each list keeps the equality of their images
pub one_more : {X Y D : Type 0} (g : Y → D) (f : X → D) (xs : List X) (i : ℕ) (x : X) (was now : List Y) (y : Y) → i < length xs → now ≡ was ++ y ∷ []
    → map g was ≡ map f (take i xs) → g y ≡ f (get_or xs i x) → map g now ≡ map f (take (i + 1) xs)
one_more g f xs i x was now y lt added same next = ap (map g) added ∙ map_push g was y ∙ (λ k. same k ++ next k ∷ []) ∙ sym (map_more f xs i x lt)

-- the same, the second by two functions
pub one_more_mapped_twice : {X Y C D : Type 0} (g : Y → D) (h : C → D) (f : X → C) (xs : List X) (i : ℕ) (x : X) (was now : List Y) (y : Y) → i < length xs → now ≡ was ++ y ∷ []
    → map g was ≡ map h (map f (take i xs)) → g y ≡ h (f (get_or xs i x)) → map g now ≡ map h (map f (take (i + 1) xs))
one_more_mapped_twice g h f xs i x was now y lt added same next =
    ap (map g) added ∙ map_push g was y ∙ (λ k. same k ++ next k ∷ []) ∙ sym (ap (map h) (map_more f xs i x lt) ∙ map_push h (map f (take i xs)) (f (get_or xs i x)))

-- the images of one list are others, then those of the first elements of another, and one more
pub one_more_after : {X Y D : Type 0} (g : Y → D) (f : X → D) (before : List D) (xs : List X) (i : ℕ) (x : X) (was now : List Y) (y : Y) → i < length xs → now ≡ was ++ y ∷ []
    → map g was ≡ before ++ map f (take i xs) → g y ≡ f (get_or xs i x) → map g now ≡ before ++ map f (take (i + 1) xs)
one_more_after g f before xs i x was now y lt added same next =
    ap (map g) added ∙ map_push g was y ∙ (λ k. same k ++ next k ∷ []) ∙ append_assoc before (map f (take i xs)) (f (get_or xs i x) ∷ [])
    ∙ ap (λ ds. before ++ ds) (sym (map_more f xs i x lt))

-- a list is those that the first elements of another stand for, and those of one more
pub those_of_one_more : {X D : Type 0} (f : X → List D) (xs : List X) (i : ℕ) (x : X) (was now : List D) → i < length xs → x ≡ get_or xs i x → now ≡ was ++ f x
    → was ≡ flat_map f (take i xs) → now ≡ flat_map f (take (i + 1) xs)
those_of_one_more f xs i x was now lt is added same =
    added ∙ ap (λ ds. ds ++ f x) same ∙ flat_map_more f [] (take i xs) x ∙ ap (flat_map f) (ap (λ y. take i xs ++ y ∷ []) is ∙ sym (take_more xs i x lt))
