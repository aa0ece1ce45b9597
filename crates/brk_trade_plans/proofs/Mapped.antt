-- The images of the first elements of a list, and of one more element.
use Rattle.std.proofs.Common.{◌≡◌, ◌∙◌, ◌+◌, ◌<◌, ◌++◌, ◌∷◌, [], ℕ, List, ap, get_or, length, map, sym, take}
use Rattle.std.proofs.lemmas.List.{map_more, map_push}

-- one more element of each list keeps the equality of their images
pub one_more : {X Y D : Type 0} (g : Y → D) (f : X → D) (xs : List X) (i : ℕ) (x : X) (was now : List Y) (y : Y) → i < length xs → now ≡ was ++ y ∷ []
    → map g was ≡ map f (take i xs) → g y ≡ f (get_or xs i x) → map g now ≡ map f (take (i + 1) xs)
one_more g f xs i x was now y lt added same next = ap (map g) added ∙ map_push g was y ∙ (λ k. same k ++ next k ∷ []) ∙ sym (map_more f xs i x lt)
