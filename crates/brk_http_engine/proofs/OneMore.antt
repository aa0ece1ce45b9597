-- One more element of a list and its image; the data of strings.
use Rattle.std.proofs.Common.{◌≡◌, ◌∙◌, ◌+◌, ◌<◌, ◌++◌, ◌∷◌, [], ℕ, List, ap, get_or, length, map, sym, take, rules}
use Rattle.std.proofs.lemmas.List.{map_more, map_push}
use Rattle.std.specs.Prelude.{String, string_bytes}
use Rattle.std.specs.Global.{Global}
use Rattle.serde_json.specs.Data.{string}
use Rattle.serde_json.specs.View.{view}
use Rattle.serde_json.specs.declared.value.Value as value

-- one more element of each list keeps the equality of their images, the second by two functions
pub one_more_mapped_twice : {X Y C D : Type 0} (g : Y → D) (h : C → D) (f : X → C) (xs : List X) (i : ℕ) (x : X) (was now : List Y) (y : Y) → i < length xs → now ≡ was ++ y ∷ []
    → map g was ≡ map h (map f (take i xs)) → g y ≡ h (f (get_or xs i x)) → map g now ≡ map h (map f (take (i + 1) xs))
one_more_mapped_twice g h f xs i x was now y lt added same next =
    ap (map g) added ∙ map_push g was y ∙ (λ k. same k ++ next k ∷ []) ∙ sym (ap (map h) (map_more f xs i x lt) ∙ map_push h (map f (take i xs)) (f (get_or xs i x)))

-- the data of a value that is a string
pub view_of_string : (s : String Global) → view (value.String s) ≡ string (string_bytes s)
view_of_string s = search (rules, value.the_lemmas)
