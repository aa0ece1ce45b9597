-- Trades that are read one after another by their ids.
use Rattle.std.proofs.Common.{◌≡◌, ◌∙◌, ◌+◌, ◌<◌, ◌||◌, ℕ, zero, suc, Bool, true, List, [], ◌∷◌, ◌++◌, Option, None, ap, arith, get_or, length, map, refl, sym, take}
use Rattle.std.proofs.lemmas.List.{map-append, take_more}
use Rattle.std.specs.Prelude.{is_none}
use Rattle.std.specs.List.{list_any}

-- one more element, which is the one that was found
pub one_more : {X Y Z : Type 0} (f : X → Z) (g : Y → Z) (xs : List X) (ys : List Y) (i : ℕ) (x : X) (y : Y) → i < length ys → y ≡ get_or ys i y → f x ≡ g y
    → map f xs ≡ map g (take i ys) → map f (xs ++ x ∷ []) ≡ map g (take (i + 1) ys)
one_more f g xs ys i x y inside is same e =
    map-append f xs (x ∷ []) ∙ ap (λ zs. zs ++ f x ∷ []) e ∙ ap (λ z. map g (take i ys) ++ z ∷ []) same ∙ sym (map-append g (take i ys) (y ∷ []))
    ∙ ap (map g) (ap (λ z. take i ys ++ z ∷ []) is ∙ sym (take_more ys i y inside))

pub twice : {X Y Z : Type 0} (f : X → Y) (g : Y → Z) (xs : List X) → map (λ x. g (f x)) xs ≡ map g (map f xs)
twice f g [] = refl
twice f g (x ∷ xs) = ap (λ zs. g (f x) ∷ zs) (twice f g xs)

or_true : (b : Bool) → b || true ≡ true
or_true true = refl
or_true Bool.false = refl

-- where one is not there, some is not
pub some_missing : {X : Type 0} (look : ℕ → Option X) (ids : List ℕ) (i id : ℕ) → i < length ids → id ≡ get_or ids i id → None ≡ look id → list_any (λ id. is_none (look id)) ids ≡ true
some_missing look [] i id inside is none = absurd (omega (arith, inside))
some_missing look (x ∷ ids) zero id inside is none =
    ap (λ b. b || list_any (λ id. is_none (look id)) ids) (ap (λ n. is_none (look n)) (sym is) ∙ ap is_none (sym none))
some_missing look (x ∷ ids) (suc i) id inside is none =
    ap (λ b. is_none (look x) || b) (some_missing look ids i id (omega (arith, inside)) is none) ∙ or_true (is_none (look x))
