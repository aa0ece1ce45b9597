-- The first match among the first elements of a list, and among one element more.
use Rattle.std.proofs.Common.{◌≡◌, ℕ, ◌+◌, ◌<◌, Bool, true, false, cond, List, [], ◌∷◌, ◌++◌, refl, sym, ◌∙◌, ap, take, length, get_or, Option, Some, None}
use Rattle.std.specs.Prelude.{find, option_map, is_some}
use Rattle.std.proofs.lemmas.List.{take_more}

abbrev pub or_else : {X : Type 0} → Option X → Option X → Option X
or_else None p = p
or_else (Some x) p = Some x

find-append : {X : Type 0} (p : X → Bool) (xs : List X) (x : X) → find p (xs ++ x ∷ []) ≡ or_else (find p xs) (cond (p x) (Some x) None)
find-append p [] x = refl
find-append {X = X} p (y ∷ xs) x = by_test (p y) (find-append p xs x)
  where
    by_test : (b : Bool) → find p (xs ++ x ∷ []) ≡ or_else (find p xs) (cond (p x) (Some x) None)
        → cond b (Some y) (find p (xs ++ x ∷ [])) ≡ or_else (cond b (Some y) (find p xs)) (cond (p x) (Some x) None)
    by_test true e = refl
    by_test false e = e

-- one more that passes where none did
pub find_more_new : {X Y : Type 0} (p : X → Bool) (f : X → Y) (xs : List X) (i : ℕ) (x : X) (was : Option Y) → i < length xs → x ≡ get_or xs i x
    → was ≡ option_map f (find p (take i xs)) → is_some was ≡ false → p x ≡ true → Some (f x) ≡ option_map f (find p (take (i + 1) xs))
find_more_new {X = X} {Y = Y} p f xs i x was h r e n t =
    let k : find p (take (i + 1) xs) ≡ or_else (find p (take i xs)) (cond (p x) (Some x) None) =
    ap (find p) (take_more xs i x h ∙ ap (λ y. take i xs ++ y ∷ []) (sym r)) ∙ find-append p (take i xs) x in
    by_found (find p (take i xs)) refl k
  where
    by_found : (o : Option X) → find p (take i xs) ≡ o → find p (take (i + 1) xs) ≡ or_else (find p (take i xs)) (cond (p x) (Some x) None)
        → Some (f x) ≡ option_map f (find p (take (i + 1) xs))
    by_found None g k = sym (ap (option_map f) (k ∙ ap (λ o. or_else o (cond (p x) (Some x) None)) g ∙ ap (λ b. cond b (Some x) None) t))
    by_found (Some y) g k = let j : is_some was ≡ true = ap is_some (e ∙ ap (option_map f) g) in absurd (cc)

-- one more where one was found, or that does not pass
pub find_more_old : {X Y : Type 0} (p : X → Bool) (f : X → Y) (xs : List X) (i : ℕ) (x : X) (was : Option Y) → i < length xs → x ≡ get_or xs i x
    → was ≡ option_map f (find p (take i xs)) → (p x ≡ true → is_some was ≡ true) → was ≡ option_map f (find p (take (i + 1) xs))
find_more_old {X = X} {Y = Y} p f xs i x was h r e s =
    let k : find p (take (i + 1) xs) ≡ or_else (find p (take i xs)) (cond (p x) (Some x) None) =
    ap (find p) (take_more xs i x h ∙ ap (λ y. take i xs ++ y ∷ []) (sym r)) ∙ find-append p (take i xs) x in
    e ∙ by_found (find p (take i xs)) (p x) refl refl ∙ sym (ap (option_map f) k)
  where
    by_found : (o : Option X) (b : Bool) → find p (take i xs) ≡ o → p x ≡ b → option_map f (find p (take i xs)) ≡ option_map f (or_else (find p (take i xs)) (cond (p x) (Some x) None))
    by_found (Some y) b g t = ap (λ o. option_map f o) (g ∙ sym (ap (λ o. or_else o (cond (p x) (Some x) None)) g))
    by_found None false g t = ap (λ o. option_map f o) (g ∙ sym (ap (λ o. or_else o (cond (p x) (Some x) None)) g ∙ ap (λ b. cond b (Some x) None) t))
    by_found None true g t = let j : is_some was ≡ true = s t in let q : is_some was ≡ false = ap is_some (e ∙ ap (option_map f) g) in absurd (cc)
