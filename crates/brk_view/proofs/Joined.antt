-- A record and the lists of records after it, appended one by one, are one list appended at once.
use Rattle.std.proofs.Common.{◌≡◌, List, [], ◌∷◌, ◌++◌, refl, ap, ◌∙◌}

assoc : {X : Type 0} (xs ys zs : List X) → (xs ++ ys) ++ zs ≡ xs ++ (ys ++ zs)
assoc [] ys zs = refl
assoc (x ∷ xs) ys zs = ap (λ ws. x ∷ ws) (assoc xs ys zs)

pub joined_four : {X : Type 0} (xs : List X) (a : X) (bs cs ds : List X) → (((xs ++ a ∷ []) ++ bs) ++ cs) ++ ds ≡ xs ++ (a ∷ ((bs ++ cs) ++ ds))
joined_four xs a bs cs ds =
    ap (λ ws. ws ++ ds) (assoc (xs ++ a ∷ []) bs cs) ∙ assoc (xs ++ a ∷ []) (bs ++ cs) ds ∙ assoc xs (a ∷ []) ((bs ++ cs) ++ ds)
