-- The quantity of a lot after one more change.
use Rattle.std.proofs.Common.{◌≡◌, ◌∙◌, ℤ, List, [], ◌∷◌, ◌++◌, Option, Some, None, ap, map, refl}
use Rattle.std.specs.Prelude.{unwrap_or}
use Rattle.std.specs.List.{last_or}
use Rattle.std.proofs.lemmas.List.{map_push}
use Rattle.brk_model_explain.specs.Holdings.{LotChange}
use Rattle.brk_explain_sums.specs.HoldingTexts.{quantity_after_changes}

last_or-append : {X : Type 0} (o : Option X) (xs : List X) (x : X) → last_or o (xs ++ x ∷ []) ≡ Some x
last_or-append o [] x = refl
last_or-append o (y ∷ xs) x = last_or-append (Some y) xs x

pub after_last : (opened : ℤ) (cs : List LotChange) (c : LotChange) → quantity_after_changes opened (cs ++ c ∷ []) ≡ c.after
after_last opened cs c =
    ap (λ (zs : List ℤ). unwrap_or (last_or None zs) opened) (map_push (λ (d : LotChange). d.after) cs c)
    ∙ ap (λ (z : Option ℤ). unwrap_or z opened) (last_or-append None (map (λ (d : LotChange). d.after) cs) c.after)
