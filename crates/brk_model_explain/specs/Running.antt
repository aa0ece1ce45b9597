-- Running totals over a list, and lines that contain them.
use Rattle.std.specs.Prelude.{List, [], ◌∷◌, ℤ, ◌+ℤ◌}
use Rattle.brk_money.specs.Spelling.{Text}

-- For each element of a list, `from` plus the sum of `f` over the elements up to and including it.
abbrev pub running_totals : {X : Type 0} → (X → ℤ) → ℤ → List X → List ℤ
running_totals f from [] = []
running_totals f from (x ∷ xs) = (from +ℤ f x) ∷ running_totals f (from +ℤ f x) xs

-- The `line` of each element of a list and of its running total from `from` on (`running_totals`).
abbrev pub lines_with_running_total : {X : Type 0} → (X → ℤ) → (X → ℤ → Text) → ℤ → List X → List Text
lines_with_running_total f line from [] = []
lines_with_running_total f line from (x ∷ xs) = line x (from +ℤ f x) ∷ lines_with_running_total f line (from +ℤ f x) xs
