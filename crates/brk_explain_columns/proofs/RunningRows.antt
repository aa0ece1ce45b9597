-- Rows with running totals, and the total after them.
use Rattle.std.proofs.Common.{◌≡◌, ◌+ℤ◌, ℤ, List, [], ◌∷◌, ◌++◌, ap, refl}
use Rattle.brk_money.specs.Spelling.{Text}
use Rattle.brk_model_explain.specs.Running.{lines_with_running_total}

-- the total of all elements
abbrev pub total_after : {M : Type 0} → (M → ℤ) → ℤ → List M → ℤ
total_after f from [] = from
total_after f from (m ∷ ms) = total_after f (from +ℤ f m) ms

-- rows behind rows
pub rows_parts : {M : Type 0} (f : M → ℤ) (line : M → ℤ → Text) (from : ℤ) (xs ys : List M)
    → lines_with_running_total f line from (xs ++ ys) ≡ lines_with_running_total f line from xs ++ lines_with_running_total f line (total_after f from xs) ys
rows_parts f line from [] ys = refl
rows_parts f line from (x ∷ xs) ys = ap (λ (l : List Text). line x (from +ℤ f x) ∷ l) (rows_parts f line (from +ℤ f x) xs ys)

-- the total with one more element
pub after_more : {M : Type 0} (f : M → ℤ) (from : ℤ) (xs : List M) (x : M) → total_after f from (xs ++ x ∷ []) ≡ total_after f from xs +ℤ f x
after_more f from [] x = refl
after_more f from (y ∷ ys) x = after_more f (from +ℤ f y) ys x
