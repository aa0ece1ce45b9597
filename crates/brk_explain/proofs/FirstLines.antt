-- Lists of lines that have a first one.
use Rattle.std.proofs.Common.{◌≡◌, Global, List, [], ◌∷◌, ◌++◌, Option, Result, IfOk, refl, subst, sym, ap}
use Rattle.std.specs.Prelude.{ℕ, Vec}
use Rattle.brk_money.specs.Spelling.{Text}
use Rattle.brk_model.specs.Statement.{text_of_lines}
use Rattle.brk_report_lines.specs.Written.{FailsWithinLines, FailsWithinFirstLines, WritesLines}
use Rattle.brk_io.specs.declared.report_fault.LinesFault.{LinesFault}
use Rattle.brk_report_lines.proofs.Composed.{breaks_off}

-- the lines have a first one
abbrev pub HasFirst : List Text → Type 0
HasFirst lines = (line : Text) × (rest : List Text) × (line ∷ rest ≡ lines)

-- so do lines before others
pub first_before : (xs ys : List Text) → HasFirst xs → HasFirst (xs ++ ys)
first_before xs ys h = (h.0, h.1 ++ ys, ap (λ (l : List Text). l ++ ys) h.2)

-- and lines behind others
pub first_behind : (xs ys : List Text) → HasFirst ys → HasFirst (xs ++ ys)
first_behind [] ys h = h
first_behind (x ∷ xs) ys h = (x, xs ++ ys, refl)

-- lines that may all be written, with others behind them
pub breaks_off_before : (xs ys : List Text) (a b : Option Text) (e : LinesFault) → HasFirst ys → FailsWithinFirstLines xs a b e → FailsWithinLines (xs ++ ys) a b e
breaks_off_before xs ys a b e some h = subst (λ (l : List Text). FailsWithinLines (xs ++ l) a b e) some.2 (breaks_off xs some.0 some.1 a b e h)

-- the text of lines is written
pub text_written : {R E : Type 0} (lines : List Text) (text : Result (Vec ℕ Global) E) (a b : Option Text) (r : Result R LinesFault) → HasFirst lines
    → ((line : Text) (rest : List Text) → IfOk text (λ t. t.items ≡ text_of_lines (line ∷ rest)) → WritesLines (line ∷ rest) a b r)
    → IfOk text (λ t. t.items ≡ text_of_lines lines) → WritesLines lines a b r
text_written lines text a b r some writes made =
    subst (λ (l : List Text). WritesLines l a b r) some.2
    (writes some.0 some.1 (subst (λ (l : List Text). IfOk text (λ t. t.items ≡ text_of_lines l)) (sym some.2) made))
