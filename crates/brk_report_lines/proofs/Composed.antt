-- Lines written after other lines: the whole ends as the last part does.
use Rattle.std.proofs.Common.{◌≡◌, List, [], ◌∷◌, ◌++◌, Option, Some, None, append-nil, take, refl, sym, ap, subst, ◌∙◌}
use Rattle.std.specs.Io.KnownBytes.{Appends}
use Rattle.std.proofs.KnownBytes.{Appends-trans}
use Rattle.std.proofs.lemmas.List.{append_assoc}
use Rattle.brk_money.specs.Spelling.{Text}
use Rattle.brk_model.specs.Statement.{text_of_lines}
use Rattle.brk_io.specs.declared.report_fault.LinesFault.{LinesFault}
use Rattle.brk_io.specs.declared.report_fault.LinesFault.TheVariants.{Desk, Write}
use Rattle.brk_report_lines.specs.Written.{FailsWithinLines, FailsWithinFirstLines, WritesProperPrefixOfLines, line_with_line_feed}

pub appends_none : (a : Option Text) → Appends a a []
appends_none None = tt
appends_none (Some xs) = sym (append-nil xs)

pub lines_parts : (xs ys : List Text) → text_of_lines (xs ++ ys) ≡ text_of_lines xs ++ text_of_lines ys
lines_parts [] ys = refl
lines_parts (x ∷ xs) ys = ap (λ (l : Text). line_with_line_feed x ++ l) (lines_parts xs ys) ∙ sym (append_assoc (line_with_line_feed x) (text_of_lines xs) (text_of_lines ys))

-- lines behind lines that are written
pub then_all : (xs ys : List Text) (a b c : Option Text) → Appends a b (text_of_lines xs) → Appends b c (text_of_lines ys) → Appends a c (text_of_lines (xs ++ ys))
then_all xs ys a b c h k = subst (Appends a c) (sym (lines_parts xs ys)) (Appends-trans _ _ _ _ _ h k)

pub breaks_behind : (xs ys : List Text) (a b c : Option Text) (e : LinesFault) → Appends a b (text_of_lines xs) → FailsWithinLines ys b c e → FailsWithinLines (xs ++ ys) a c e
breaks_behind xs ys a b c (Desk f) h w = (xs ++ w.0, w.1, w.2, append_assoc xs w.0 (w.1 ∷ w.2) ∙ ap (λ (l : List Text). xs ++ l) w.3, then_all xs w.0 a b c h w.4)
breaks_behind xs ys a b c Write h k = (
  xs ++ k.0,
  k.1,
  k.2,
  k.3,
  append_assoc xs k.0 (k.1 ∷ k.2) ∙ ap (λ (l : List Text). xs ++ l) k.4,
  subst (Appends a c) (sym (append_assoc (text_of_lines xs) (text_of_lines k.0) (take k.3 (line_with_line_feed k.1)))
      ∙ ap (λ (l : Text). l ++ take k.3 (line_with_line_feed k.1)) (sym (lines_parts xs k.0))) (Appends-trans _ _ _ _ _ h k.5),
)

-- lines that broke off, with more to come behind them
pub breaks_before : (xs ys : List Text) (a b : Option Text) (e : LinesFault) → FailsWithinLines xs a b e → FailsWithinLines (xs ++ ys) a b e
breaks_before xs ys a b (Desk f) w = (w.0, w.1, w.2 ++ ys, sym (append_assoc w.0 (w.1 ∷ w.2) ys) ∙ ap (λ (l : List Text). l ++ ys) w.3, w.4)
breaks_before xs ys a b Write h = (h.0, h.1, h.2 ++ ys, h.3, sym (append_assoc h.0 (h.1 ∷ h.2) ys) ∙ ap (λ (l : List Text). l ++ ys) h.4, h.5)

-- lines that may all be written, with one more behind them that is not
pub breaks_off : (xs : List Text) (y : Text) (ys : List Text) (a b : Option Text) (e : LinesFault) → FailsWithinFirstLines xs a b e → FailsWithinLines (xs ++ y ∷ ys) a b e
breaks_off xs y ys a b (Desk f) h = next h.0 h.1 h.2 h.3
  where
    next : (first rest : List Text) → first ++ rest ≡ xs → Appends a b (text_of_lines first) → WritesProperPrefixOfLines (xs ++ y ∷ ys) a b
    next first [] e k = (first, y, ys, ap (λ (l : List Text). l ++ y ∷ ys) (sym (append-nil first) ∙ e), k)
    next first (r ∷ rest) e k = (first, r, rest ++ y ∷ ys, sym (append_assoc first (r ∷ rest) (y ∷ ys)) ∙ ap (λ (l : List Text). l ++ y ∷ ys) e, k)
breaks_off xs y ys a b Write h = (h.0, h.1, h.2 ++ y ∷ ys, h.3, sym (append_assoc h.0 (h.1 ∷ h.2) (y ∷ ys)) ∙ ap (λ (l : List Text). l ++ y ∷ ys) h.4, h.5)
