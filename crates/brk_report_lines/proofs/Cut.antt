-- A prefix of the text of lines is some of the lines and a prefix of the next one.
use Rattle.std.proofs.Common.{◌≡◌, ℕ, ◌+◌, ◌-◌, ◌≤◌, List, [], ◌∷◌, ◌++◌, Bool, true, false, append-nil, arith, length, nat_le, take, refl, sym, ap, ◌∙◌}
use Rattle.std.proofs.lemmas.Bool.Decides.{nat_tests}
use Rattle.std.proofs.lemmas.List.{append_assoc, take-append-le}
use Rattle.std.proofs.Math.Seq.{take-append-add}
use Rattle.brk_money.specs.Spelling.{Text}
use Rattle.brk_model.specs.Statement.{text_of_lines}
use Rattle.brk_report_lines.specs.Written.{line_with_line_feed}

-- The first `k` bytes of the lines are some of the lines whole and a prefix of the next one.
abbrev pub IsLinesAndPart : List Text → ℕ → Type 0
IsLinesAndPart lines k = (first : List Text) × (next : Text) × (rest : List Text) × (j : ℕ) × (first ++ next ∷ rest ≡ lines)
    × (take k (text_of_lines lines) ≡ text_of_lines first ++ take j (line_with_line_feed next))

within : (n k : ℕ) → nat_le k n ≡ true → k ≤ n
within n k h = grind (arith, nat_tests)

beyond : (n k : ℕ) → nat_le k n ≡ false → k ≡ n + (k - n)
beyond n k h = grind (arith, nat_tests)

pub cut : (line : Text) (lines : List Text) (k : ℕ) → IsLinesAndPart (line ∷ lines) k
cut line [] k = ([], line, [], k, refl, ap (take k) (append-nil (line_with_line_feed line)))
cut line (l ∷ ls) k = go (cut l ls (k - length (line_with_line_feed line))) (nat_le k (length (line_with_line_feed line))) refl
  where
    go : IsLinesAndPart (l ∷ ls) (k - length (line_with_line_feed line)) → (b : Bool) → nat_le k (length (line_with_line_feed line)) ≡ b → IsLinesAndPart (line ∷ l ∷ ls) k
    go more true h = ([], line, l ∷ ls, k, refl, take-append-le k (line_with_line_feed line) (text_of_lines (l ∷ ls)) (within (length (line_with_line_feed line)) k h))
    go more false h = (
      line ∷ more.0,
      more.1,
      more.2,
      more.3,
      ap (λ (ts : List Text). line ∷ ts) more.4,
      ap (λ (n : ℕ). take n (line_with_line_feed line ++ text_of_lines (l ∷ ls))) (beyond (length (line_with_line_feed line)) k h)
          ∙ take-append-add (line_with_line_feed line) (text_of_lines (l ∷ ls)) (k - length (line_with_line_feed line))
          ∙ ap (λ (t : Text). line_with_line_feed line ++ t) more.5 ∙ sym (append_assoc (line_with_line_feed line) (text_of_lines more.0) (take more.3 (line_with_line_feed more.1))),
    )
