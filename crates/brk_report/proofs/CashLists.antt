-- The lines of a walk over the cash rows of an account are the line of the opening amount and those
-- of the rows of the days.
use Rattle.std.proofs.Common.{◌≡◌, ℕ, ◌+◌, ℤ, ◌+ℤ◌, true, false, List, [], ◌∷◌, ◌++◌, append-nil, arith, codes, length, map, refl, sym, ap, ◌∙◌}
use Rattle.std.specs.Prelude.{nat_lt}
use Rattle.std.specs.List.{AllByRecursion}
use Rattle.std.proofs.lemmas.List.{append_assoc}
use Rattle.brk_money.specs.Spelling.{Text}
use Rattle.brk_model.specs.Lists.{total_by}
use Rattle.brk_model.specs.Statement.{amount_line, cash_row_line, cash_row_total}
use Rattle.brk_model.specs.Tables.{CashRow}
use Rattle.brk_report.specs.CashWalk.{lines_of_cash_row, lines_of_cash_rows, opening_line_unless_written, progress_after_cash_row, progress_after_cash_rows, progress_before_cash_rows}
use Rattle.brk_report.specs.declared.statements.visitors.CashProgress.{CashProgress}
use lib.IntN.{+ℤ_assoc, +ℤ_idr}

-- The lines of all rows are the lines of the first, then the lines of the further rows.
pub lines_of_cash_rows-append : (first : ℕ) (p : CashProgress) (xs ys : List CashRow)
    → lines_of_cash_rows first p (xs ++ ys) ≡ lines_of_cash_rows first p xs ++ lines_of_cash_rows first (progress_after_cash_rows first p xs) ys
lines_of_cash_rows-append first p [] ys = refl
lines_of_cash_rows-append first p (x ∷ xs) ys =
    let q = progress_after_cash_row (nat_lt x.stamp first) p x in
    ap (λ (l : List Text). lines_of_cash_row (nat_lt x.stamp first) p x ++ l) (lines_of_cash_rows-append first q xs ys)
    ∙ sym (append_assoc (lines_of_cash_row (nat_lt x.stamp first) p x) (lines_of_cash_rows first q xs) (lines_of_cash_rows first (progress_after_cash_rows first q xs) ys))

progress_after_cash_rows-append : (first : ℕ) (p : CashProgress) (xs ys : List CashRow)
    → progress_after_cash_rows first p (xs ++ ys) ≡ progress_after_cash_rows first (progress_after_cash_rows first p xs) ys
progress_after_cash_rows-append first p [] ys = refl
progress_after_cash_rows-append first p (x ∷ xs) ys = progress_after_cash_rows-append first (progress_after_cash_row (nat_lt x.stamp first) p x) xs ys

-- The progress after the line of the opening amount and `n` lines of rows.
abbrev opened : ℕ → ℤ → CashProgress
opened n total = record { is_opened = true; count = n; total = total }

-- Each row is before the stamp `first`, or none is.
abbrev pub AreBefore : ℕ → List CashRow → Type 0
AreBefore first rows = AllByRecursion (λ r. nat_lt r.stamp first ≡ true) rows

abbrev pub AreNotBefore : ℕ → List CashRow → Type 0
AreNotBefore first rows = AllByRecursion (λ r. nat_lt r.stamp first ≡ false) rows

-- ---- rows before the first stamp

early_lines : (first : ℕ) (p : CashProgress) (rows : List CashRow) → AreBefore first rows → lines_of_cash_rows first p rows ≡ []
early_lines first p [] h = refl
early_lines first p (x ∷ rows) h =
    (λ i. lines_of_cash_row (h.0 i) p x ++ lines_of_cash_rows first (progress_after_cash_row (h.0 i) p x) rows) ∙ early_lines first (progress_after_cash_row true p x) rows h.1

early_progress : (first : ℕ) (z : ℤ) (rows : List CashRow) → AreBefore first rows
    → progress_after_cash_rows first (progress_before_cash_rows z) rows ≡ progress_before_cash_rows (z +ℤ cash_row_total rows)
unfolding total_by
early_progress first z [] h = ap progress_before_cash_rows (sym (+ℤ_idr z))
early_progress first z (x ∷ rows) h =
    (λ i. progress_after_cash_rows first (progress_after_cash_row (h.0 i) (progress_before_cash_rows z) x) rows)
    ∙ early_progress first (z +ℤ x.amount) rows h.1
    ∙ ap progress_before_cash_rows (+ℤ_assoc z x.amount (cash_row_total rows))

-- ---- rows from the first stamp on

late_lines : (first n : ℕ) (z : ℤ) (rows : List CashRow) → AreNotBefore first rows → lines_of_cash_rows first (opened n z) rows ≡ map cash_row_line rows
late_lines first n z [] h = refl
late_lines first n z (x ∷ rows) h =
    (λ i. lines_of_cash_row (h.0 i) (opened n z) x ++ lines_of_cash_rows first (progress_after_cash_row (h.0 i) (opened n z) x) rows)
    ∙ ap (λ (l : List Text). cash_row_line x ∷ l) (late_lines first (n + 1) (z +ℤ x.amount) rows h.1)

late_progress : (first n : ℕ) (z : ℤ) (rows : List CashRow) → AreNotBefore first rows → progress_after_cash_rows first (opened n z) rows ≡ opened (n + length rows) (z +ℤ cash_row_total rows)
unfolding total_by
late_progress first n z [] h =
    let none : n ≡ n + 0 = omega arith in
    λ i. opened (none i) (sym (+ℤ_idr z) i)
late_progress first n z (x ∷ rows) h =
    let more : n + 1 + length rows ≡ n + length (x ∷ rows) = omega arith in
    (λ i. progress_after_cash_rows first (progress_after_cash_row (h.0 i) (opened n z) x) rows)
    ∙ late_progress first (n + 1) (z +ℤ x.amount) rows h.1
    ∙ (λ i. opened (more i) (+ℤ_assoc z x.amount (cash_row_total rows) i))

-- ---- rows before the first stamp, and the others after them

module _ (first : ℕ) (z : ℤ) where
  -- The lines of the rows, and the line of the opening amount if they have none.
  abbrev pub lines_with_opening : CashProgress → List CashRow → List Text
  lines_with_opening p rows =
      lines_of_cash_rows first p rows ++ opening_line_unless_written (progress_after_cash_rows first p rows).is_opened (progress_after_cash_rows first p rows).total

  opening_and_late : (start : ℤ) (late : List CashRow) → AreNotBefore first late
      → lines_with_opening (progress_before_cash_rows start) late ≡ amount_line (codes "Opening") start ∷ map cash_row_line late
  opening_and_late start [] h = refl
  opening_and_late start (x ∷ late) h =
      let after = opened 1 (start +ℤ x.amount) in
      (λ i. (lines_of_cash_row (h.0 i) (progress_before_cash_rows start) x ++ lines_of_cash_rows first (progress_after_cash_row (h.0 i) (progress_before_cash_rows start) x) late)
      ++ opening_line_unless_written (progress_after_cash_rows first (progress_after_cash_row (h.0 i) (progress_before_cash_rows start) x) late).is_opened
      (progress_after_cash_rows first (progress_after_cash_row (h.0 i) (progress_before_cash_rows start) x) late).total)
      ∙ (λ i. (amount_line (codes "Opening") start ∷ cash_row_line x ∷ late_lines first 1 (start +ℤ x.amount) late h.1 i)
      ++ opening_line_unless_written (late_progress first 1 (start +ℤ x.amount) late h.1 i).is_opened (late_progress first 1 (start +ℤ x.amount) late h.1 i).total)
      ∙ append-nil (amount_line (codes "Opening") start ∷ cash_row_line x ∷ map cash_row_line late)

  late_end : (start : ℤ) (late : List CashRow) → AreNotBefore first late
      → ((progress_after_cash_rows first (progress_before_cash_rows start) late).count ≡ length late)
      × ((progress_after_cash_rows first (progress_before_cash_rows start) late).total ≡ start +ℤ cash_row_total late)
  unfolding total_by
  late_end start [] h = (refl, sym (+ℤ_idr start))
  late_end start (x ∷ late) h =
      let end : progress_after_cash_rows first (progress_before_cash_rows start) (x ∷ late) ≡ opened (1 + length late) (start +ℤ x.amount +ℤ cash_row_total late) =
      (λ i. progress_after_cash_rows first (progress_after_cash_row (h.0 i) (progress_before_cash_rows start) x) late) ∙ late_progress first 1 (start +ℤ x.amount) late h.1 in
      let more : 1 + length late ≡ length (x ∷ late) = omega arith in
      (ap (λ (p : CashProgress). p.count) end ∙ more, ap (λ (p : CashProgress). p.total) end ∙ +ℤ_assoc start x.amount (cash_row_total late))

  module _ (early late : List CashRow) (before : AreBefore first early) (after : AreNotBefore first late) where
    -- The progress after the rows that are before the first stamp.
    risen : progress_after_cash_rows first (progress_before_cash_rows z) (early ++ late) ≡ progress_after_cash_rows first (progress_before_cash_rows (z +ℤ cash_row_total early)) late
    risen = progress_after_cash_rows-append first (progress_before_cash_rows z) early late ∙ ap (λ p. progress_after_cash_rows first p late) (early_progress first z early before)

    pub lines_split : lines_with_opening (progress_before_cash_rows z) (early ++ late) ≡ amount_line (codes "Opening") (z +ℤ cash_row_total early) ∷ map cash_row_line late
    lines_split =
        let lines : lines_of_cash_rows first (progress_before_cash_rows z) (early ++ late) ≡ lines_of_cash_rows first (progress_before_cash_rows (z +ℤ cash_row_total early)) late =
        lines_of_cash_rows-append first (progress_before_cash_rows z) early late
        ∙ (λ i. early_lines first (progress_before_cash_rows z) early before i ++ lines_of_cash_rows first (early_progress first z early before i) late) in
        (λ i. lines i ++ opening_line_unless_written (risen i).is_opened (risen i).total) ∙ opening_and_late (z +ℤ cash_row_total early) late after

    pub count_split : (progress_after_cash_rows first (progress_before_cash_rows z) (early ++ late)).count ≡ length late
    count_split = ap (λ (p : CashProgress). p.count) risen ∙ (late_end (z +ℤ cash_row_total early) late after).0

    pub total_split : (progress_after_cash_rows first (progress_before_cash_rows z) (early ++ late)).total ≡ z +ℤ cash_row_total early +ℤ cash_row_total late
    total_split = ap (λ (p : CashProgress). p.total) risen ∙ (late_end (z +ℤ cash_row_total early) late after).1
