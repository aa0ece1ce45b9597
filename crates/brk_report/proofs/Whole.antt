-- The parts of a statement make up the specified statement, and the refusals are the specified
-- ones.
use Rattle.std.proofs.Common.{◌≡◌, ℕ, ◌+ℤ◌, ℤ, Bool, true, false, List, [], ◌∷◌, ◌++◌, Option, Some, None, Ok, Err, codes, decimal, length, map, find, ◌==◌, refl, sym, ap, ◌∙◌, inr}
use Rattle.std.specs.Prelude.{nat_lt}
use Rattle.std.specs.Io.KnownBytes.{Appends}
use Rattle.std.proofs.lemmas.Bool.{eqb-true}
use Rattle.std.proofs.lemmas.List.{append_assoc}
use Rattle.brk_money.specs.Spelling.{Text}
use Rattle.brk_money.specs.declared.refusal.Refusal.TheVariants.{BadText, NoAccount}
use Rattle.brk_model.specs.Joins.{account_row_with_id}
use Rattle.brk_model.specs.PositionView.{market_value_of_account_row}
use Rattle.brk_model.specs.Statement.{amount_line, cash_move_rows_before_day, sorted_cash_rows_of_account, cash_row_line, cash_row_total}
use Rattle.brk_model.specs.Statement.{cash_move_rows_within_days, text_of_lines, lot_line, holding_rows_of_account, statement, statement_lines}
use Rattle.brk_model.specs.Tables.{AccountRow, Tables}
use Rattle.brk_desk_queries.specs.declared.statement_head.Head.{Head}
use Rattle.brk_report.specs.StatementParts.{all_statement_lines, statement_header_lines}
use Rattle.brk_report.specs.StatementOutput.{AreStatementLines, WritesStatement}
use Rattle.brk_io.specs.Faults.{report_fault_of_lines_fault}
use Rattle.brk_report_lines.specs.Written.{FailsWithinLines}
use Rattle.brk_io.specs.declared.report_fault.LinesFault.{LinesFault}
use Rattle.brk_io.specs.declared.report_fault.LinesFault.TheVariants.{Desk, Write}
use Rattle.brk_desk_queries.specs.Heads.{IsStatementHeadOfAccount}
use Rattle.brk_desk.proofs.Asked.{is_call_fault}

pub passes_found : {X : Type 0} (p : X → Bool) (xs : List X) (x : X) → find p xs ≡ Some x → p x ≡ true
passes_found p [] x e = absurd (let f = e in cc)
passes_found p (y ∷ ys) x e = go (passes_found p ys x) (p y) refl
  where
    go : (find p ys ≡ Some x → p x ≡ true) → (b : Bool) → p y ≡ b → p x ≡ true
    go more true k = let f : Some y ≡ Some x = rw k at e in let same : y ≡ x = cc in ap p (sym same) ∙ k
    go more false k = more (rw k at e)

pub lines_whole : (t : Tables) (account : ℕ) (head : Head) (from to : ℕ) (a : AccountRow) → account_row_with_id t account ≡ Some a → head.name ≡ a.name
    → head.opening ≡ a.opening → head.holdings ≡ market_value_of_account_row t a
    → all_statement_lines t account head from to ≡ statement_lines t a from to (sorted_cash_rows_of_account t account)
lines_whole t account head from to a found name opening holdings =
    let id : a.id ≡ account = eqb-true a.id account (passes_found (λ (r : AccountRow). r.id == account) t.accounts a found) in
    let rows = cash_move_rows_within_days from to (sorted_cash_rows_of_account t account) in
    let before = cash_row_total (cash_move_rows_before_day from (sorted_cash_rows_of_account t account)) in
    let parts : ℕ → Text → ℤ → ℤ → List Text =
    λ n name opening holdings.
    statement_header_lines n name from to ++ amount_line (codes "Opening") (opening +ℤ before)
    ∷ ((map cash_row_line rows ++ (amount_line (codes "Closing") (opening +ℤ before +ℤ cash_row_total rows) ∷ map lot_line (holding_rows_of_account t n)))
    ++ (amount_line (codes "Holdings") holdings ∷ (codes "Cash rows " ++ decimal (length rows) ++ codes ", lots " ++ decimal (length (holding_rows_of_account t n))) ∷ [])) in
    let first = amount_line (codes "Opening") (head.opening +ℤ before) in
    let closing = amount_line (codes "Closing") (head.opening +ℤ before +ℤ cash_row_total rows) in
    let lots = map lot_line (holding_rows_of_account t account) in
    let end = amount_line (codes "Holdings") head.holdings ∷ (codes "Cash rows " ++ decimal (length rows) ++ codes ", lots " ++ decimal (length (holding_rows_of_account t account))) ∷ [] in
    ap (λ (l : List Text). statement_header_lines account head.name from to ++ first ∷ l)
    (append_assoc (map cash_row_line rows) (closing ∷ []) (lots ++ end) ∙ sym (append_assoc (map cash_row_line rows) (closing ∷ lots) end))
    ∙ (λ i. parts (sym id i) (name i) (opening i) (holdings i))

pub statement_is : (t : Tables) (account from to : ℕ) (lines : List Text) → AreStatementLines t account from to lines → statement t account from to ≡ Ok (text_of_lines lines)
unfolding statement
statement_is t account from to lines h =
    let id : h.1.0.id ≡ account = eqb-true h.1.0.id account (passes_found (λ (r : AccountRow). r.id == account) t.accounts h.1.0 h.1.1) in
    rw (h.0, h.1.1, h.1.2) (ap (λ (n : ℕ). Ok (text_of_lines (statement_lines t h.1.0 from to (sorted_cash_rows_of_account t n)))) id)

pub refused_days : (t : Tables) (account from to : ℕ) → nat_lt to from ≡ true → statement t account from to ≡ Err BadText
unfolding statement
refused_days t account from to h = rw h refl

pub refused_account : (t : Tables) (account from to : ℕ) → nat_lt to from ≡ false → account_row_with_id t account ≡ None → statement t account from to ≡ Err NoAccount
unfolding statement
refused_account t account from to h none = rw (h, none) refl

-- ---- with the head that was read

module _ (t : Tables) (account : ℕ) (head : Head) (from to : ℕ) (days : nat_lt to from ≡ false) (is_head : IsStatementHeadOfAccount account (Some head) t) (a b : Option Text) where
  are_lines : AreStatementLines t account from to (all_statement_lines t account head from to)
  are_lines = (days, (is_head.0, is_head.1, lines_whole t account head from to is_head.0 is_head.1 is_head.2 is_head.3 is_head.4))

  pub states_all : Appends a b (text_of_lines (all_statement_lines t account head from to)) → WritesStatement t account from to a b (Ok tt)
  states_all h = (text_of_lines (all_statement_lines t account head from to), statement_is t account from to (all_statement_lines t account head from to) are_lines, h)

  pub states_fault : (e : LinesFault) → FailsWithinLines (all_statement_lines t account head from to) a b e → WritesStatement t account from to a b (Err (report_fault_of_lines_fault e))
  states_fault (Desk f) h = (is_call_fault f, inr (all_statement_lines t account head from to, are_lines, h))
  states_fault Write h = (all_statement_lines t account head from to, are_lines, h)
