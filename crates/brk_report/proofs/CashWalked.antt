-- The lines that a walk over cash rows writes with the visitor that opens a statement.
use Rattle.std.proofs.Common.{◌≡◌, ℕ, List, [], ◌∷◌, ◌++◌, Option, Result, Ok, Err, map, refl, sym, ap, subst, take, ◌∙◌}
use Rattle.std.specs.Prelude.{nat_lt}
use Rattle.std.specs.List.{FoldsTo}
use Rattle.std.specs.Io.KnownBytes.{Appends}
use Rattle.std.proofs.KnownBytes.{Appends-trans}
use Rattle.std.proofs.lemmas.List.{append_assoc, map-append}
use Rattle.sqlite_trees.specs.declared.store.Store.{Ghosts}
use Rattle.sqlite.specs.Held.{Held, state}
use Rattle.sqlite.specs.State.{HasCleanDisk}
use Rattle.brk_money.specs.Spelling.{Text}
use Rattle.brk_money.specs.declared.fault.CallFault.TheVariants as call
use Rattle.brk_ref.specs.Rows.{abstract_cash_row}
use Rattle.brk_ref.specs.declared.cash_row.CashRow as typed
use Rattle.brk_model.specs.Statement.{text_of_lines}
use Rattle.brk_model.specs.Tables.{CashRow, Tables}
use Rattle.brk_store_transactions.specs.Holds.{HoldsRows}
use Rattle.brk_store.specs.Walked.{WalkPost}
use Rattle.brk_tables_views.specs.declared.walking.WalkError.{WalkError}
use Rattle.brk_tables_views.specs.declared.walking.WalkError.TheVariants.{Failed, Cause}
use Rattle.brk_report_lines.specs.Written.{FailsWithinFirstLines, line_with_line_feed}
use Rattle.brk_io.specs.declared.report_fault.LinesFault.{LinesFault}
use Rattle.brk_io.specs.declared.report_fault.LinesFault.TheVariants.{Desk, Write}
use Rattle.brk_report_lines.proofs.Composed.{appends_none, lines_parts, then_all}
use Rattle.brk_report.specs.CashWalk.{lines_of_cash_row, lines_of_cash_rows, progress_after_cash_row, progress_after_cash_rows}
use Rattle.brk_report.specs.WalkFaults.{fault_of_walk_error}
use Rattle.brk_report.specs.declared.statements.visitors.CashProgress.{CashProgress}
use Rattle.brk_report.proofs.CashLists.{lines_of_cash_rows-append}

-- ---- lines that may end with any line

-- No line is written before the fault `Store`.
pub none_first : (lines : List Text) (a : Option Text) (e : LinesFault) → e ≡ Desk call.Store → FailsWithinFirstLines lines a a e
none_first lines a e is = subst (FailsWithinFirstLines lines a a) (sym is) ([], lines, refl, appends_none a)

-- First lines of `ys` behind the lines `xs`, which are written, are first lines of both.
pub first_behind : (xs ys : List Text) (a b c : Option Text) (e : LinesFault) → Appends a b (text_of_lines xs) → FailsWithinFirstLines ys b c e → FailsWithinFirstLines (xs ++ ys) a c e
first_behind xs ys a b c (Desk f) h w = (xs ++ w.0, w.1, append_assoc xs w.0 w.1 ∙ ap (λ (l : List Text). xs ++ l) w.2, then_all xs w.0 a b c h w.3)
first_behind xs ys a b c Write h k = (
  xs ++ k.0,
  k.1,
  k.2,
  k.3,
  append_assoc xs k.0 (k.1 ∷ k.2) ∙ ap (λ (l : List Text). xs ++ l) k.4,
  subst (Appends a c) (sym (append_assoc (text_of_lines xs) (text_of_lines k.0) (take k.3 (line_with_line_feed k.1)))
      ∙ ap (λ (l : Text). l ++ take k.3 (line_with_line_feed k.1)) (sym (lines_parts xs k.0))) (Appends-trans _ _ _ _ _ h k.5),
)

-- First lines of `xs` are first lines of `xs` and `ys`.
pub first_before : (xs ys : List Text) (a b : Option Text) (e : LinesFault) → FailsWithinFirstLines xs a b e → FailsWithinFirstLines (xs ++ ys) a b e
first_before xs ys a b (Desk f) w = (w.0, w.1 ++ ys, sym (append_assoc w.0 w.1 ys) ∙ ap (λ (l : List Text). l ++ ys) w.2, w.3)
first_before xs ys a b Write h = (h.0, h.1, h.2 ++ ys, h.3, sym (append_assoc h.0 (h.1 ∷ h.2) ys) ∙ ap (λ (l : List Text). l ++ ys) h.4, h.5)

-- ---- the walk

module _ {S V : Type 0} (g : Ghosts S) (old new : Held S) (list : Tables → List CashRow) (takes : V → typed.CashRow → V → Type 0)
    (stops : V → typed.CashRow → LinesFault → V → Type 0) (before after : V)
    (t : Tables) (clean : HasCleanDisk (state g new)) (holds : HoldsRows g old t) (result : Result (Unit {0}) (WalkError LinesFault))
    (walked : WalkPost g old new abstract_cash_row list takes stops before after result)
    (first : V → ℕ) (moved : V → CashProgress) (contents : V → Option Text)
    (writes : (p : V) (x : typed.CashRow) (q : V) → takes p x q → (first q ≡ first p) × (moved q ≡ progress_after_cash_row (nat_lt x.stamp (first p)) (moved p) (abstract_cash_row x))
    × Appends (contents p) (contents q) (text_of_lines (lines_of_cash_row (nat_lt x.stamp (first p)) (moved p) (abstract_cash_row x))))
    (breaks : (p : V) (x : typed.CashRow) (e : LinesFault) (q : V) → stops p x e q
    → FailsWithinFirstLines (lines_of_cash_row (nat_lt x.stamp (first p)) (moved p) (abstract_cash_row x)) (contents p) (contents q) e) where
  taken : (p : V) (xs : List typed.CashRow) (q : V) → FoldsTo takes p xs q
      → Appends (contents p) (contents q) (text_of_lines (lines_of_cash_rows (first p) (moved p) (map abstract_cash_row xs)))
      × (moved q ≡ progress_after_cash_rows (first p) (moved p) (map abstract_cash_row xs)) × (first q ≡ first p)
  taken p [] q h = (subst (λ v. Appends (contents p) (contents v) []) h (appends_none (contents p)), sym (ap moved h), sym (ap first h))
  taken p (x ∷ xs) q h =
      let one = writes p x h.0 h.1 in
      let more = taken h.0 xs q h.2 in
      let rows = map abstract_cash_row xs in
      let row = abstract_cash_row x in
      let step = progress_after_cash_row (nat_lt x.stamp (first p)) (moved p) row in
      let rest : Appends (contents h.0) (contents q) (text_of_lines (lines_of_cash_rows (first p) step rows)) =
      subst (λ (ls : List Text). Appends (contents h.0) (contents q) (text_of_lines ls)) (λ i. lines_of_cash_rows (one.0 i) (one.1 i) rows) more.0 in (
        then_all (lines_of_cash_row (nat_lt x.stamp (first p)) (moved p) row) (lines_of_cash_rows (first p) step rows) _ _ _ one.2 rest,
        more.1 ∙ (λ i. progress_after_cash_rows (one.0 i) (one.1 i) rows),
        more.2 ∙ one.0,
      )

  pub walk_all : (u : Unit {0}) → result ≡ Ok u
      → Appends (contents before) (contents after) (text_of_lines (lines_of_cash_rows (first before) (moved before) (list t)))
      × (moved after ≡ progress_after_cash_rows (first before) (moved before) (list t))
  walk_all u e =
      let h = rw e at (walked.all clean) in
      let f = taken before h.0 after h.1 in
      let same : map abstract_cash_row h.0 ≡ list t = h.2 t holds in
      subst (λ (rows : List CashRow). Appends (contents before) (contents after) (text_of_lines (lines_of_cash_rows (first before) (moved before) rows))
      × (moved after ≡ progress_after_cash_rows (first before) (moved before) rows)) same (f.0, f.1)

  pub walk_first : (stop : WalkError LinesFault) → result ≡ Err stop
      → FailsWithinFirstLines (lines_of_cash_rows (first before) (moved before) (list t)) (contents before) (contents after) (fault_of_walk_error stop)
  walk_first (Failed fault) e =
      let h = rw e at (walked.early clean) in
      let b = h.2 t holds in
      let rows = map abstract_cash_row h.0 in
      let from = moved before in (
        lines_of_cash_rows (first before) from rows,
        lines_of_cash_rows (first before) (progress_after_cash_rows (first before) from rows) b.0,
        sym (lines_of_cash_rows-append (first before) from rows b.0) ∙ ap (lines_of_cash_rows (first before) from) b.1,
        (taken before h.0 after h.1).0,
      )
  walk_first (Cause fault) e =
      let h = rw e at (walked.early clean) in
      let b = h.5 t holds in
      let rows = map abstract_cash_row h.0 in
      let row = abstract_cash_row h.1 in
      let from = moved before in
      let start = first before in
      let f = taken before h.0 h.2 h.3 in
      let here = progress_after_cash_rows start from rows in
      let broke : FailsWithinFirstLines (lines_of_cash_row (nat_lt h.1.stamp start) here row) (contents h.2) (contents after) fault =
      subst (λ (ls : List Text). FailsWithinFirstLines ls (contents h.2) (contents after) fault) (λ i. lines_of_cash_row (nat_lt h.1.stamp (f.2 i)) (f.1 i) row) (breaks h.2 h.1 fault after h.4) in
      let last : FailsWithinFirstLines (lines_of_cash_rows start here (row ∷ [])) (contents h.2) (contents after) fault =
      first_before (lines_of_cash_row (nat_lt h.1.stamp start) here row) [] _ _ fault broke in
      let one = first_behind (lines_of_cash_rows start from rows) (lines_of_cash_rows start here (row ∷ [])) _ _ _ fault f.0 last in
      let rest = lines_of_cash_rows start (progress_after_cash_rows start from (rows ++ row ∷ [])) b.0 in
      let whole = first_before (lines_of_cash_rows start from rows ++ lines_of_cash_rows start here (row ∷ [])) rest _ _ fault one in
      let same : (lines_of_cash_rows start from rows ++ lines_of_cash_rows start here (row ∷ [])) ++ rest ≡ lines_of_cash_rows start from (list t) =
      ap (λ (ls : List Text). ls ++ rest) (sym (lines_of_cash_rows-append start from rows (row ∷ []))) ∙ sym (lines_of_cash_rows-append start from (rows ++ row ∷ []) b.0)
      ∙ ap (λ (rs : List CashRow). lines_of_cash_rows start from (rs ++ b.0)) (sym (map-append abstract_cash_row h.0 (h.1 ∷ []))) ∙ ap (lines_of_cash_rows start from) b.1 in
      subst (λ (ls : List Text). FailsWithinFirstLines ls (contents before) (contents after) fault) same whole
