-- The lines that a walk has written with a visitor that keeps a running total.
use Rattle.std.proofs.Common.{◌≡◌, ℕ, ◌+◌, ℤ, ◌+ℤ◌, List, [], ◌∷◌, ◌++◌, Option, Result, Ok, Err, length, map, sym, ap, subst, ◌∙◌, arith}
use Rattle.std.specs.List.{FoldsTo}
use Rattle.std.specs.Io.KnownBytes.{Appends}
use Rattle.std.proofs.KnownBytes.{Appends-trans}
use Rattle.std.proofs.lemmas.List.{map-append}
use Rattle.sqlite_trees.specs.declared.store.Store.{Ghosts}
use Rattle.sqlite.specs.Held.{Held, state}
use Rattle.sqlite.specs.State.{HasCleanDisk}
use Rattle.brk_money.specs.Spelling.{Text}
use Rattle.brk_model.specs.Statement.{text_of_lines}
use Rattle.brk_model.specs.Tables.{Tables}
use Rattle.brk_model_explain.specs.Running.{lines_with_running_total}
use Rattle.brk_store_transactions.specs.Holds.{HoldsRows}
use Rattle.brk_store.specs.Walked.{WalkPost}
use Rattle.brk_tables_views.specs.declared.walking.WalkError.{WalkError}
use Rattle.brk_tables_views.specs.declared.walking.WalkError.TheVariants.{Failed, Cause}
use Rattle.brk_report_lines.specs.Written.{FailsWithinLines, FailsWithinFirstLines, line_with_line_feed}
use Rattle.brk_io.specs.declared.report_fault.LinesFault.{LinesFault}
use Rattle.brk_report_lines.proofs.Composed.{appends_none, breaks_before, breaks_behind}
use Rattle.brk_report.specs.WalkFaults.{fault_of_walk_error}
use Rattle.brk_explain_columns.proofs.RunningRows.{rows_parts, total_after}
use Rattle.brk_report.proofs.Section.{weaker}

module _ {S X M V : Type 0} (g : Ghosts S) (old new : Held S) (of : X → M) (list : Tables → List M) (takes : V → X → V → Type 0) (stops : V → X → LinesFault → V → Type 0) (before after : V)
    (t : Tables) (clean : HasCleanDisk (state g new)) (holds : HoldsRows g old t) (result : Result (Unit {0}) (WalkError LinesFault))
    (walked : WalkPost g old new of list takes stops before after result)
    (amount : M → ℤ) (line : M → ℤ → Text) (contents : V → Option Text) (count : V → ℕ) (total : V → ℤ)
    (writes : (p : V) (x : X) (q : V) → takes p x q → Appends (contents p) (contents q) (line_with_line_feed (line (of x) (total p +ℤ amount (of x))))
    × (count q ≡ count p + 1) × (total q ≡ total p +ℤ amount (of x)))
    (breaks : (p : V) (x : X) (e : LinesFault) (q : V) → stops p x e q → FailsWithinLines (line (of x) (total p +ℤ amount (of x)) ∷ []) (contents p) (contents q) e) where
  abbrev rows : ℤ → List M → List Text
  rows from ms = lines_with_running_total amount line from ms

  taken : (p : V) (xs : List X) (q : V) → FoldsTo takes p xs q
      → Appends (contents p) (contents q) (text_of_lines (rows (total p) (map of xs))) × (count q ≡ count p + length (map of xs)) × (total q ≡ total_after amount (total p) (map of xs))
  taken p [] q h = (subst (λ v. Appends (contents p) (contents v) []) h (appends_none (contents p)), omega (arith, ap count h), sym (ap total h))
  taken p (x ∷ xs) q h =
      let one = writes p x h.0 h.1 in
      let more = taken h.0 xs q h.2 in (
        Appends-trans _ _ _ _ _ one.0 (subst (λ (z : ℤ). Appends (contents h.0) (contents q) (text_of_lines (rows z (map of xs)))) one.2 more.0),
        omega (arith, one.1, more.1),
        more.2 ∙ ap (λ (z : ℤ). total_after amount z (map of xs)) one.2,
      )

  pub rows_all : (u : Unit {0}) → result ≡ Ok u → count before ≡ 0 → Appends (contents before) (contents after) (text_of_lines (rows (total before) (list t))) × (count after ≡ length (list t))
  rows_all u e none =
      let h = rw e at (walked.all clean) in
      let f = taken before h.0 after h.1 in
      let same : map of h.0 ≡ list t = h.2 t holds in
      (subst (λ ms. Appends (contents before) (contents after) (text_of_lines (rows (total before) ms))) same f.0, omega (arith, f.1, none, ap length same))

  pub rows_first : (stop : WalkError LinesFault) → result ≡ Err stop → FailsWithinFirstLines (rows (total before) (list t)) (contents before) (contents after) (fault_of_walk_error stop)
  rows_first (Failed fault) e =
      let h = rw e at (walked.early clean) in
      let b = h.2 t holds in
      let ms = map of h.0 in (
        rows (total before) ms,
        rows (total_after amount (total before) ms) b.0,
        sym (rows_parts amount line (total before) ms b.0)
            ∙ ap (rows (total before)) b.1,
        (taken before h.0 after h.1).0,
      )
  rows_first (Cause fault) e =
      let h = rw e at (walked.early clean) in
      let b = h.5 t holds in
      let ms = map of h.0 in
      let m = of h.1 in
      let f = taken before h.0 h.2 h.3 in
      let here = total_after amount (total before) ms in
      let last : FailsWithinLines (line m (here +ℤ amount m) ∷ []) (contents h.2) (contents after) fault =
      subst (λ (z : ℤ). FailsWithinLines (line m (z +ℤ amount m) ∷ []) (contents h.2) (contents after) fault) f.2 (breaks h.2 h.1 fault after h.4) in
      let one = breaks_behind (rows (total before) ms) (line m (here +ℤ amount m) ∷ []) _ _ _ fault f.0 last in
      let rest = rows (total_after amount (total before) (ms ++ m ∷ [])) b.0 in
      let whole = breaks_before (rows (total before) ms ++ line m (here +ℤ amount m) ∷ []) rest _ _ fault one in
      let same : (rows (total before) ms ++ line m (here +ℤ amount m) ∷ []) ++ rest ≡ rows (total before) (list t) =
      ap (λ l. l ++ rest) (sym (rows_parts amount line (total before) ms (m ∷ []))) ∙ sym (rows_parts amount line (total before) (ms ++ m ∷ []) b.0)
      ∙ ap (λ l. rows (total before) (l ++ b.0)) (sym (map-append of h.0 (h.1 ∷ []))) ∙ ap (rows (total before)) b.1 in
      weaker (rows (total before) (list t)) (contents before) (contents after) fault (subst (λ ls. FailsWithinLines ls (contents before) (contents after) fault) same whole)
