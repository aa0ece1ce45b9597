-- The lines and the count of a walk with a visitor that writes lines, and the fault that ends it.
use Rattle.std.proofs.Common.{◌≡◌, ℕ, ◌+◌, List, [], ◌∷◌, ◌++◌, Option, Result, Ok, Err, length, map, refl, sym, ap, subst, ◌∙◌, arith}
use Rattle.std.specs.List.{FoldsTo}
use Rattle.std.specs.Io.KnownBytes.{Appends}
use Rattle.std.proofs.KnownBytes.{Appends-trans}
use Rattle.sqlite_trees.specs.declared.store.Store.{Ghosts}
use Rattle.sqlite.specs.Held.{Held, state}
use Rattle.sqlite.specs.State.{HasCleanDisk}
use Rattle.brk_money.specs.Spelling.{Text}
use Rattle.brk_model.specs.Statement.{text_of_lines}
use Rattle.brk_model.specs.Tables.{Tables}
use Rattle.brk_store_transactions.specs.Holds.{HoldsRows}
use Rattle.brk_store.specs.Walked.{WalkPost}
use Rattle.brk_tables_views.specs.declared.walking.WalkError.{WalkError}
use Rattle.brk_tables_views.specs.declared.walking.WalkError.TheVariants.{Failed, Cause}
use Rattle.brk_report_lines.specs.Written.{FailsWithinLines, FailsWithinFirstLines, line_with_line_feed}
use Rattle.brk_io.specs.declared.report_fault.LinesFault.{LinesFault}
use Rattle.brk_io.specs.declared.report_fault.LinesFault.TheVariants.{Desk, Write}
use Rattle.brk_report_lines.proofs.Composed.{appends_none, breaks_before, breaks_behind}
use Rattle.brk_report.specs.WalkFaults.{fault_of_walk_error}

map_parts : {X Y : Type 0} (f : X → Y) (xs ys : List X) → map f (xs ++ ys) ≡ map f xs ++ map f ys
map_parts f [] ys = refl
map_parts f (x ∷ xs) ys = ap (λ l. f x ∷ l) (map_parts f xs ys)

-- a part that may end with any line is one that may have all its lines written
pub weaker : (lines : List Text) (a b : Option Text) (e : LinesFault) → FailsWithinLines lines a b e → FailsWithinFirstLines lines a b e
weaker lines a b (Desk f) h = (h.0, h.1 ∷ h.2, h.3, h.4)
weaker lines a b Write h = h

module _ {S X M V : Type 0} (g : Ghosts S) (old new : Held S) (of : X → M) (list : Tables → List M) (takes : V → X → V → Type 0) (stops : V → X → LinesFault → V → Type 0) (before after : V)
    (t : Tables) (clean : HasCleanDisk (state g new)) (holds : HoldsRows g old t) (result : Result (Unit {0}) (WalkError LinesFault))
    (walked : WalkPost g old new of list takes stops before after result) where
  -- ---- lines

  module _ (line : M → Text) (contents : V → Option Text) (count : V → ℕ)
      (writes : (p : V) (x : X) (q : V) → takes p x q → Appends (contents p) (contents q) (line_with_line_feed (line (of x))) × (count q ≡ count p + 1))
      (breaks : (p : V) (x : X) (e : LinesFault) (q : V) → stops p x e q → FailsWithinLines (line (of x) ∷ []) (contents p) (contents q) e) where
    lines_taken : (p : V) (xs : List X) (q : V) → FoldsTo takes p xs q → Appends (contents p) (contents q) (text_of_lines (map line (map of xs))) × (count q ≡ count p + length (map of xs))
    lines_taken p [] q h = (subst (λ v. Appends (contents p) (contents v) []) h (appends_none (contents p)), omega (arith, ap count h))
    lines_taken p (x ∷ xs) q h =
        let one = writes p x h.0 h.1 in
        let more = lines_taken h.0 xs q h.2 in
        (Appends-trans _ _ _ _ _ one.0 more.0, omega (arith, one.1, more.1))

    pub written_all : (u : Unit {0}) → result ≡ Ok u → count before ≡ 0 → Appends (contents before) (contents after) (text_of_lines (map line (list t))) × (count after ≡ length (list t))
    written_all u e none =
        let h = rw e at (walked.all clean) in
        let f = lines_taken before h.0 after h.1 in
        let same : map of h.0 ≡ list t = h.2 t holds in
        (subst (λ ms. Appends (contents before) (contents after) (text_of_lines (map line ms))) same f.0, omega (arith, f.1, none, ap length same))

    pub written_first : (stop : WalkError LinesFault) → result ≡ Err stop → FailsWithinFirstLines (map line (list t)) (contents before) (contents after) (fault_of_walk_error stop)
    written_first (Failed fault) e =
        let h = rw e at (walked.early clean) in
        let b = h.2 t holds in
        (map line (map of h.0), map line b.0, sym (map_parts line (map of h.0) b.0) ∙ ap (map line) b.1, (lines_taken before h.0 after h.1).0)
    written_first (Cause fault) e =
        let h = rw e at (walked.early clean) in
        let b = h.5 t holds in
        let one = breaks_behind (map line (map of h.0)) (line (of h.1) ∷ []) _ _ _ fault (lines_taken before h.0 h.2 h.3).0 (breaks h.2 h.1 fault after h.4) in
        let whole = breaks_before (map line (map of h.0) ++ line (of h.1) ∷ []) (map line b.0) _ _ fault one in
        let same : (map line (map of h.0) ++ line (of h.1) ∷ []) ++ map line b.0 ≡ map line (list t) =
        ap (λ l. l ++ map line b.0) (sym (map_parts line (map of h.0) (of h.1 ∷ [])) ∙ ap (map line) (sym (map_parts of h.0 (h.1 ∷ []))))
        ∙ sym (map_parts line (map of (h.0 ++ h.1 ∷ [])) b.0) ∙ ap (map line) b.1 in
        weaker (map line (list t)) (contents before) (contents after) fault (subst (λ ls. FailsWithinLines ls (contents before) (contents after) fault) same whole)
