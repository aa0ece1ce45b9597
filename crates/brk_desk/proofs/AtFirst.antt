-- The base of a store at first: without rows, with audited rows, or with the rows that a crash
-- after a run exposed.
use Rattle.brk_model.specs.Form.{has_utf8_texts}
use Rattle.std.proofs.Common.{ℕ, List, [], ◌∷◌, ◌++◌, IsTrue, ap, inl, inr, subst, sym}
use Rattle.std.specs.List.{AllByRecursion}
use Rattle.sqlite_trees.specs.declared.store.Store.{Ghosts}
use Rattle.sqlite.specs.Held.{Held}
use Rattle.brk_model.specs.Adopted.{base_of_tables}
use Rattle.brk_model.specs.Base.{Base, empty_base}
use Rattle.brk_model.specs.Upgraded.{tables_upgraded_from_schema}
use Rattle.brk_model.specs.Run.{Call, Do, Outcome}
use Rattle.brk_model.specs.Tables.{Tables, tables_without_rows}
use Rattle.brk_trade_rows.specs.Schemas.{abstract_schema}
use Rattle.brk_trade_rows.specs.declared.schema.Schema as known
use Rattle.brk_audit_theorems.specs.Passing.{PassesAudit}
use Rattle.brk_trade_books.proofs.Steps.{empty_books, empty_rows}
use Rattle.brk_audit_theorems.specs.Runs.{CallMeetsAuditFormats}
use Rattle.brk_audit_theorems.proofs.SoundRuns.{Both, keyed_both, run_both}
use Rattle.brk_audit_theorems.proofs.SoundSteps.{empty_sound}
use Rattle.brk_store_transactions.specs.Holds.{HoldsRows}
use Rattle.brk_store_transactions.specs.Audited.{Represents}
use Rattle.brk_desk.specs.CrashBases.{CrashMayExposeBase}
use Rattle.brk_desk.proofs.UpgradedRows.{are_upgraded}

pub made_keeps : {S : Type 0} (g : Ghosts S) (store : Held S) → HoldsRows g store tables_without_rows → Represents g store empty_base
made_keeps g store holds = record {
  rows = subst (HoldsRows g store) (sym empty_rows) holds;
  consistent = record { books = empty_books; sound = empty_sound; texts = ap has_utf8_texts empty_rows };
}

-- the rows of whichever schema that passed, upgraded to the third
pub upgraded_keeps : {S : Type 0} (g : Ghosts S) (store : Held S) (schema : known.Schema) (rows : Tables)
    → HoldsRows g store (tables_upgraded_from_schema (abstract_schema schema) rows) → IsTrue (has_utf8_texts rows)
    → PassesAudit (abstract_schema schema) rows → Represents g store (base_of_tables rows)
upgraded_keeps g store schema rows holds texts passes =
    let k = are_upgraded schema rows passes texts in
    record { rows = subst (HoldsRows g store) k.tables holds; consistent = record { books = k.books; sound = k.sound; texts = k.texts } }

-- the calls before one of them, and it
up_to : (earlier : List (ℕ × Call)) (call : ℕ × Call) (later : List (ℕ × Call)) → AllByRecursion CallMeetsAuditFormats (earlier ++ call ∷ later)
    → AllByRecursion CallMeetsAuditFormats earlier × CallMeetsAuditFormats call
up_to [] call later all = (tt, all.0)
up_to (c ∷ cs) call later all = let rest = up_to cs call later all.1 in ((all.0, rest.0), rest.1)

-- whatever may stand is in order and sound
pub stands : (base : Base) (calls : List (ℕ × Call)) (outcomes : List Outcome) (after : Base) → AllByRecursion CallMeetsAuditFormats calls → Both base
    → CrashMayExposeBase base calls outcomes after → Both after
stands base calls outcomes after formed both (inl ran) = run_both base calls outcomes after formed ran both
stands base calls outcomes after formed both (inr way) =
    let parts = up_to way.earlier (way.now, Do way.command way.key) way.later (subst (AllByRecursion CallMeetsAuditFormats) way.calls_are formed) in
    subst Both (sym way.after_is) (keyed_both way.before way.now way.command way.key (run_both base way.earlier way.earlier_outcomes way.before parts.0 way.earlier_run both) parts.1.0 parts.1.1)
