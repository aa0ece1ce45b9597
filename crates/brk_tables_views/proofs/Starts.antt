-- The first rows of a walk begin a whole result, so that a property of each result holds for them.
use Rattle.std.proofs.Common.{ℕ, List, [], ◌++◌, map, refl, sym, subst, ◌∙◌, IsTrue}
use Rattle.sqlite_value.specs.Order.{Row}
use Rattle.sqlite_sql.specs.Term.{Term}
use Rattle.sqlite_schema.specs.declared.command.Command.TheVariants.{Select}
use Rattle.sqlite.specs.State.{State, Shown, Begins, IsUnchanged}
use Rattle.sqlite.specs.Clock.{timed}
use Rattle.sqlite.proofs.Callers.{EndsIn, begins_shown}
use Rattle.brk_tables_sql.specs.Desk.{ProgramTables, IsTableAt, TablesSatisfy}
use Rattle.brk_tables_sql.proofs.Lowered.{key_at}
use Rattle.brk_tables_sql.proofs.Asked.{Ask, IsAsked, filter_of, columns_of, asks}
use Rattle.brk_tables_sql.proofs.Effects.{same_value}
use Rattle.brk_tables_sql.proofs.Meant.{meant, known, when_understood}
use Rattle.brk_tables_sql.proofs.Pick.{selection}
use Rattle.brk_tables_sql.proofs.Texts.{read}

-- an open database that nothing is done to
pub still : (s : State) → IsTrue s.is_open → IsUnchanged s s
still s unshut = (record { was_open = unshut; is_open = unshut; now_is = refl; committed_is = refl; mode = refl }, record { changes = refl; last_rowid = refl }, refl)

module _ {W T : Type 0} (desk : ProgramTables W T) (w : W) (text : List ℕ) (ask : Ask) (paging : Term × Term) (is : IsAsked (desk.shape w) text ask paging) (params : Row)
    (s : State) (rows : List Row) (begins : Begins text params s rows) (unshut : IsTrue s.is_open) where
  pub begins_whole : (at tree : ℕ) → IsTableAt s.now.schema (desk.shape w tree) at → (tail : List Row) × Shown text params s s (rows ++ tail)
  unfolding Begins
  begins_whole at tree h =
      let table = desk.shape w tree in
      let c = meant (read text) [] (Select
      (record { lets = []; body = selection table.tree (filter_of table ask.tests) (map (λ o. o.term) (columns_of table ask)) (map (key_at table) ask.by) paging })
      (map (λ o. o.name) (columns_of table ask))) in
      let sure = known s.now.schema text c (when_understood s.now.schema text begins.0 c begins.1.is (asks (desk.shape w) text ask paging is s.now.schema at tree h)) in
      begins_shown text params s s rows begins (still s unshut)
      (λ d db it from. subst (λ k. EndsIn k.command db (timed params k.formats it.now)) (same_value (sym sure.0 ∙ it.is)) tt)

  -- what holds of each answer holds of one with these first rows
  pub tells_start : (P : T → List Row → Type 0) → ((all : List Row) → Shown text params s s all → TablesSatisfy desk (λ t. P t all) s.now)
      → TablesSatisfy desk (λ t. (tail : List Row) × P t (rows ++ tail)) s.now
  tells_start P tells t tree h =
      let whole = begins_whole (h.place w) (tree w) (h.is_table w) in
      (whole.0, tells (rows ++ whole.0) whole.1 t tree h)
