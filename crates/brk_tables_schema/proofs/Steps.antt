-- The effect of an insertion and of the update of the last stamp, and the result of the read of
-- DESK.
use Rattle.std.proofs.Common.{◌≡◌, ◌≢◌, ℕ, pos, List, [], ◌∷◌, map, true, ◌==◌, Some, refl, sym, ap, subst}
use Rattle.sqlite_value.specs.declared.value.Value.TheVariants.{Null}
use Rattle.sqlite_value.specs.Order.{Row, column}
use Rattle.sqlite_tied.proofs.RuleLemmas.{and_true}
use Rattle.sqlite_keyed.specs.Lists.{insert_sorted}
use Rattle.sqlite.specs.Effect.{Database}
use Rattle.sqlite.specs.State.{State, Shown}
use Rattle.brk_model.specs.Schemas.{third_schema}
use Rattle.brk_model.specs.Tables.{Tables}
use Rattle.brk_model.specs.Keys.{insert_row_by_key}
use Rattle.brk_tables_sql.specs.Desk.{HasTables, ChangesTablesBy, TablesSatisfy}
use Rattle.brk_tables_sql.specs.Model.{ExecutesStatement}
use Rattle.brk_tables_sql.proofs.Texts.{read}
use Rattle.brk_tables_sql.proofs.Values.{cast_int, cast_null, cast_whole}
use Rattle.brk_tables_sql.proofs.Writes.{Place, updates_as}
use Rattle.brk_tables_sql.proofs.Told.{told_rising}
use Rattle.brk_tables_schema.specs.Cells.{DeskRow, natural_as_value, desk_row_cells}
use Rattle.brk_tables_schema.specs.Desk.{DeskTable, TheDesk, RecordOfTable, desk_tables, desk_rows, rule_rows, desk_key, primary_key_of_record, ordering_by_primary_key, rows_of_table}
use Rattle.brk_trade_rows.specs.Changes.{tables_with_last_stamp}
use Rattle.brk_tables_schema.proofs.Order.{inserted, key_total}
use Rattle.brk_tables_schema.proofs.Tests.{same_number}
use Rattle.brk_tables_schema.proofs.Wide.{wide, wide_of, widened, narrowed}
use Rattle.brk_tables_schema.proofs.Places.{the_desk}
use Rattle.brk_tables_schema.proofs.SetLast
use Rattle.brk_tables_schema.proofs.DeskRows

-- ---- changes

-- a row is put where its key goes
pub added : (w : DeskTable) (place : Place desk_tables w) (x : RecordOfTable w) (old new : Database)
    → ChangesTablesBy desk_tables (λ t. place.put (insert_sorted (ordering_by_primary_key w) x (rows_of_table w t)) t) old new
    → ChangesTablesBy desk_tables (λ t. place.put (insert_row_by_key (primary_key_of_record w) x (rows_of_table w t)) t) old new
added w place x old new turns = λ t tree h. let turned = turns t tree h in
    (subst (λ xs. HasTables desk_tables (place.put xs t) tree new) (sym (inserted (primary_key_of_record w) x (rows_of_table w t))) turned.0, turned.1)

pub sets_last : (old new : State) (stamp : ℕ) → ExecutesStatement SetLast.statement (natural_as_value stamp ∷ natural_as_value 1 ∷ []) old new
    → ChangesTablesBy desk_tables (tables_with_last_stamp stamp) old.now new.now
sets_last old new stamp ran = λ t tree h.
    let turned = updates_as wide TheDesk the_desk SetLast.statement (natural_as_value stamp ∷ natural_as_value 1 ∷ []) (read SetLast.statement) SetLast.terms
    SetLast.project (λ (r : DeskRow). r.id == 1)
    (λ tree r x e. let a : column r 0 ≡ natural_as_value x.id = cc in rw (a, same_number x.id 1) (and_true _)) (λ r. refl) SetLast.understood_as
    (λ r. column r 0 ∷ Null ∷ column r 2 ∷ natural_as_value stamp ∷ []) (λ (r : DeskRow). record r { last = Some stamp }) (λ x y. refl) (λ x y. refl) (λ r. refl)
    (λ tree r x whole e. let a : column r 2 ≡ natural_as_value x.schema = cc in
    rw (a, cast_int (pos x.schema), cast_int (pos stamp), cast_null) (ap (λ v. v ∷ Null ∷ natural_as_value x.schema ∷ natural_as_value stamp ∷ []) (cast_whole (column r 0) whole)))
    (λ tree r x e. let a : column r 0 ≡ natural_as_value x.id = cc in let b : column r 2 ≡ natural_as_value x.schema = cc in rw (a, b) refl) old new ran.0 ran.1
    (wide_of third_schema t) tree (widened third_schema tree old.now t h) in
    (narrowed third_schema tree new.now (desk_rows third_schema (Some stamp)) (rule_rows t.rule) t (tables_with_last_stamp stamp t) refl refl (λ w other _. others w other t) turned.0, turned.1)
  where
    others : (w : DeskTable) → w ≢ TheDesk → (t : Tables) → rows_of_table w (tables_with_last_stamp stamp t) ≡ rows_of_table w t
    others TheDesk other t = absurd (other refl)
    others w other t = refl

-- ---- reads

pub tells_last : (old new : State) (rows : List Row) → Shown DeskRows.statement [] old new rows → TablesSatisfy desk_tables (λ t. rows ≡ map desk_row_cells (desk_rows third_schema t.last)) old.now
tells_last old new rows shown = λ t tree h.
    told_rising desk_tables TheDesk DeskRows.statement DeskRows.ask DeskRows.paging DeskRows.is_asked []
    (λ _. true) (λ tree x. refl)
    desk_row_cells (λ x. refl) (ordering_by_primary_key TheDesk) (key_total desk_key) (λ tree x y. refl) old new rows shown (λ x y. refl) t tree h
