-- The effect of the insertion into KEPT, and the result of its read.
use Rattle.std.proofs.Common.{◌≡◌, ℕ, pos, List, [], ◌∷◌, map, filter, ◌==◌, ◌&&◌, refl}
use Rattle.std.specs.Prelude.{bytes_eq}
use Rattle.sqlite_value.specs.declared.value.Value.TheVariants.{Null, Text as Words}
use Rattle.sqlite_value.specs.Order.{Row}
use Rattle.sqlite.specs.State.{State, Shown}
use Rattle.brk_model.specs.Records.{Kept}
use Rattle.brk_model.specs.Keys.{kept_key}
use Rattle.brk_tables_sql.specs.Desk.{ChangesTablesBy, TablesSatisfy}
use Rattle.brk_tables_sql.specs.Model.{ExecutesStatement}
use Rattle.brk_tables_sql.proofs.Told.{told_rising}
use Rattle.brk_tables_sql.proofs.Texts.{read}
use Rattle.brk_tables_sql.proofs.Values.{cast_int, cast_null}
use Rattle.brk_tables_sql.proofs.Writes.{inserts_as}
use Rattle.brk_trade_rows.specs.Changes.{tables_with_stored_reply}
use Rattle.brk_tables_schema.specs.Cells.{natural_as_value, kept_cells}
use Rattle.brk_tables_schema.specs.Desk.{KeptRows, desk_tables, ordering_by_primary_key}
use Rattle.brk_tables_schema.proofs.Order.{key_total}
use Rattle.brk_tables_schema.proofs.Tests.{same_number, same_text}
use Rattle.brk_tables_schema.proofs.Places.{kept_rows}
use Rattle.brk_tables_schema.proofs.Steps.{added}
use Rattle.brk_tables_schema.proofs.AddKept
use Rattle.brk_tables_schema.proofs.KeptByKey

pub adds_kept : (old new : State) (x : Kept) → ExecutesStatement AddKept.statement (kept_cells x) old new → ChangesTablesBy desk_tables (tables_with_stored_reply x) old.now new.now
adds_kept old new x ran =
    added KeptRows kept_rows x old.now new.now
    (inserts_as desk_tables KeptRows kept_rows AddKept.statement (kept_cells x) (read AddKept.statement) AddKept.terms 5
    (Null ∷ kept_cells x) x AddKept.understood_as (λ tree. refl) (λ tree rows. rw (cast_null, cast_int (pos x.key.n)) refl) old new ran.0 ran.1)

pub tells_kept : (old new : State) (batch : List ℕ) (row : ℕ) (rows : List Row)
    → Shown KeptByKey.statement (Words batch ∷ natural_as_value row ∷ []) old new rows
    → TablesSatisfy desk_tables (λ t. rows ≡ map kept_cells (filter (λ r. bytes_eq r.key.batch batch && (r.key.n == row)) t.kept)) old.now
tells_kept old new batch row rows shown =
    told_rising desk_tables KeptRows KeptByKey.statement KeptByKey.ask KeptByKey.paging KeptByKey.is_asked (Words batch ∷ natural_as_value row ∷ [])
    (λ (r : Kept). bytes_eq r.key.batch batch && (r.key.n == row)) (λ tree x. rw (same_text x.key.batch batch, same_number x.key.n row) refl)
    kept_cells (λ x. refl) (ordering_by_primary_key KeptRows) (key_total kept_key) (λ tree x y. refl) old new rows shown (λ x y. refl)
