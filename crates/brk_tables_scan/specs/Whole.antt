-- The results of reading whole tables.
use Rattle.std.specs.Prelude.{◌≡◌, ℕ, false, ◌&&◌, List, [], map, Option, Some, None, Result, IsTrue}
use Rattle.std.specs.Global.{Vec}
use Rattle.std.specs.List.Sorted.{IsPermutation}
use Rattle.sqlite_value.specs.Order.{Row}
use Rattle.sqlite_trees.specs.declared.store.Store.{Ghosts}
use Rattle.sqlite.specs.Effect.{Database, IsDatabase}
use Rattle.sqlite.specs.declared.transaction.Transaction.{Transaction}
use Rattle.brk_model.specs.Schemas.{Schema}
use Rattle.brk_model.specs.Tables.{Tables}
use Rattle.brk_model.specs.Form.{satisfies_form_condition, has_utf8_texts}
use Rattle.brk_trade_rows.specs.declared.sheets.Sheets.{Sheets}
use Rattle.brk_ref.specs.declared.key.Kept as typed
use Rattle.brk_ref.specs.Records.{abstract_key}
use Rattle.brk_tables_sql.specs.Rows.{cells_in_column_order, TreeHoldsRecords}
use Rattle.brk_tables_sql.specs.Desk.{IsTableAt}
use Rattle.brk_tables_sql.specs.Model.{IsConnectionStep}
use Rattle.brk_tables_schema.specs.Desk.{DeskTable, RecordOfTable, table_definition_at_tree, encoded_row, ordering_by_primary_key, schema_has_table}
use Rattle.brk_tables_schema.specs.Made.{HasDeskTablesInSchema, IsTableOfSchema}
use Rattle.brk_tables_scan.specs.KeptKeys.{keys_of_kept_rows, tables_with_whole_kept_rows}
use Rattle.brk_tables_scan.specs.Schemas.{HasDistinctRowids}

-- The list `rows` has the rows at the tree `tree` of the table `w`.
pub record AreTableRows (w : DeskTable) (rows : List Row) (db : Database) (tree : ℕ) : Type 0 where
  -- The rows are exactly the rows of the tree, each as often as it occurs there.
  pub all : IsPermutation (map (cells_in_column_order (table_definition_at_tree w tree)) (db.trees tree)) rows
  -- If the table contains the list of records, the rows are their encodings, in order.
  pub rows_encode_records : (xs : List (RecordOfTable w))
      → TreeHoldsRecords (table_definition_at_tree w tree) (encoded_row w) (ordering_by_primary_key w) xs (db.trees tree) → rows ≡ map (encoded_row w) xs
  -- If the rows are the encodings of records, the rowids are distinct integers, and the database
  -- satisfies `IsDatabase`, the table contains these records.
  pub table_holds_records : (xs : List (RecordOfTable w)) → IsDatabase db → HasDistinctRowids (db.trees tree) → map (encoded_row w) xs ≡ rows
      → TreeHoldsRecords (table_definition_at_tree w tree) (encoded_row w) (ordering_by_primary_key w) xs (db.trees tree)

-- The list `rows` has the rows of the table `w`. Vacuous if the database has no table so defined.
abbrev pub ShowsAllRows : DeskTable → List Row → Database → Type 0
ShowsAllRows w rows db = (at tree : ℕ) → IsTableAt db.schema (table_definition_at_tree w tree) at → AreTableRows w rows db tree

-- A step of the connection (`IsConnectionStep`): if the call succeeds, the database was open and is
-- unchanged, and the call returns all rows of the table `w` (`ShowsAllRows`).
abbrev pub ReadsAllRows : {S E : Type 0} → Ghosts S → Transaction S → Transaction S → Result (Vec Row) E → DeskTable → Type 0
ReadsAllRows g old new result w = IsConnectionStep g old new result (λ rows a b. IsTrue a.is_open × (b.now ≡ a.now) × ShowsAllRows w rows.items a.now)

-- `rows` is all rows of the table `w` (`ShowsAllRows`) or, if the schema `desk` lacks it, empty.
abbrev pub ShowsRowsIfInSchema : Schema → DeskTable → List Row → Database → Type 0
ShowsRowsIfInSchema desk w rows db = (IsTableOfSchema desk w → ShowsAllRows w rows db) × (schema_has_table desk w ≡ false → rows ≡ [])

-- A step of the connection (`IsConnectionStep`): at `Ok` the database is unchanged, and all rows of
-- `w` are returned, or none if the schema `desk` lacks it (`ShowsRowsIfInSchema`).
abbrev pub ReadsRowsIfInSchema : {S E : Type 0} → Ghosts S → Transaction S → Transaction S → Result (Vec Row) E → Schema → DeskTable → Type 0
ReadsRowsIfInSchema g old new result desk w = IsConnectionStep g old new result (λ rows a b. (b.now ≡ a.now) × ShowsRowsIfInSchema desk w rows.items a.now)

-- The database contains the tables of the schema `desk`, and none that a later schema adds
-- (`HasDeskTablesInSchema`), with the rows `sheets`; of KEPT only the keys: its rows are `whole`.
pub record AreSheetsExceptKeptTexts (desk : Schema) (db : Database) (sheets : Sheets) : Type 0 where
  pub whole : List typed.Kept
  pub keys : keys_of_kept_rows whole ≡ map abstract_key sheets.kept.items
  pub stored : HasDeskTablesInSchema desk (tables_with_whole_kept_rows whole sheets) db

-- The database contains the tables of the schema with the typed rows `sheets`, but for the texts of
-- KEPT (`AreSheetsExceptKeptTexts`). `None`: if it contains these tables, their rows fail the audit
-- condition `Form`, or have a text that is not UTF-8; vacuous otherwise.
abbrev pub AreSheetsOfDatabase : Schema → Database → Option Sheets → Type 0
AreSheetsOfDatabase desk db (Some sheets) = AreSheetsExceptKeptTexts desk db sheets
AreSheetsOfDatabase desk db None = (t : Tables) → HasDeskTablesInSchema desk t db → satisfies_form_condition desk t && has_utf8_texts t ≡ false
