-- The tables that a database must have to have a schema of a desk, and the premise by which their
-- rows are known. `desk` is a desk's schema, `schema` the list of the database's tables.
use Rattle.std.specs.Prelude.{◌≡◌, ℕ, List, [], ◌∷◌, map, Some, None, slice_get, IsTrue}
use Rattle.std.specs.List.{AllByRecursion, IsDistinct}
use Rattle.sqlite_value.specs.declared.value.Value.{Value}
use Rattle.sqlite_value.specs.Order.{Row}
use Rattle.sqlite_trees.specs.Tree.{rowid}
use Rattle.sqlite_trees.specs.View.{is_int}
use Rattle.sqlite_schema.specs.declared.schema.Schema as database
use Rattle.sqlite_schema.specs.declared.schema.Table.{Table}
use Rattle.sqlite_schema.specs.Names.{table_named}
use Rattle.sqlite.specs.Effect.{Database, IsDatabase}
use Rattle.brk_model.specs.Schemas.{Schema}
use Rattle.brk_trade_rows.specs.declared.schema.Schema as known
use Rattle.brk_trade_rows.specs.Schemas.{abstract_schema}
use Rattle.brk_tables_sql.specs.Rows.{cells_in_column_order, has_same_rowid}
use Rattle.brk_tables_sql.specs.Desk.{IsTableAt, HasNoWritingForeignKeysAt}
use Rattle.brk_tables_schema.specs.Cells.{natural_as_value}
use Rattle.brk_tables_schema.specs.Shapes.{desk_row_table}
use Rattle.brk_tables_schema.specs.Desk.{DeskTable, table_name, table_definition_at_tree, tables_in_schema}
use Rattle.brk_tables_schema.specs.Made.{IsTableOfSchema}
use Rattle.brk_tables_schema.specs.Desk.{tables_of_later_schemas}

-- The SQL name of a table and the names of its columns, in order.
pub record TableAndColumnNames : Type 0 where
  pub name : List ℕ
  pub columns : List (List ℕ)

-- Those of the table `table`.
abbrev pub table_and_column_names : Table → TableAndColumnNames
table_and_column_names table = record { name = table.name; columns = map (λ c. c.name) table.columns }

-- `table` is at the index `at` of `schema`, the first with the name of `names` (in any case of
-- ASCII letters), and has exactly the column names of `names`, in order.
pub record IsTableWithNames (schema : database.Schema) (names : TableAndColumnNames) (at : ℕ) (table : Table) : Type 0 where
  pub named : table_named schema names.name ≡ Some at
  pub found : slice_get schema.tables at ≡ Some table
  pub columns : map (λ c. c.name) table.columns ≡ names.columns

-- The database has a table with the name and exactly the column names of `names`, in order.
abbrev pub HasTableWithNames : database.Schema → TableAndColumnNames → Type 0
HasTableWithNames schema names = (at : ℕ) × (table : Table) × IsTableWithNames schema names at table

-- The database has each table of the schema `desk`, with exactly its column names, in order.
abbrev pub HasTablesOfSchema : Schema → database.Schema → Type 0
HasTablesOfSchema desk schema = AllByRecursion (λ w. HasTableWithNames schema (table_and_column_names (table_definition_at_tree w 0))) (tables_in_schema desk)

-- The database has no table named as one that the schema `desk` lacks and a later schema adds.
abbrev pub LacksTablesOfLaterSchemas : Schema → database.Schema → Type 0
LacksTablesOfLaterSchemas desk schema = AllByRecursion (λ w. table_named schema (table_name w) ≡ None) (tables_of_later_schemas desk)

-- The row is of DESK in the schema `desk`: the id 1, the schema's number, and any stamp value.
abbrev pub IsDeskRowOfSchema : Schema → Row → Type 0
IsDeskRowOfSchema desk row = (last : Value) × (row ≡ natural_as_value 1 ∷ natural_as_value desk.number ∷ last ∷ [])

-- The rows are exactly one row, of DESK in the schema `desk` (`IsDeskRowOfSchema`).
abbrev pub IsOneDeskRowOfSchema : Schema → List Row → Type 0
IsOneDeskRowOfSchema desk rows = (last : Value) × (rows ≡ (natural_as_value 1 ∷ natural_as_value desk.number ∷ last ∷ []) ∷ [])

-- The database has the schema `desk`: each of its tables, by name and with exactly the column
-- names, in order; no table named as one that a later schema adds; and exactly one row of DESK,
-- with the id 1 and the schema's number, which is vacuous if DESK is not defined as a desk's.
pub record DatabaseHasSchema (desk : Schema) (db : Database) : Type 0 where
  pub tables : HasTablesOfSchema desk db.schema
  pub later : LacksTablesOfLaterSchemas desk db.schema
  pub row : (at tree : ℕ) → IsTableAt db.schema (desk_row_table tree) at
      → IsOneDeskRowOfSchema desk (map (cells_in_column_order (desk_row_table tree)) (db.trees tree))

-- The rowids of the stored rows are distinct integers.
pub record HasDistinctRowids (rows : List Row) : Type 0 where
  pub keyed : AllByRecursion (λ r. IsTrue (is_int (rowid r))) rows
  pub apart : IsDistinct has_same_rowid rows

-- Each table of the database named as a table of `desk` is defined as a desk defines it, with the
-- same columns, keys and foreign keys. The trees are distinct, the rowids in each are distinct
-- integers, and no foreign key of a table there changes or deletes rows. `IsDatabase` holds.
pub record HasDeskDefinitions (desk : Schema) (db : Database) : Type 0 where
  pub sound : IsDatabase db
  -- The definition equals the desk's for this name, at the tree of the table.
  pub shaped : (w : DeskTable) → IsTableOfSchema desk w → (at : ℕ) (table : Table) → table_named db.schema (table_name w) ≡ Some at
      → slice_get db.schema.tables at ≡ Some table → table ≡ table_definition_at_tree w table.tree
  -- No two of these tables share a tree.
  pub apart : (v w : DeskTable) → IsTableOfSchema desk v → IsTableOfSchema desk w → (i j tree : ℕ) → IsTableAt db.schema (table_definition_at_tree v tree) i
      → IsTableAt db.schema (table_definition_at_tree w tree) j → v ≡ w
  -- No foreign key of a table at the tree of one of these changes or deletes rows.
  pub keys_write_nothing : (w : DeskTable) → IsTableOfSchema desk w → (at tree : ℕ) → IsTableAt db.schema (table_definition_at_tree w tree) at
      → HasNoWritingForeignKeysAt db.schema tree
  pub keyed : (w : DeskTable) → IsTableOfSchema desk w → (at tree : ℕ) → IsTableAt db.schema (table_definition_at_tree w tree) at
      → HasDistinctRowids (db.trees tree)

-- If `db` has the tables of `desk`, by names and column names, it satisfies `HasDeskDefinitions`.
abbrev pub TablesWithSchemaNamesAreDeskTables : Schema → Database → Type 0
TablesWithSchemaNamesAreDeskTables desk db = HasTablesOfSchema desk db.schema → HasDeskDefinitions desk db

-- The premise on a database that another program may have created: `TablesWithSchemaNamesAreDeskTables`
-- for each schema of a desk. An empty database satisfies it.
abbrev pub TablesWithDeskNamesAreDeskTables : Database → Type 0
TablesWithDeskNamesAreDeskTables db = (schema : known.Schema) → TablesWithSchemaNamesAreDeskTables (abstract_schema schema) db
