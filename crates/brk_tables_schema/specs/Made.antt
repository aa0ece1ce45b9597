-- A database that contains the tables of a desk.
use Rattle.std.specs.Prelude.{◌≡◌, ℕ, false, None, [], IsTrue}
use Rattle.sqlite_schema.specs.Names.{table_named}
use Rattle.sqlite.specs.Effect.{Database}
use Rattle.brk_model.specs.Schemas.{Schema}
use Rattle.brk_model.specs.Tables.{Tables}
use Rattle.brk_tables_sql.specs.Desk.{HasTables, HasSelectedTables}
use Rattle.brk_tables_schema.specs.Desk.{DeskTable, desk_tables, desk_tables_of_schema, schema_has_table, rows_of_table_in_schema, table_name}

-- The database (`IsDatabase`) contains the tables of a desk in schema 3, with exactly the rows `t`,
-- at distinct trees (`HasTables`), where no foreign key changes or deletes rows. Others may exist.
abbrev pub HasDeskTables : Tables → Database → Type 0
HasDeskTables t db = (tree : DeskTable → ℕ) × HasTables desk_tables t tree db

-- The schema `schema` has the table `w`.
abbrev pub IsTableOfSchema : Schema → DeskTable → Type 0
IsTableOfSchema schema w = IsTrue (schema_has_table schema w)

-- Of each desk table that the schema lacks, the database has none by its name, and `t` no rows.
abbrev pub LacksOtherDeskTables : Schema → Tables → Database → Type 0
LacksOtherDeskTables schema t db =
    (w : DeskTable) → schema_has_table schema w ≡ false → (table_named db.schema (table_name w) ≡ None) × (rows_of_table_in_schema schema w t ≡ [])

-- The database (`IsDatabase`) contains the tables of `schema`, with exactly the rows `t`, at
-- distinct trees (`HasSelectedTables`), where no foreign key changes or deletes rows. It has no
-- table named as a desk's that `schema` lacks, and `t` no rows of one. It may have other tables.
abbrev pub HasDeskTablesInSchema : Schema → Tables → Database → Type 0
HasDeskTablesInSchema schema t db =
    (tree : DeskTable → ℕ) × HasSelectedTables (desk_tables_of_schema schema) (IsTableOfSchema schema) t tree db × LacksOtherDeskTables schema t db
