-- The tables of a desk that exist, by name.
use Rattle.std.specs.Prelude.{◌&&◌, not, Bool, is_some}
use Rattle.std.specs.List.{list_any, list_all}
use Rattle.sqlite_schema.specs.declared.schema.Schema as database
use Rattle.sqlite_schema.specs.Names.{table_named}
use Rattle.brk_model.specs.Schemas.{Schema}
use Rattle.brk_tables_schema.specs.Desk.{DeskTable, all_tables, table_name, tables_in_schema}
use Rattle.brk_tables_schema.specs.Desk.{tables_of_later_schemas}

-- True if the schema has a table with the SQL name of `w`, in any case of ASCII letters.
abbrev pub has_table_named : database.Schema → DeskTable → Bool
has_table_named schema w = is_some (table_named schema (table_name w))

-- True if the schema of the database has a table with the name of some table of a desk.
abbrev pub has_table_of_desk : database.Schema → Bool
has_table_of_desk schema = list_any (has_table_named schema) all_tables

-- True if the database has each table of the desk's schema `desk`, and none that a later schema
-- adds, by name only (`has_table_named`). It may have other tables.
abbrev pub has_exact_table_names : Schema → database.Schema → Bool
has_exact_table_names desk schema =
    list_all (has_table_named schema) (tables_in_schema desk) && not (list_any (has_table_named schema) (tables_of_later_schemas desk))
