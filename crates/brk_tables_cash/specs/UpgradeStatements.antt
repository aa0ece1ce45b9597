-- The effect on the tables of the statements that only an upgrade executes.
use Rattle.std.specs.Prelude.{ℕ, []}
use Rattle.sqlite.specs.Effect.{Database}
use Rattle.brk_model.specs.Schemas.{Schema}
use Rattle.brk_model.specs.Tables.{Tables}
use Rattle.brk_tables_sql.specs.Desk.{HasTables, PreservesUnrelatedTables}
use Rattle.brk_tables_schema.specs.Desk.{DeskTable, desk_tables, desk_tables_of_schema}

-- The tables `t` with no rows in CASH_TRANSACTION.
abbrev pub tables_without_cash_transactions : Tables → Tables
tables_without_cash_transactions t = record t { cash = [] }

-- If `old` contains all tables of a desk with the rows `t` and some schema number, `new` contains
-- them, at the same trees, with the rows `t` and the number 3; the SQLite schema and other tables
-- are unchanged, unless a foreign key of their own changes or deletes rows
-- (`PreservesUnrelatedTables`). Vacuous otherwise.
abbrev pub SetsSchemaNumberToThree : Database → Database → Type 0
SetsSchemaNumberToThree old new =
    (schema : Schema) (t : Tables) (tree : DeskTable → ℕ) → HasTables (desk_tables_of_schema schema) t tree old
    → HasTables desk_tables t tree new × PreservesUnrelatedTables tree old new
