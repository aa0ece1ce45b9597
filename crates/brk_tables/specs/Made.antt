-- The creation of a desk's tables.
use Rattle.std.specs.Prelude.{ℕ, List, codes}
use Rattle.sqlite.specs.Effect.{Database}
use Rattle.brk_model.specs.Tables.{tables_without_rows}
use Rattle.brk_tables_sql.specs.Desk.{PreservesAllTables}
use Rattle.brk_tables_schema.specs.Made.{HasDeskTables}

-- `new` contains the tables of a desk in schema 3 (`HasDeskTables`), without rows but the one of
-- DESK, which has no stamp, and all tables of `old`, with the same rows (`PreservesAllTables`).
pub record CreatesDeskTables (old new : Database) : Type 0 where
  pub rows : HasDeskTables tables_without_rows new
  pub others : PreservesAllTables old new

-- The SQL statement that inserts the one row of DESK: id 1, schema number 3 and no stamp.
abbrev pub insert_desk_row_text : List ℕ
insert_desk_row_text = codes "INSERT INTO DESK (D_ID, D_SCHEMA, D_LAST) VALUES (1, 3, NULL)"
