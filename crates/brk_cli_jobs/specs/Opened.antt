-- A desk that was opened from a file.
use Rattle.std.specs.Prelude.{None, Ok, IsTrue}
use Rattle.sqlite_trees.specs.declared.store.Store.{Ghosts}
use Rattle.sqlite.specs.Held.{Held, state}
use Rattle.sqlite.specs.State.{HasCleanDisk}
use Rattle.brk_model.specs.Adopted.{base_of_tables}
use Rattle.brk_model.specs.Sheets.{sheets}
use Rattle.brk_model.specs.Tables.{Tables}
use Rattle.brk_trade_rows.specs.declared.schema.Schema as known
use Rattle.brk_trade_rows.specs.Schemas.{abstract_schema}
use Rattle.brk_store_transactions.specs.Audited.{StoresRowsWithAuditResult, Represents, AdoptPost, ConnectionTablesWithDeskNamesAreDeskTables}
use Rattle.brk_store_transactions.specs.Holds.{IsDiskContentOfRows, CrashStatesSatisfy}
use Rattle.brk_store.specs.Adopted.{ConnectionPassesDefinitionTest, ConnectionTablesWithDeskNamesAreDefined}

-- The store was adopted from a connection in the state `found`. If the tables of `found` satisfy
-- `ConnectionTablesWithDeskNamesAreDeskTables`, its rows pass the audit of their schema, the store
-- represents the base that these rows determine, and a crash exposes only the tables of this base.
-- This second sentence is vacuous if the disk assumption fails, or once the store is closed. Its
-- premise holds if the tables of `found` pass the test of their definitions or, whether they do or
-- not, if tables with all names and columns of a schema are defined as a desk's.
pub record RepresentsRowsOfFile {S : Type 0} (g : Ghosts S) (store : Held S) : Type 0 where
  -- The state of the connection when the file was opened.
  pub found : Held S
  pub adopted : AdoptPost g found store (Ok tt)
  pub represented : HasCleanDisk (state g store) → IsTrue (state g store).is_open → ConnectionTablesWithDeskNamesAreDeskTables g found
      → (schema : known.Schema) × (rows : Tables) × StoresRowsWithAuditResult (abstract_schema schema) rows (state g found).now None
      × Represents g store (base_of_tables rows) × CrashStatesSatisfy g store (IsDiskContentOfRows (sheets (base_of_tables rows)))
  -- The premise by the definitions of the tables alone.
  pub tested : ConnectionPassesDefinitionTest g found → ConnectionTablesWithDeskNamesAreDeskTables g found
  pub assumed : ConnectionTablesWithDeskNamesAreDefined g found → ConnectionTablesWithDeskNamesAreDeskTables g found
