-- Schemas and disk contents, in terms of the rows of a database.
use Rattle.std.proofs.Common.{◌≡◌, None, arith, sym, subst}
use Rattle.sqlite_trees.specs.declared.store.Store.{Ghosts}
use Rattle.sqlite_trees.specs.Tree.{Trees}
use Rattle.sqlite_trees.specs.Objects.{catalog_tree}
use Rattle.sqlite_catalog.specs.Listing.{Lists}
use Rattle.sqlite_catalog.proofs.ReadLemmas.{lists_once}
use Rattle.sqlite.specs.Effect.{Database, IsDatabase}
use Rattle.sqlite.specs.Held.{Held, state}
use Rattle.sqlite.specs.State.{State, HasCleanDisk, Survives}
use Rattle.brk_model.specs.Adopted.{base_of_tables}
use Rattle.brk_model.specs.Schemas.{third_schema}
use Rattle.brk_model.specs.Sheets.{sheets}
use Rattle.brk_model.specs.Tables.{Tables}
use Rattle.brk_trade_rows.specs.Schemas.{abstract_schema}
use Rattle.brk_trade_rows.specs.declared.schema.Schema as known
use Rattle.brk_tables_schema.specs.Made.{HasDeskTables}
use Rattle.brk_tables_scan.proofs.Defined.{desk_is_there}
use Rattle.brk_tables.proofs.OneTables.{one_schema}
use Rattle.brk_store_transactions.specs.Audited.{StoresRowsWithAuditResult, UpgradesAuditedRows, ConnectionHasThirdSchema}
use Rattle.brk_store_transactions.specs.Holds.{IsDiskContentOfRows}
use Rattle.brk_store_transactions.proofs.Schemas.{third_rows}

-- the disk assumption held before, if it holds after
pub clean_before : (a b : State) (P : Trees → Type 0) → Survives a b P → HasCleanDisk b → HasCleanDisk a
clean_before a b P s clean = omega (arith, s.clean)

-- two sound readings of the same trees are one database
pub same_database : (db other : Database) → IsDatabase db → IsDatabase other → db.trees ≡ other.trees → db ≡ other
same_database db other sound found same =
    let schema : db.schema ≡ other.schema = lists_once (db.trees catalog_tree) db.schema other.schema sound.lists (subst (λ (l : Trees). Lists (l catalog_tree) other.schema) (sym same) found.lists) in
    λ i. record { schema = schema i; trees = same i }

-- ---- rows that passed their audit

-- a database has such rows of one schema at most, and one list of them
pub same_audited_rows : (a b : known.Schema) (t u : Tables) (db : Database) → StoresRowsWithAuditResult (abstract_schema a) t db None
    → StoresRowsWithAuditResult (abstract_schema b) u db None → t ≡ u
same_audited_rows a b t u db h k = (one_schema a b t u db h.0 k.0).1

-- with rows of the third schema it has this schema
pub third_schema_there : {S : Type 0} (g : Ghosts S) (conn : Held S) (rows : Tables) → StoresRowsWithAuditResult third_schema rows (state g conn).now None → ConnectionHasThirdSchema g conn
third_schema_there g conn rows a = λ _ _. desk_is_there third_schema rows (state g conn).now a.0

-- and its trees are disk contents of these rows
pub content_of_third_rows : (rows other : Tables) (db : Database) (trees : Trees) → StoresRowsWithAuditResult third_schema rows db None → rows ≡ other → db.trees ≡ trees
    → IsDiskContentOfRows other trees
content_of_third_rows rows other db trees a e left = (db, subst (λ (t : Tables). HasDeskTables t db) e (third_rows rows db a.0), sym left)

-- an upgrade leaves the tables of the base that they determine
pub upgraded_rows_there : (schema : known.Schema) (rows : Tables) (db after : Database) → StoresRowsWithAuditResult (abstract_schema schema) rows db None → UpgradesAuditedRows db after
    → HasDeskTables (sheets (base_of_tables rows)) after
upgraded_rows_there schema rows db after a m =
    let same : rows ≡ m.1 = same_audited_rows schema m.0 rows m.1 db a m.2 in subst (λ (t : Tables). HasDeskTables (sheets (base_of_tables t)) after) (sym same) m.3
