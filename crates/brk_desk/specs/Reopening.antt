-- Adoption of a database after a crash.
use Rattle.std.specs.Prelude.{◌≡◌, None, OnOk, Result}
use Rattle.sqlite_trees.specs.declared.store.Store.{Ghosts}
use Rattle.sqlite_trees.specs.Tree.{Trees}
use Rattle.sqlite.specs.Held.{Held, state}
use Rattle.sqlite.specs.State.{HasCleanDisk, Opens}
use Rattle.brk_money.specs.declared.fault.Fault.{Fault}
use Rattle.brk_model.specs.Adopted.{base_of_tables}
use Rattle.brk_model.specs.Base.{Base}
use Rattle.brk_model.specs.Sheets.{sheets}
use Rattle.brk_model.specs.Tables.{Tables}
use Rattle.brk_trade_rows.specs.Schemas.{abstract_schema}
use Rattle.brk_trade_rows.specs.declared.schema.Schema as typed_schema
use Rattle.brk_store_transactions.specs.Audited.{StoresRowsWithAuditResult, AuditAnswerSatisfies, Represents}
use Rattle.brk_store_transactions.specs.Holds.{IsDiskContentOfRows, IsConnectionToDiskContent, CrashStatesSatisfy}

-- The store represents `base`, and a crash exposes, in the desk's tables, only the rows of `base`.
pub record RepresentsDurableBase {S : Type 0} (g : Ghosts S) (store : Held S) (base : Base) : Type 0 where
  -- The store represents the base.
  pub represented : Represents g store base
  -- A crash exposes, in the desk's tables, only the rows of the base.
  pub crash_exposes_only_base : CrashStatesSatisfy g store (IsDiskContentOfRows (sheets base))

-- `conn` is a new connection to a database with the disk contents `trees`. Under the disk
-- assumption it is as after `sqlite3_open`: open, in autocommit mode, without savepoints, with
-- `sqlite3_changes()` and `sqlite3_last_insert_rowid()` 0, and its current database committed.
pub record IsNewConnectionToDiskContent {S : Type 0} (g : Ghosts S) (trees : Trees) (conn : Held S) : Type 0 where
  -- The connection is to a database with these disk contents.
  pub connected : IsConnectionToDiskContent g trees conn
  -- Under the disk assumption it is in the state after `sqlite3_open`.
  pub opens : HasCleanDisk (state g conn) → Opens (state g conn)

-- `conn` is in the state of a new connection (`IsNewConnectionToDiskContent`) to disk contents that
-- a crash may expose when the connection of a store is in the state `at_crash`.
abbrev pub IsNewConnectionAfterCrash : {S : Type 0} → Ghosts S → Held S → Held S → Type 0
IsNewConnectionAfterCrash g at_crash conn = (trees : Trees) × (state g at_crash).may_leave trees × IsNewConnectionToDiskContent g trees conn

-- The database of `conn` has rows of some schema, in UTF-8, that pass its audit. `store` represents
-- the base that they determine, and a crash exposes, in the desk's tables, only its rows.
abbrev pub RepresentsAuditedRowsDurably : {S : Type 0} → Ghosts S → Held S → Held S → Type 0
RepresentsAuditedRowsDurably g conn store =
    (schema : typed_schema.Schema) × (rows : Tables) × StoresRowsWithAuditResult (abstract_schema schema) rows (state g conn).now None
    × RepresentsDurableBase g store (base_of_tables rows)

-- The adoption did not fail with `Damaged`; at `Ok` the store represents `base`, and a crash
-- exposes, in the desk's tables, only its rows. At `Memory` or `Store` nothing is specified of it.
pub record AdoptsBaseWithoutDamage {S : Type 0} (g : Ghosts S) (store : Held S) (result : Result (Unit {0}) Fault) (base : Base) : Type 0 where
  -- The adoption did not fail with `Damaged`.
  pub undamaged : AuditAnswerSatisfies result (λ failing. failing ≡ None)
  -- At `Ok` the store represents `base`, and a crash exposes, in the desk's tables, only its rows.
  pub represented : OnOk result (RepresentsDurableBase g store base)

-- The adoption with the result `result` did not fail with `Damaged`. `store`, which is the store at
-- `Ok` and the returned connection at `Memory` or `Store`, represents a base that satisfies
-- `IsPossible`, and a crash exposes, in the desk's tables, only the rows of this base.
pub record FindsBaseWithoutDamage {S : Type 0} (g : Ghosts S) (store : Held S) (result : Result (Unit {0}) Fault) (IsPossible : Base → Type 0) : Type 0 where
  -- The base that is represented after the adoption.
  pub base : Base
  -- It is one of the bases that may be recovered.
  pub possible : IsPossible base
  -- The adoption did not fail with `Damaged`.
  pub undamaged : AuditAnswerSatisfies result (λ failing. failing ≡ None)
  -- The store represents this base, and a crash exposes, in the desk's tables, only its rows.
  pub represented : RepresentsDurableBase g store base
