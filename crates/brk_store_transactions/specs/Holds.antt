-- The rows that a store holds, and the postconditions of its calls, from `old` to `new`. Terms:
-- - `Held S`: in contracts, a connection to a database in a storage of the type `S` (files,
--   memory), with its SQLite schema and the transaction that it is in, if any.
-- - `Ghosts S`, `g`: the specification of the storage (a ghost has a meaning in proofs only): its
--   contents, its failures, and the contents that a crash may expose.
-- - `state g conn`: the state of the connection. `now` is the database as the connection sees it,
--   changes of the transaction that it is in included; `committed` is the database at the last
--   commit; `may_leave` holds of the disk contents that a crash may expose.
-- - `Trees`: disk contents, the rows of each table and index of a database, by the number of its
--   tree (compare SQLite's root page).
-- - A store, its connection and its database are *open* (`is_open`) until a failure of their disk
--   closes them: an I/O error, a full disk or file, or a corrupt page (SQLITE_CORRUPT), and not
--   each does. In clauses `is_open` implies the disk assumption.
-- - *Disk assumption* (`HasCleanDisk`): every read so far returned what was written. It does not
--   include the toolchain's model of a crash (`may_leave`), which supposes that a successful sync
--   has reached the disk, and limits what a torn write leaves.
-- - `Survives old new P`: a crash in `new` exposes a *prior crash state*, which a crash in `old`
--   could expose, or contents that satisfy `P` (`λ _. ⊥`: only the former). Also: only a failure of
--   the disk closes an open connection, and a failed disk assumption stays failed.
-- - `IfOk r P`: if the result `r` is `Ok`, `P` holds of its value. `OnOk r Q`: if it is `Ok`, `Q`
--   holds. `IfErr r P`, `OnErr r Q`: the same for `Err` and its error.
-- - `Tables`: the rows of all tables of a desk, `t` in the clauses; *the rows `t`* and *the tables
--   of a base* (`sheets base`) are values of this type. In rows that a database contains, those of
--   each table are sorted by its key, ascending.
-- - *Schema 1*, *2* or *3*, and *a schema* without more, is a version of the desk's tables; *SQLite
--   schema* is what SQLite calls a schema.
-- - A clause is *vacuous* if it promises nothing. Clauses with the premise `HasCleanDisk` for the
--   new state, and `survives` on crashes, are if the disk assumption fails by the call's return.
use Rattle.std.specs.Prelude.{◌≡◌, ◌⊎◌, ℕ, true, false, Result, Err, IfOk, OnOk, OnErr, IsTrue}
use Rattle.sqlite_trees.specs.declared.store.Store.{Ghosts}
use Rattle.sqlite_trees.specs.Tree.{Trees}
use Rattle.sqlite.specs.Effect.{Database}
use Rattle.sqlite.specs.Held.{Held, state}
use Rattle.sqlite.specs.State.{State, HasCleanDisk, IsLive, Survives}
use Rattle.brk_money.specs.declared.fault.Condition.TheVariants.{NotEmpty}
use Rattle.brk_money.specs.declared.fault.Fault.{Fault}
use Rattle.brk_money.specs.declared.fault.Fault.TheVariants.{Damaged, Store}
use Rattle.brk_model.specs.Tables.{Tables, tables_without_rows}
use Rattle.brk_tables_sql.specs.Desk.{HasTables, PreservesAllTables, PreservesUnrelatedTables}
use Rattle.brk_tables_schema.specs.Desk.{DeskTable, desk_tables}
use Rattle.brk_tables_schema.specs.Made.{HasDeskTables}
use Rattle.brk_tables_scan.specs.Present.{has_table_of_desk}

-- The current database of `store` contains all tables of a desk in schema 3, with exactly the rows
-- `t`. Vacuous if the disk assumption fails (`HasCleanDisk`), or once the store is closed.
abbrev pub HoldsRows : {S : Type 0} → Ghosts S → Held S → Tables → Type 0
HoldsRows g store t = HasCleanDisk (state g store) → IsTrue (state g store).is_open → HasDeskTables t (state g store).now

-- `trees` are the disk contents of a database with all tables of a desk and exactly the rows `t`.
abbrev pub IsDiskContentOfRows : Tables → Trees → Type 0
IsDiskContentOfRows t trees = (db : Database) × HasDeskTables t db × (trees ≡ db.trees)

-- All disk contents that a crash of the store may expose satisfy `P`.
abbrev pub CrashStatesSatisfy : {S : Type 0} → Ghosts S → Held S → (Trees → Type 0) → Type 0
CrashStatesSatisfy g store P = (trees : Trees) → (state g store).may_leave trees → P trees

-- The database was open in `old`, and its current and committed contents are equal in `new`.
pub record WasOpenAndIsUnchanged (old new : State) : Type 0 where
  pub was_open : IsTrue old.is_open
  pub now : new.now ≡ old.now
  pub committed : new.committed ≡ old.committed

-- The postcondition of a read, which writes nothing. `Matches` relates a returned value to the rows
-- that the store holds. No clause states that the store is open after it, not even at `Ok`: a disk
-- failure at the end of the read's transaction may close it.
pub record ReadPost {S V E : Type 0} (g : Ghosts S) (old new : Held S) (result : Result V E) (Matches : V → Tables → Type 0) : Type 0 where
  -- A value satisfies `Matches` with the rows held before the call. Vacuous if the disk assumption
  -- fails by its return, or if the store was open and satisfied `HasDeskTables` for no `t`.
  pub answered : HasCleanDisk (state g new) → IfOk result (λ answer. (t : Tables) → HoldsRows g old t → Matches answer t)
  -- A value is returned only if the store was open before the call.
  pub was_open : HasCleanDisk (state g new) → OnOk result (IsTrue (state g old).is_open)
  -- The store holds the rows that it held before, whatever the result. Vacuous once it is closed.
  pub same_rows : (t : Tables) → HoldsRows g old t → HoldsRows g new t
  -- If the database is open after the call, it was open before and is unchanged.
  pub unchanged_if_open : HasCleanDisk (state g new) → IsTrue (state g new).is_open → WasOpenAndIsUnchanged (state g old) (state g new)
  -- A crash after the call exposes only states that a crash before the call could expose.
  pub survives : Survives (state g old) (state g new) (λ _. ⊥)

-- The postcondition of a call that changes the rows `t` to `after t`, all together or not at all.
-- The clauses on `t` are vacuous if the store was open and satisfied `HasDeskTables` for no `t`.
pub record ApplyPost {S V E : Type 0} (g : Ghosts S) (old new : Held S) (result : Result V E) (after : Tables → Tables) : Type 0 where
  -- At `Ok` the store holds the tables with all changes.
  pub applied : OnOk result ((t : Tables) → HoldsRows g old t → HoldsRows g new (after t))
  -- At `Ok` the store was open, is open, and has committed its current state.
  pub open_and_committed : HasCleanDisk (state g new)
      → OnOk result (IsTrue (state g old).is_open × IsTrue (state g new).is_open × ((state g new).committed ≡ (state g new).now))
  -- At `Ok` the SQLite schema is unchanged, and so are tables that are not the desk's, unless a
  -- foreign key of their own may change or delete rows by CASCADE, SET NULL or SET DEFAULT.
  pub other_tables : HasCleanDisk (state g new)
      → OnOk result ((t : Tables) (tree : DeskTable → ℕ) → HasTables desk_tables t tree (state g old).now
      → PreservesUnrelatedTables tree (state g old).now (state g new).now)
  -- At an error the store holds the rows that it held before. Vacuous once it is closed.
  pub same_rows_at_error : OnErr result ((t : Tables) → HoldsRows g old t → HoldsRows g new t)
  -- At an error: if the database is open after the call, it was open before and is unchanged.
  pub unchanged_if_open : HasCleanDisk (state g new) → IsTrue (state g new).is_open → OnErr result (WasOpenAndIsUnchanged (state g old) (state g new))
  -- A crash exposes a prior crash state or, only if the store was open, the changed tables.
  pub survives : Survives (state g old) (state g new) (λ trees. IsTrue (state g old).is_open
      × ((t : Tables) → HasDeskTables t (state g old).now → IsDiskContentOfRows (after t) trees))
  -- At `Ok` a crash after the call exposes only the tables with all changes.
  pub durable : HasCleanDisk (state g new) → OnOk result ((t : Tables) → HoldsRows g old t → CrashStatesSatisfy g new (IsDiskContentOfRows (after t)))

-- The postcondition of the creation of the tables, of all together or of none.
pub record CreatePost {S : Type 0} (g : Ghosts S) (old new : Held S) (result : Result (Unit {0}) Fault) : Type 0 where
  -- At `Ok` the store holds the tables of schema 3 without rows, except for the one row of DESK.
  pub created : OnOk result (HoldsRows g new tables_without_rows)
  -- At `Ok` the store was open, is open, and has committed its current state.
  pub open_and_committed : HasCleanDisk (state g new)
      → OnOk result (IsTrue (state g old).is_open × IsTrue (state g new).is_open × ((state g new).committed ≡ (state g new).now))
  -- At `Ok` no table with the name of a desk's table existed.
  pub no_table_existed : HasCleanDisk (state g new) → OnOk result (has_table_of_desk (state g old).now.schema ≡ false)
  -- At `Ok` each table that existed still exists, with its rows.
  pub other_tables : HasCleanDisk (state g new) → OnOk result (PreservesAllTables (state g old).now (state g new).now)
  -- The error is `Damaged(NotEmpty)` only if a table with the name of a desk's table existed.
  pub not_empty_only_if_existed : HasCleanDisk (state g new) → result ≡ Err (Damaged NotEmpty) → has_table_of_desk (state g old).now.schema ≡ true
  -- If a table with a desk's name existed, the error is `Damaged(NotEmpty)` or `Store`.
  pub fails_if_existed : HasCleanDisk (state g new) → has_table_of_desk (state g old).now.schema ≡ true
      → (result ≡ Err (Damaged NotEmpty)) ⊎ (result ≡ Err Store)
  -- At an error: if the database is open after the call, it was open before and is unchanged.
  pub unchanged_if_open : HasCleanDisk (state g new) → IsTrue (state g new).is_open → OnErr result (WasOpenAndIsUnchanged (state g old) (state g new))
  -- A crash exposes a prior crash state, or the tables without rows.
  pub survives : Survives (state g old) (state g new) (IsDiskContentOfRows tables_without_rows)
  -- At `Ok` a crash after the call exposes only the tables without rows.
  pub durable : HasCleanDisk (state g new) → OnOk result (CrashStatesSatisfy g new (IsDiskContentOfRows tables_without_rows))

-- `conn` is a connection to a database with the disk contents `trees`. Under the disk assumption
-- these are its current contents and, if it is open, its current and committed database are
-- well-formed: `sqlite_schema` lists the tables, and rows obey the definitions.
pub record IsConnectionToDiskContent {S : Type 0} (g : Ghosts S) (trees : Trees) (conn : Held S) : Type 0 where
  pub live : HasCleanDisk (state g conn) → IsLive (state g conn)
  pub same : HasCleanDisk (state g conn) → (state g conn).now.trees ≡ trees
