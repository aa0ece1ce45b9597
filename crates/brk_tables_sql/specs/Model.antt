-- The effect of calls within an open transaction on the state of its connection.
use Rattle.std.specs.Prelude.{◌≡◌, ℕ, List, Result, Ok, IfOk, IsTrue}
use Rattle.sqlite_value.specs.Order.{Row}
use Rattle.sqlite_trees.specs.declared.store.Store.{Ghosts}
use Rattle.sqlite.specs.declared.transaction.Transaction.{Transaction}
use Rattle.sqlite.specs.Held.{state}
use Rattle.sqlite.specs.State.{State, HasCleanDisk, KeepsCommit, Survives, Executes, Shown}
use Rattle.brk_tables_sql.specs.Desk.{ProgramTables, ChangesTablesBy, TablesSatisfy}

-- Under the disk assumption: the call commits nothing; a crash exposes only prior crash states; an
-- open database is closed only by a fault of the disk (an I/O error, a full disk or file, or a
-- corrupt page); if a transaction is open and the call returns `Ok v`, it is still open, and `Made
-- v` relates the states before and after.
pub record IsTransactionStep {V E : Type 0} (old new : State) (result : Result V E) (Made : V → State → State → Type 0) : Type 0 where
  pub commits_nothing : HasCleanDisk new → KeepsCommit old new
  pub relates_states : HasCleanDisk new → IsTrue old.in_transaction → IfOk result (λ v. IsTrue new.in_transaction × Made v old new)
  pub survives : Survives old new (λ _. ⊥)

-- The statement `sql` succeeds with `params` on the state `old` and results in the state `new`.
abbrev pub ExecutesStatement : List ℕ → Row → State → State → Type 0
ExecutesStatement sql params old new = (count : ℕ) × Executes sql params old new (Ok count)

-- The query `sql` with `params` yields `rows` in the open state `old`; `new` has the same contents.
abbrev pub SelectsRows : List ℕ → Row → List Row → State → State → Type 0
SelectsRows sql params rows old new = Shown sql params old new rows × (new.now ≡ old.now) × IsTrue old.is_open

-- The database was open in `old`, its contents are the same in `new`, and `P` holds for the records
-- of the program's tables (vacuous if the database does not contain all of these).
abbrev pub IsUnchangedAndSatisfies : {W T : Type 0} → ProgramTables W T → (T → Type 0) → State → State → Type 0
IsUnchangedAndSatisfies desk P old new = IsTrue old.is_open × (new.now ≡ old.now) × TablesSatisfy desk P old.now

-- A call on a transaction, from `old` to `new`, is a step of its connection (`IsTransactionStep`).
abbrev pub IsConnectionStep : {S V E : Type 0} → Ghosts S → Transaction S → Transaction S → Result V E → (V → State → State → Type 0) → Type 0
IsConnectionStep g old new result Made = IsTransactionStep (state g old.conn.now) (state g new.conn.now) result Made

-- A step of the connection (`IsConnectionStep`): at `Ok` it changes the records of the program's
-- tables from `t` to `f t`, for all `t`, and no other table, unless a foreign key of its own
-- changes or deletes rows (`ChangesTablesBy`: vacuous if the database lacks one of the tables).
abbrev pub WritesTables : {W T S V E : Type 0} → ProgramTables W T → Ghosts S → Transaction S → Transaction S → Result V E → (T → T) → Type 0
WritesTables desk g old new result f = IsConnectionStep g old new result (λ _ a b. ChangesTablesBy desk f a.now b.now)

-- A step of the connection (`IsConnectionStep`): at `Ok` the database was open and is unchanged,
-- and `Matches` relates the value to the program's records (`IsUnchangedAndSatisfies`).
abbrev pub ReadsTables : {W T S V E : Type 0} → ProgramTables W T → Ghosts S → Transaction S → Transaction S → Result V E → (V → T → Type 0) → Type 0
ReadsTables desk g old new result Matches = IsConnectionStep g old new result (λ v. IsUnchangedAndSatisfies desk (Matches v))
