-- The outcome of a walk over records of a desk's tables.
use Rattle.std.specs.Prelude.{◌≡◌, ◌⊎◌, List, [], ◌∷◌, ◌++◌, map, Result, OnOk, IfErr, IsTrue}
use Rattle.std.specs.List.{FoldsTo}
use Rattle.sqlite_trees.specs.declared.store.Store.{Ghosts}
use Rattle.sqlite.specs.Held.{Held, state}
use Rattle.sqlite.specs.State.{State, HasCleanDisk, Survives}
use Rattle.brk_model.specs.Tables.{Tables}
use Rattle.brk_tables_schema.specs.Made.{HasDeskTables}
use Rattle.brk_tables_views.specs.Walk.{IsWalkError}
use Rattle.brk_tables_views.specs.declared.walking.WalkError.{WalkError}
use Rattle.brk_tables_views.specs.declared.walking.WalkError.TheVariants.{Failed, Cause}

-- The visitor took a list of records, possibly empty, in order, which changed it from `before` to
-- `after`, and `So` holds for this list, each record converted by `of`.
abbrev pub TakesListSatisfying : {X M V : Type 0} → (List M → Type 0) → (X → M) → (V → X → V → Type 0) → V → V → Type 0
TakesListSatisfying {X} So of takes before after = (taken : List X) × FoldsTo takes before taken after × So (map of taken)

-- The walk failed, with the visitor from `before` to `after`: at a fault `Begins` holds for the
-- list of the records that it took, possibly none, at its own error for these and the one at which
-- it stopped. Each record is converted by `of`.
abbrev pub TableWalkEndsEarly : {X M V E : Type 0} → (List M → Type 0) → (X → M) → (V → X → V → Type 0) → (V → X → E → V → Type 0) → V → V → WalkError E
    → Type 0
TableWalkEndsEarly {X} Begins of takes stops before after (Failed fault) = TakesListSatisfying Begins of takes before after
TableWalkEndsEarly {X} {M} {V} Begins of takes stops before after (Cause e) =
    (taken : List X) × (next : X) × (at : V) × FoldsTo takes before taken at × stops at next e after × Begins (map of (taken ++ next ∷ []))

-- The database `db` is open, and the records `all` equal the list that `list` selects from the rows
-- of a desk's tables in `db`; vacuous if `db` does not contain all tables of a desk in schema 3.
abbrev pub AreAllRecordsOfList : {M : Type 0} → State → (Tables → List M) → List M → Type 0
AreAllRecordsOfList db list all = IsTrue db.is_open × ((t : Tables) → HasDeskTables t db.now → all ≡ list t)

-- The list `first` is empty; or the database `db` is open, and `first` is a prefix of that list.
abbrev pub IsPrefixOfList : {M : Type 0} → State → (Tables → List M) → List M → Type 0
IsPrefixOfList {M} db list first = (first ≡ []) ⊎ (IsTrue db.is_open × ((t : Tables) → HasDeskTables t db.now → (rest : List M) × (first ++ rest ≡ list t)))

-- The postcondition of a walk, which writes nothing: it passes the records that `list` selects from
-- a desk's tables to a visitor, in order, one at a time, until the last record, the visitor's error
-- or a fault. `takes` and `stops` relate the visitor before and after it takes a record or stops at
-- one. The clauses on records, the database and crashes are vacuous if the disk assumption fails,
-- what they say of the list also if the database does not contain all tables of a desk in schema 3.
pub record TableWalkPost {S X M V E : Type 0} (g : Ghosts S) (old new : Held S) (of : X → M) (list : Tables → List M) (takes : V → X → V → Type 0)
    (stops : V → X → E → V → Type 0)
    (before after : V) (result : Result (Unit {0}) (WalkError E)) : Type 0 where
  -- If the walk returns `Ok`, the visitor took every record of the list, in order.
  pub all : HasCleanDisk (state g new) → OnOk result (TakesListSatisfying (AreAllRecordsOfList (state g old) list) of takes before after)
  -- At an error the visitor took a prefix of the list, possibly none (`TableWalkEndsEarly`).
  pub early : HasCleanDisk (state g new) → IfErr result (TableWalkEndsEarly (IsPrefixOfList (state g old) list) of takes stops before after)
  -- An error of the visitor is one at which it stopped, whether or not the disk assumption holds.
  pub fault : IfErr result (IsWalkError stops after)
  -- If the database is open after the walk, it was open before and is unchanged.
  pub unchanged_if_open : HasCleanDisk (state g new) → IsTrue (state g new).is_open
      → IsTrue (state g old).is_open × ((state g new).now ≡ (state g old).now) × ((state g new).committed ≡ (state g old).committed)
  -- Under the disk assumption a crash exposes only prior crash states.
  pub survives : Survives (state g old) (state g new) (λ _. ⊥)
