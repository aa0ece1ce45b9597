-- The outcome of a walk over the rows of a query.
use Rattle.std.specs.Prelude.{◌≡◌, ◌⊎◌, ℕ, List, [], ◌∷◌, ◌++◌, Ok, None, map, IsTrue}
use Rattle.std.specs.List.{FoldsTo}
use Rattle.sqlite_schema.specs.declared.schema.Schema.{Schema}
use Rattle.sqlite_resolve.specs.declared.compiled.Compiled.{Compiled}
use Rattle.sqlite_value.specs.Order.{Row}
use Rattle.sqlite.specs.Listing.{understood}
use Rattle.sqlite.specs.State.{State, Shown, Begins}
use Rattle.brk_tables_views.specs.declared.walking.WalkError.{WalkError}
use Rattle.brk_tables_views.specs.declared.walking.WalkError.TheVariants.{Failed, Cause}

-- The statement `sql` has no RETURNING clause in any schema in which it compiles.
abbrev pub HasNoReturningClause : List ℕ → Type 0
HasNoReturningClause sql = (schema : Schema) (c : Compiled) → understood schema sql ≡ Ok c → c.returning ≡ None

-- An error `Cause e` has the error `e` with which the visitor stopped at some record; `after` is
-- the visitor after this stop.
abbrev pub IsWalkError : {V X E : Type 0} → (V → X → E → V → Type 0) → V → WalkError E → Type 0
IsWalkError stops after (Failed fault) = Unit {0}
IsWalkError {V} {X} stops after (Cause e) = (at : V) × (next : X) × stops at next e after

module _ {V X : Type 0} (cells : X → Row) (takes : V → X → V → Type 0) where
  -- `db` was open, and the visitor took all records of the query's result, in order.
  pub record TakesAllRecords (sql : List ℕ) (params : Row) (db : State) (old new : V) : Type 0 where
    pub records : List X
    pub is_open : IsTrue db.is_open
    pub shown : Shown sql params db db (map cells records)
    pub taken : FoldsTo takes old records new

  -- The visitor took a prefix of the query's result, possibly none; if it took one, `db` was open.
  pub record TakesPrefixOfRecords (sql : List ℕ) (params : Row) (db : State) (old new : V) : Type 0 where
    pub records : List X
    pub begins : (records ≡ []) ⊎ (IsTrue db.is_open × Begins sql params db (map cells records))
    pub taken : FoldsTo takes old records new

  -- `db` was open, and the visitor took a prefix of the query's result, in order, possibly none,
  -- and stopped at the next record with the error `e`.
  pub record StopsAtRecord {E : Type 0} (stops : V → X → E → V → Type 0) (sql : List ℕ) (params : Row) (db : State) (old : V) (e : E) (new : V) : Type 0 where
    pub records : List X
    pub next : X
    pub is_open : IsTrue db.is_open
    pub begins : Begins sql params db (map cells (records ++ next ∷ []))
    pub at : V
    pub taken : FoldsTo takes old records at
    pub stopped : stops at next e new

  -- The walk failed: `TakesPrefixOfRecords` at a fault, `StopsAtRecord` at the visitor's error.
  abbrev pub WalkEndsEarly : {E : Type 0} → (V → X → E → V → Type 0) → List ℕ → Row → State → V → V → WalkError E → Type 0
  WalkEndsEarly stops sql params db old new (Failed fault) = TakesPrefixOfRecords sql params db old new
  WalkEndsEarly stops sql params db old new (Cause e) = StopsAtRecord stops sql params db old e new
