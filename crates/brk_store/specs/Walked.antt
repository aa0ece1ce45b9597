-- The postconditions of the walks of a store, which pass the rows of a list to a visitor or a
-- closure, one at a time. `brk_store_transactions/specs/Holds.antt` explains the terms. A clause
-- with the premise `HasCleanDisk` for the new state, and the promise on crashes in `survives`, are
-- vacuous if the disk assumption fails by the return of the call.
use Rattle.std.specs.Prelude.{◌≡◌, ℕ, List, ◌++◌, filter, Result, Ok, Err, OnOk, IfErr, IsTrue}
use Rattle.sqlite_trees.specs.declared.store.Store.{Ghosts}
use Rattle.sqlite.specs.Held.{Held, state}
use Rattle.sqlite.specs.State.{HasCleanDisk, Survives}
use Rattle.brk_money.specs.Kinds.{fault_of_call}
use Rattle.brk_money.specs.declared.fault.Fault.{Fault}
use Rattle.brk_model.specs.Limits.{is_in_range}
use Rattle.brk_model.specs.Lists.{sort_by_key}
use Rattle.brk_model.specs.Statement.{sorted_cash_rows_of_account}
use Rattle.brk_model.specs.Tables.{Tables, CashRow, TradeRow}
use Rattle.brk_money.specs.Kinds.{is_same_trade_status}
use Rattle.brk_money.specs.declared.status.Status.TheVariants.{Completed}
use Rattle.brk_tables_views.specs.Walk.{IsWalkError}
use Rattle.brk_tables_views.specs.Walks.{TableWalkEndsEarly, TakesListSatisfying}
use Rattle.brk_tables_views.specs.declared.walking.WalkError.{WalkError}
use Rattle.brk_tables_views.specs.declared.walking.WalkError.TheVariants.{Failed, Cause}
use Rattle.brk_store_transactions.specs.Holds.{HoldsRows, WasOpenAndIsUnchanged}

-- The cash rows of `account` with stamps `from` to `to`, both included, by stamp, then table order.
abbrev pub cash_rows_in_span : ℕ → ℕ → ℕ → Tables → List CashRow
cash_rows_in_span account from to t = filter (λ r. is_in_range from to r.stamp) (sorted_cash_rows_of_account t account)

-- The completed trades of all accounts, sorted by completion stamp, then in the order of TRADE.
abbrev pub completed_trades_by_stamp : Tables → List TradeRow
completed_trades_by_stamp t = sort_by_key (λ r. r.stamp) (filter (λ r. is_same_trade_status r.status Completed) t.trades)

-- The records `all` equal the whole list that `list` selects from the rows that the store holds.
-- Vacuous if the store is open and satisfies `HasDeskTables` for no `t`.
abbrev pub EqualsStoredList : {S M : Type 0} → Ghosts S → Held S → (Tables → List M) → List M → Type 0
EqualsStoredList g store list all = (t : Tables) → HoldsRows g store t → all ≡ list t

-- The records `first` are a prefix of that list, possibly empty; vacuous as `EqualsStoredList` is.
abbrev pub IsPrefixOfStoredList : {S M : Type 0} → Ghosts S → Held S → (Tables → List M) → List M → Type 0
IsPrefixOfStoredList {S} {M} g store list first = (t : Tables) → HoldsRows g store t → (rest : List M) × (first ++ rest ≡ list t)

-- The postcondition of a walk, which passes the records that `list` selects to a visitor, in order
-- and one at a time, and writes nothing. It ends after the last record, at the visitor's error, or
-- at a fault. `of` converts a record to a row of the model; `takes` and `stops` relate the visitor
-- before and after it takes a record or stops at it; `before` and `after` are its states.
pub record WalkPost {S X M V E : Type 0} (g : Ghosts S) (old new : Held S) (of : X → M) (list : Tables → List M) (takes : V → X → V → Type 0)
    (stops : V → X → E → V → Type 0)
    (before after : V) (result : Result (Unit {0}) (WalkError E)) : Type 0 where
  -- At `Ok` the visitor has taken every record.
  pub all : HasCleanDisk (state g new) → OnOk result (TakesListSatisfying (EqualsStoredList g old list) of takes before after)
  -- The visitor took a prefix of the records: at its own error those before that record.
  pub early : HasCleanDisk (state g new) → IfErr result (TableWalkEndsEarly (IsPrefixOfStoredList g old list) of takes stops before after)
  -- An error of the visitor is one at which it stopped, whether or not the disk assumption holds.
  pub fault : IfErr result (IsWalkError stops after)
  -- `Ok` is returned only if the store was open before the call.
  pub was_open : HasCleanDisk (state g new) → OnOk result (IsTrue (state g old).is_open)
  -- The store holds the rows that it held before, whatever the result. Vacuous once it is closed.
  pub same_rows : (t : Tables) → HoldsRows g old t → HoldsRows g new t
  -- If the database is open after the call, it was open before and is unchanged.
  pub unchanged_if_open : HasCleanDisk (state g new) → IsTrue (state g new).is_open → WasOpenAndIsUnchanged (state g old) (state g new)
  -- A crash after the call exposes only states that a crash before the call could expose.
  pub survives : Survives (state g old) (state g new) (λ _. ⊥)

-- `result` is the result of a walk that calls a closure, if the walk has the given outcome: `Ok`,
-- the closure's error for `Cause`, and for `Failed` an error that `gives` relates to the fault.
abbrev pub MatchesWalkResult : {E : Type 0} → (Fault → E → Type 0) → Result (Unit {0}) (WalkError E) → Result (Unit {0}) E → Type 0
MatchesWalkResult {E} gives (Ok u) result = result ≡ Ok tt
MatchesWalkResult {E} gives (Err (Cause e)) result = result ≡ Err e
MatchesWalkResult {E} gives (Err (Failed fault)) result = (e : E) × (result ≡ Err e) × gives (fault_of_call fault) e

-- The closure `call` was called with the records that `list` selects, one at a time, in order. The
-- result is `Ok` after the last one, otherwise the closure's error, or an error that `gives`
-- relates to the fault of the walk. The calls satisfy `WalkPost` with the closure as the visitor.
abbrev pub CallsClosureWithEachRecord : {S X M F E : Type 0} → Ghosts S → Held S → Held S → (X → M) → (Tables → List M)
    → (F → X → Result (Unit {0}) E → F → Type 0) → (Fault → E → Type 0) → F → Result (Unit {0}) E → Type 0
CallsClosureWithEachRecord {S} {X} {M} {F} {E} g old new of list called gives call result =
    (last : F) × (outcome : Result (Unit {0}) (WalkError E))
    × WalkPost g old new of list (λ p x q. called p x (Ok tt) q) (λ p x e q. called p x (Err e) q) call last outcome × MatchesWalkResult gives outcome result
