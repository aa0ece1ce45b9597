-- The index of a store, and a page of lots that is read by it.
use Rattle.std.specs.Prelude.{◌≡◌, ⊤, ℕ, Bool, IsTrue, List, Some, drop, map, take}
use Rattle.sqlite_trees.specs.declared.store.Store.{Ghosts}
use Rattle.sqlite.specs.Effect.{Database}
use Rattle.sqlite.specs.Held.{Held, state}
use Rattle.sqlite.specs.State.{HasCleanDisk}
use Rattle.brk_money.specs.Spelling.{Text}
use Rattle.brk_model.specs.Tables.{Tables}
use Rattle.brk_ref.specs.Rows.{abstract_holding_row}
use Rattle.brk_ref.specs.declared.holding_row.HoldingRow as row
use Rattle.brk_tables_trading.specs.Pages.{page_size}
use Rattle.brk_tables_schema.specs.Made.{HasDeskTables}
use Rattle.brk_store_index.specs.Ages.{in_order}
use Rattle.brk_store_index.specs.Index.{IsIndexOf, lot_of_age}
use Rattle.brk_store_index.specs.declared.age.RowAge.{RowAge}
use Rattle.brk_store_index.specs.declared.store_index.StoreIndex.{StoreIndex}
use Rattle.brk_store_index.specs.declared.store_index.StoreIndex.TheVariants.{Absent, Made, Unmade}

-- The database `db` has the tables of a desk with some rows, and an index that was made has exactly
-- their rows. Of an index that is absent nothing is said.
abbrev pub IsIndexOfDatabase : StoreIndex → Database → Type 0
IsIndexOfDatabase Absent db = ⊤
IsIndexOfDatabase Unmade db = (t : Tables) × HasDeskTables t db
IsIndexOfDatabase (Made index) db = (t : Tables) × HasDeskTables t db × IsIndexOf index t

-- The index is right for the current database of the connection (`IsIndexOfDatabase`). Vacuous if the
-- disk assumption fails, or once the database is closed.
pub record IndexIsTrue {S : Type 0} (g : Ghosts S) (conn : Held S) (index : StoreIndex) : Type 0 where
  pub indexed : HasCleanDisk (state g conn) → IsTrue (state g conn).is_open → IsIndexOfDatabase index (state g conn).now

-- The page has one row for each age after the first `skipped` in the order of closing, at most 4: the
-- row of its lot, a lot of `account` in the security `symbol`.
abbrev pub HasRowOfEachAge : ℕ → Text → Bool → ℕ → List RowAge → List row.HoldingRow → Tables → Type 0
HasRowOfEachAge account symbol lifo skipped ages page t =
    map Some (map abstract_holding_row page) ≡ map (lot_of_age t.holdings account symbol) (take page_size (drop skipped (in_order lifo ages)))
