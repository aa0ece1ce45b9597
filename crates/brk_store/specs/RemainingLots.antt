-- The lots that a source of pages still has to return.
use Rattle.std.specs.Borrow.{MutBor}
use Rattle.std.specs.Prelude.{◌≡◌, ℕ, List, drop}
use Rattle.sqlite_trees.specs.declared.store.Store.{Ghosts}
use Rattle.sqlite.specs.Held.{Held}
use Rattle.brk_lots.specs.declared.lot.Lot.{Lot}
use Rattle.brk_model.specs.Tables.{Tables}
use Rattle.brk_store_transactions.specs.Holds.{HoldsRows}
use Rattle.brk_store.specs.Pages.{remaining_lots, lot_rows_in_closing_order}
use Rattle.brk_store.specs.declared.pages.Page.{Page}
use Rattle.brk_store.specs.declared.pages.Pages.{Pages}

-- The store that the source of pages borrows, as a mutable reference.
abbrev pub borrowed_store : {S P : Type 0} → Pages S P → MutBor (Held S)
borrowed_store p = p.store

-- The number of rows that the source of pages has read from the store so far.
abbrev pub number_of_rows_read : {S P : Type 0} → Pages S P → ℕ
number_of_rows_read p = p.read

-- For some rows `t` that the store holds, `ls` are exactly the lots that the source still has to
-- return, in order. If the disk assumption fails or the store is closed, they may be of any rows.
-- False if the store is open and satisfies `HasDeskTables` for no `t`.
abbrev pub AreRemainingLots : {S : Type 0} → Ghosts S → Pages S Page → List Lot → Type 0
AreRemainingLots g p ls =
    (t : Tables) × HoldsRows g p.store.now t
    × (ls ≡ remaining_lots (drop p.page.returned p.page.rows.items) p.ended p.read (lot_rows_in_closing_order p.lifo p.account p.symbol.now t))
