-- The lots of a position that a plan reads in pages.
use Rattle.std.specs.Prelude.{List}
use Rattle.sqlite_trees.specs.declared.store.Store.{Ghosts}
use Rattle.sqlite.specs.Held.{state}
use Rattle.sqlite.specs.State.{HasCleanDisk}
use Rattle.brk_lots.specs.Sources.{AreLotsOfFaithfulSource}
use Rattle.brk_lots.specs.declared.lot.Lot.{Lot}
use Rattle.brk_store.specs.RemainingLots.{AreRemainingLots, borrowed_store}
use Rattle.brk_store.specs.declared.pages.Page.{Page}
use Rattle.brk_store.specs.declared.pages.Pages.{Pages}

-- `ls` are the lots that the source of pages still has to return in its state `old`, before some
-- reads, and the disk assumption holds for its store in the state `new`, after them. If the store
-- is closed in the state `old`, `ls` may be the lots of any rows (`AreRemainingLots`).
abbrev pub AreLotsBeforeReads : {S : Type 0} → Ghosts S → (old new : Pages S Page) → List Lot → Type 0
AreLotsBeforeReads g old new ls = AreLotsOfFaithfulSource (HasCleanDisk (state g (borrowed_store new).now)) (AreRemainingLots g old) ls
