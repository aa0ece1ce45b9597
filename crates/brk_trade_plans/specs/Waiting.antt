-- Pending trades that change to another status.
use Rattle.std.specs.Prelude.{ℕ, List, [], ◌∷◌}
use Rattle.brk_money.specs.declared.status.Status.{Status}
use Rattle.brk_trade_rows.specs.declared.change.Change.{Change}
use Rattle.brk_trade_rows.specs.declared.change.Change.TheVariants.{SetStatus, AddHistory, RemoveRequest}

-- The row changes by which the pending trade `trade` changes to `status` at `stamp`: its status and
-- its stamp are set, a TRADE_HISTORY row is added, and its request is deleted.
abbrev pub row_changes_of_status_after_pending : ℕ → Status → ℕ → List Change
row_changes_of_status_after_pending trade status stamp =
    SetStatus trade status stamp ∷ AddHistory (record { trade = trade; status = status; stamp = stamp }) ∷ RemoveRequest trade ∷ []
