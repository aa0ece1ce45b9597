use Rattle.std.proofs.Common.{◌≢◌}
use Rattle.brk_lots.specs.Lots.{shares_of_lots}
use Rattle.brk_lots.proofs.Counts.{all_shares}
use Rattle.brk_lots.proofs.History.{history_rows}
use Rattle.brk_lots.proofs.theorems.lot_changes_are_closings_then_opening.Goals as goal

pub returns : goal.returns
returns c d ls p fresh = history_rows d (shares_of_lots ls) (all_shares (λ v. v.trade ≢ d.trade) ls fresh)
