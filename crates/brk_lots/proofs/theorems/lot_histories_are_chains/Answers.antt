use Rattle.std.proofs.Common.{◌≢◌}
use Rattle.brk_lots.specs.Lots.{shares_of_lots}
use Rattle.brk_lots.proofs.Chains.{lots_live}
use Rattle.brk_lots.proofs.Counts.{all_shares}
use Rattle.brk_lots.proofs.History.{opened_qty}
use Rattle.brk_lots.proofs.theorems.lot_histories_are_chains.Goals as goal

pub returns : goal.returns
returns c = record {
  history = lots_live;
  opened = λ d ls p fresh. opened_qty d (shares_of_lots ls) (all_shares (λ v. v.trade ≢ d.trade) ls fresh);
}
