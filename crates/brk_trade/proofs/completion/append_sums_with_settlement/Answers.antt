use Rattle.brk_trade.proofs.Results.{three_added}
use Rattle.brk_trade.proofs.completion.append_sums_with_settlement.Goals as goal

pub returns : goal.returns
returns c =
    three_added _ _ _ _ _ _ _ _ _ _ c.in_ok-push.ensures.items c.in_ok-push-2.ensures.items c.in_ok-push-3.ensures.items
    c.in_ok-summary.ensures.change c.totals_change.ensures c.settlement_change.ensures
