use Rattle.std.proofs.Common.{◌∙◌, ap, map}
use Rattle.std.proofs.lemmas.List.{take_all}
use Rattle.brk_audit.specs.Positions.{deal_of_completed_row}
use Rattle.brk_ref.specs.Rows.{abstract_trade_row}
use Rattle.brk_lots.specs.Lots.{abstract_deal}
use Rattle.brk_audit.proofs.Pushed.{pushed_more}
use Rattle.brk_audit.proofs.positions.deals_of_trades.Goals as goal

pub loop-row-preserved : goal.loop-row-preserved
loop-row-preserved c =
    pushed_more abstract_deal (λ row. deal_of_completed_row (abstract_trade_row row.now)) c.args.run.now c.loop-row.row-index c.row-item.result
    c.loop-row.deals.items _ c.completed_deal.result c.loop-row-test.true c.row-item.is c.loop-row.invariant c.completed_deal.ensures c.in_ok-push.ensures.items

pub returns : goal.returns
returns c =
    c.loop-row.invariant ∙ ap (map (λ row. deal_of_completed_row (abstract_trade_row row.now))) (take_all c.loop-row.row-index c.args.run.now c.loop-row-test.false)
