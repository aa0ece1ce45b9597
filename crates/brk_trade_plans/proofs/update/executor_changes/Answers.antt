use Rattle.std.proofs.Common.{◌∙◌, ap}
use Rattle.brk_trade_rows.specs.Changes.{tables_after_change}
use Rattle.brk_trade_plans.specs.Update.{tables_with_updated_executor_name}
use Rattle.brk_trade_plans.proofs.Mapped.{one_more}
use Rattle.brk_trade_plans.proofs.update.executor_changes.Goals as goal

pub loop-trade-preserved : goal.loop-trade-preserved
loop-trade-preserved c =
    one_more tables_after_change tables_with_updated_executor_name c.args.trades.now c.loop-trade.trade-index c.trade-item.result c.loop-trade.changes.items c.push.new.self.items
    c.in_ok-change.change c.loop-trade-test.true c.in_ok-push.ensures.items c.loop-trade.invariant (c.in_ok-change.ensures.change ∙ ap tables_with_updated_executor_name c.trade-item.is)
