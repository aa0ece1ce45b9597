use Rattle.std.proofs.Common.{◌≡◌, map, take}
use Rattle.brk_trade_rows.specs.Changes.{tables_after_change}
use Rattle.brk_trade_plans.specs.Update.{tables_with_updated_executor_name}
use Rattle.brk_trade_plans.proofs.update.executor_changes.Given as goal

abbrev pub invariant-loop-trade : goal.invariant-loop-trade
invariant-loop-trade l = map tables_after_change l.changes.items ≡ map tables_with_updated_executor_name (take l.trade-index l.trades)
