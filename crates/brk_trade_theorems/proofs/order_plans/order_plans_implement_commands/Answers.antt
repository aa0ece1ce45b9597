use Rattle.brk_lots.specs.Sources.{EqualsLots}
use Rattle.brk_trade_theorems.proofs.OrderDoing.{order_refusal_read, order_refused, plan_order_does}
use Rattle.brk_trade_theorems.proofs.order_plans.order_plans_implement_commands.Goals as goal

pub returns-clause-first : goal.returns-clause-first
returns-clause-first c = order_refusal_read

pub returns-clause-refused : goal.returns-clause-refused
returns-clause-refused c = order_refused

pub returns-clause-done : goal.returns-clause-done
returns-clause-done c base order found lots = plan_order_does base order found (EqualsLots lots)
