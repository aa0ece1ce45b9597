use Rattle.brk_lots.specs.Sources.{EqualsLots}
use Rattle.brk_trade_theorems.proofs.OrderDoing.{estimate_refused, estimate_told, estimate_answered}
use Rattle.brk_trade_theorems.proofs.order_plans.estimates_equal_model_estimates.Goals as goal

pub returns-clause-refused : goal.returns-clause-refused
returns-clause-refused c = estimate_refused

pub returns-clause-estimate : goal.returns-clause-estimate
returns-clause-estimate c base order found lots = estimate_told base order found (EqualsLots lots)

pub returns-clause-answered : goal.returns-clause-answered
returns-clause-answered c base order found lots = estimate_answered base order found (EqualsLots lots)
