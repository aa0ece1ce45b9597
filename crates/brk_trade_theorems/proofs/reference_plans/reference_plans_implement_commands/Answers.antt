use Rattle.brk_trade_theorems.proofs.Planning.{plan_does}
use Rattle.brk_trade_theorems.proofs.reference_plans.reference_plans_implement_commands.Goals as goal

pub returns : goal.returns
returns c = plan_does
