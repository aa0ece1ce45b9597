use Rattle.brk_trade_theorems.proofs.MovePlanning.{one_day_plan_does, one_day_read, one_day_refused}
use Rattle.brk_trade_theorems.proofs.move_plans.one_day_settlement_plans_implement_commands.Goals as goal

pub returns : goal.returns
returns c = record { first = one_day_read; refused = one_day_refused; done = one_day_plan_does }
