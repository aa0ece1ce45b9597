use Rattle.brk_trade_theorems.proofs.MovePlanning.{move_plan_does, move_read, move_refused}
use Rattle.brk_trade_theorems.proofs.move_plans.movement_plans_implement_commands.Goals as goal

pub returns : goal.returns
returns c = record { first = move_read; refused = move_refused; done = move_plan_does }
