use Rattle.brk_trade_theorems.proofs.Correcting.{update_does, update_read, update_refused}
use Rattle.brk_trade_theorems.proofs.update_plans.update_plans_implement_commands.Goals as goal

pub returns-clause-first : goal.returns-clause-first
returns-clause-first c = update_read

pub returns-clause-refused : goal.returns-clause-refused
returns-clause-refused c = update_refused

pub returns-clause-done : goal.returns-clause-done
returns-clause-done c = update_does
