use Rattle.brk_trade_theorems.proofs.Planning.{refusal_read, refusal_does}
use Rattle.brk_trade_theorems.proofs.reference_plans.reference_checks_refuse_as_the_model_does.Goals as goal

pub returns-clause-first : goal.returns-clause-first
returns-clause-first c = refusal_read

pub returns-clause-refused : goal.returns-clause-refused
returns-clause-refused c = refusal_does
