use Rattle.brk_model.specs.Commands.{Again, Refused}
use Rattle.brk_model_theorems.proofs.RunLaws.{keyed_step-says}
use Rattle.brk_model_theorems.proofs.runs.refusals_and_retries_change_nothing.Goals as goal

pub returns-clause-refused : goal.returns-clause-refused
returns-clause-refused c = λ base after now command key refusal. keyed_step-says base now command key (Refused refusal) after

pub returns-clause-again : goal.returns-clause-again
returns-clause-again c = λ base after now command key line. keyed_step-says base now command key (Again line) after
