use Rattle.brk_model_theorems.proofs.LeftLaws.{done-kept, one-run}
use Rattle.brk_model_theorems.proofs.batches.two_attempts_equal_one_run.Goals as goal

pub returns-clause-run : goal.returns-clause-run
returns-clause-run c = one-run

pub returns-clause-stored : goal.returns-clause-stored
returns-clause-stored c = done-kept
