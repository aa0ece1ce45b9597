use Rattle.brk_model_theorems.proofs.StoppedLaws.{stopped-completed}
use Rattle.brk_model_theorems.proofs.batches.interrupted_batch_is_completed_by_retry.Goals as goal

pub returns : goal.returns
returns c = stopped-completed
