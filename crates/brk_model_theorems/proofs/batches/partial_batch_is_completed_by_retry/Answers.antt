use Rattle.brk_model_theorems.proofs.PartLaws.{completed-by}
use Rattle.brk_model_theorems.proofs.batches.partial_batch_is_completed_by_retry.Goals as goal

pub returns : goal.returns
returns c = completed-by
