use Rattle.brk_model_theorems.proofs.BatchLaws.{computes}
use Rattle.brk_model_theorems.proofs.batches.batch_computes_the_specified_result.Goals as goal

pub returns : goal.returns
returns c = computes
