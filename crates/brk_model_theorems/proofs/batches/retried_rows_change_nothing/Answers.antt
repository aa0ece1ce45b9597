use Rattle.brk_model_theorems.proofs.PartLaws.{rows-again}
use Rattle.brk_model_theorems.proofs.batches.retried_rows_change_nothing.Goals as goal

pub returns : goal.returns
returns c = rows-again
