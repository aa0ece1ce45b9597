use Rattle.brk_model_theorems.proofs.LeftLaws.{left-over}
use Rattle.brk_model_theorems.proofs.batches.rows_with_stored_keys_change_nothing.Goals as goal

pub returns : goal.returns
returns c = left-over
