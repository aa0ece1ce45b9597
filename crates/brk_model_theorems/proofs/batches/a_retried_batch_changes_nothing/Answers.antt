use Rattle.brk_model_theorems.proofs.AgainLaws.{comes-again}
use Rattle.brk_model_theorems.proofs.batches.a_retried_batch_changes_nothing.Goals as goal

pub returns : goal.returns
returns c = λ form base later moments others input answers first second. comes-again form base later moments others input answers first second
