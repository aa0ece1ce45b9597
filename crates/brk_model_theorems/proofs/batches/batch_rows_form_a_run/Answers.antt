use Rattle.brk_model_theorems.proofs.RunLaws.{rows-run}
use Rattle.brk_model_theorems.proofs.batches.batch_rows_form_a_run.Goals as goal

pub returns : goal.returns
returns c = λ base after calls answers. rows-run base calls answers after
