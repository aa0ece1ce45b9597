use Rattle.brk_model_theorems.proofs.RunLaws.{run-accepted}
use Rattle.brk_model_theorems.proofs.runs.accepted_commands_determine_the_base.Goals as goal

pub returns : goal.returns
returns c = λ base after calls outcomes. run-accepted calls outcomes base after
