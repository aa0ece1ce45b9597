use Rattle.brk_model_theorems.proofs.RunLaws.{stamps-rise}
use Rattle.brk_model_theorems.proofs.runs.accepted_stamps_ascend_strictly.Goals as goal

pub returns : goal.returns
returns c = λ base after calls outcomes. stamps-rise calls outcomes base after
