use Rattle.brk_model_theorems.proofs.Sides.{one_sided}
use Rattle.brk_model_theorems.proofs.positions.all_shares_have_one_side.Goals as goal

pub returns : goal.returns
returns c = one_sided
