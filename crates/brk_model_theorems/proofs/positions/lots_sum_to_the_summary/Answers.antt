use Rattle.brk_model_theorems.proofs.LotLaws.{lots-after, lots-total}
use Rattle.brk_model_theorems.proofs.positions.lots_sum_to_the_summary.Goals as goal

pub returns-clause-numbered : goal.returns-clause-numbered
returns-clause-numbered c = lots-total

pub returns-clause-run : goal.returns-clause-run
returns-clause-run c = lots-after
