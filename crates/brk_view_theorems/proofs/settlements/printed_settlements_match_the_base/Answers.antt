use Rattle.brk_view_theorems.proofs.Amounts.{settles_as_told}
use Rattle.brk_view_theorems.proofs.settlements.printed_settlements_match_the_base.Goals as goal

pub returns : goal.returns
returns c = settles_as_told
