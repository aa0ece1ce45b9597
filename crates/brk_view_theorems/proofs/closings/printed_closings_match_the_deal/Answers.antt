use Rattle.brk_view_theorems.proofs.ClosingLaws.{closes_as_told}
use Rattle.brk_view_theorems.proofs.closings.printed_closings_match_the_deal.Goals as goal

pub returns : goal.returns
returns c = closes_as_told
