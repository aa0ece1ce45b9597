use Rattle.brk_trade_books.proofs.Summaries.{reads_held}
use Rattle.brk_view_theorems.proofs.GainLaws.{holding_as_told}
use Rattle.brk_view_theorems.proofs.MovedShares.{moves_its_shares}
use Rattle.brk_view_theorems.proofs.gains.printed_gains_match_the_deals.Goals as goal

pub returns : goal.returns
returns c = record {
  holding = holding_as_told;
  trade = moves_its_shares;
  quantity = reads_held;
}
