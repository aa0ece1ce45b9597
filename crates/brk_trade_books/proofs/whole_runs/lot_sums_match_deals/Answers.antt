use Rattle.brk_trade_books.proofs.RunKeeping.{run_books}
use Rattle.brk_trade_books.proofs.RunLaws.{costs_sum, quantities_sum}
use Rattle.brk_trade_books.proofs.whole_runs.lot_sums_match_deals.Goals as goal

pub returns : goal.returns
returns c = record {
  quantities = λ base after calls outcomes account symbol books r. quantities_sum after account symbol (run_books base calls outcomes after books r);
  costs = λ base after calls outcomes account symbol books r. costs_sum after account symbol (run_books base calls outcomes after books r);
}
