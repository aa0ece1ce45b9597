use Rattle.brk_trade_books.proofs.LotOrder.{position_read}
use Rattle.brk_trade_books.proofs.RunKeeping.{run_books}
use Rattle.brk_trade_books.proofs.RunLaws.{lot_lives, lots_spelled, shares_spelled}
use Rattle.brk_trade_books.proofs.whole_runs.lots_match_replayed_shares.Goals as goal

pub returns : goal.returns
returns c = record {
  position = λ base after calls outcomes account symbol books r. position_read after account symbol (run_books base calls outcomes after books r);
  shares = λ base after calls outcomes account symbol books r. shares_spelled after account symbol (run_books base calls outcomes after books r);
  lots = λ base after calls outcomes account symbol books r. lots_spelled after account symbol (run_books base calls outcomes after books r);
  histories = λ base after calls outcomes account symbol lot books r. lot_lives after account symbol lot (run_books base calls outcomes after books r);
}
