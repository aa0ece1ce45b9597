use Rattle.brk_trade_books.proofs.AddingUp.{sums_add_up}
use Rattle.brk_trade_books.proofs.RunKeeping.{run_books}
use Rattle.brk_trade_books.proofs.whole_runs.table_sums_match_their_rows.Goals as goal

pub returns : goal.returns
returns c = record {
  base = sums_add_up;
  run = λ base after calls outcomes books r. sums_add_up after (run_books base calls outcomes after books r);
}
