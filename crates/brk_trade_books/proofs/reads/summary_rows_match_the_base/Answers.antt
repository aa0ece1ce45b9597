use Rattle.brk_trade_books.proofs.Summaries.{reads_held, reads_summary_row}
use Rattle.brk_trade_books.proofs.reads.summary_rows_match_the_base.Goals as goal

pub returns : goal.returns
returns c = record {
  row = reads_summary_row;
  number = reads_held;
}
