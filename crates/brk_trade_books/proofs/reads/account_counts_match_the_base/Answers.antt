use Rattle.brk_trade_books.proofs.Reading.{reads_count}
use Rattle.brk_trade_books.proofs.reads.account_counts_match_the_base.Goals as goal

pub returns : goal.returns
returns c = reads_count
