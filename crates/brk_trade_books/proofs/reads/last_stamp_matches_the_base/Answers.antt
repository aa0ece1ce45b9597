use Rattle.brk_trade_books.proofs.Reading.{reads_last}
use Rattle.brk_trade_books.proofs.reads.last_stamp_matches_the_base.Goals as goal

pub returns : goal.returns
returns c = reads_last
