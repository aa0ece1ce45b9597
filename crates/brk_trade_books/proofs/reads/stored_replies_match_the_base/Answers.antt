use Rattle.brk_trade_books.proofs.Keeping.{reads_kept}
use Rattle.brk_trade_books.proofs.reads.stored_replies_match_the_base.Goals as goal

pub returns : goal.returns
returns c = reads_kept
