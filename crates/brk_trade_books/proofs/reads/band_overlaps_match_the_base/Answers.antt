use Rattle.brk_trade_books.proofs.TermReading.{reads_overlap}
use Rattle.brk_trade_books.proofs.reads.band_overlaps_match_the_base.Goals as goal

pub returns : goal.returns
returns c = reads_overlap
