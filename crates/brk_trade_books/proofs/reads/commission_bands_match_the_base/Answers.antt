use Rattle.brk_trade_books.proofs.BandReading.{reads_band}
use Rattle.brk_trade_books.proofs.reads.commission_bands_match_the_base.Goals as goal

pub returns : goal.returns
returns c = reads_band
