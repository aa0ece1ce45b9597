use Rattle.brk_trade_books.proofs.LotReading.{reads_lots}
use Rattle.brk_trade_books.proofs.reads.lot_shares_match_the_base.Goals as goal

pub returns : goal.returns
returns c = reads_lots
