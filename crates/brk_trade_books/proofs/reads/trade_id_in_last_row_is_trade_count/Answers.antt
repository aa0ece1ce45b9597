use Rattle.brk_trade_books.proofs.TradeReading.{reads_number}
use Rattle.brk_trade_books.proofs.reads.trade_id_in_last_row_is_trade_count.Goals as goal

pub returns : goal.returns
returns c = reads_number
