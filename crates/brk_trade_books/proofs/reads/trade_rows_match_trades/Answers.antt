use Rattle.brk_trade_books.proofs.TradeReading.{reads_trade}
use Rattle.brk_trade_books.proofs.reads.trade_rows_match_trades.Goals as goal

pub returns : goal.returns
returns c = reads_trade
