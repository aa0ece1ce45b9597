use Rattle.brk_trade_books.proofs.TradeReading.{reads_apart}
use Rattle.brk_trade_books.proofs.reads.requests_belong_to_distinct_trades.Goals as goal

pub returns : goal.returns
returns c = reads_apart
