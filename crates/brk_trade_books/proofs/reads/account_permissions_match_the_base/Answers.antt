use Rattle.brk_trade_books.proofs.TradeReading.{reads_permitted}
use Rattle.brk_trade_books.proofs.reads.account_permissions_match_the_base.Goals as goal

pub returns : goal.returns
returns c = reads_permitted
