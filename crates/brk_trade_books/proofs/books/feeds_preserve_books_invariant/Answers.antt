use Rattle.brk_trade_books.proofs.TradeKeepers.{books_feed}
use Rattle.brk_trade_books.proofs.books.feeds_preserve_books_invariant.Goals as goal

pub returns : goal.returns
returns c = books_feed
