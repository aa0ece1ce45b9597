use Rattle.brk_trade_books.proofs.TradeKeepers.{books_order}
use Rattle.brk_trade_books.proofs.books.orders_preserve_books_invariant.Goals as goal

pub returns : goal.returns
returns c = books_order
