use Rattle.brk_trade_books.proofs.TradeKeepers.{books_cancel}
use Rattle.brk_trade_books.proofs.books.cancels_preserve_books_invariant.Goals as goal

pub returns : goal.returns
returns c = books_cancel
