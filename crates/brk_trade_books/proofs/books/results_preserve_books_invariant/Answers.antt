use Rattle.brk_trade_books.proofs.ResultKeeping.{books_result}
use Rattle.brk_trade_books.proofs.books.results_preserve_books_invariant.Goals as goal

pub returns : goal.returns
returns c = books_result
