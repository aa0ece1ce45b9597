use Rattle.brk_trade_books.proofs.Steps.{empty_books}
use Rattle.brk_trade_books.proofs.books.empty_base_satisfies_books_invariant.Goals as goal

pub returns : goal.returns
returns c = empty_books
