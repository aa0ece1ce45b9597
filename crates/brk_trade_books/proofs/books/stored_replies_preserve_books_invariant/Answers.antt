use Rattle.brk_trade_books.proofs.Keepers.{books_kept}
use Rattle.brk_trade_books.proofs.books.stored_replies_preserve_books_invariant.Goals as goal

pub returns : goal.returns
returns c = books_kept
