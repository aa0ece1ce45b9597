use Rattle.brk_trade_books.proofs.Movements.{books_deposit, books_one_day, books_withdrawal}
use Rattle.brk_trade_books.proofs.books.movements_and_oneday_preserve_books_invariant.Goals as goal

pub returns : goal.returns
returns c = record { deposit = books_deposit; withdrawal = books_withdrawal; one_day = books_one_day }
