use Rattle.brk_trade_books.proofs.SumReading.{balance_sums}
use Rattle.brk_trade_books.proofs.reads.balances_equal_opening_plus_cash_rows.Goals as goal

pub returns : goal.returns
returns c = balance_sums
