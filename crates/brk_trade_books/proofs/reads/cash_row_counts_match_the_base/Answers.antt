use Rattle.brk_trade_books.proofs.MoveReading.{moves_counted, reads_last_move}
use Rattle.brk_trade_books.proofs.reads.cash_row_counts_match_the_base.Goals as goal

pub returns : goal.returns
returns c = record { rows = reads_last_move; movements = moves_counted }
