use Rattle.brk_trade_books.proofs.Movements.{step_deposit, step_withdrawal}
use Rattle.brk_trade_books.proofs.changes.movements_change_only_their_rows.Goals as goal

pub returns : goal.returns
returns c = record { deposit = step_deposit; withdrawal = step_withdrawal }
