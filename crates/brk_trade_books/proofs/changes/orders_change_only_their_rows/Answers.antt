use Rattle.brk_trade_books.proofs.Trades.{step_order}
use Rattle.brk_trade_books.proofs.changes.orders_change_only_their_rows.Goals as goal

pub returns : goal.returns
returns c = step_order
