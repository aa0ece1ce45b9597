use Rattle.brk_trade_books.proofs.Trades.{step_cancel}
use Rattle.brk_trade_books.proofs.changes.cancels_change_only_their_rows.Goals as goal

pub returns : goal.returns
returns c = step_cancel
