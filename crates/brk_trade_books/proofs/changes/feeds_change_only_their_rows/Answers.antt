use Rattle.brk_trade_books.proofs.Trades.{step_feed, step_triggered}
use Rattle.brk_trade_books.proofs.changes.feeds_change_only_their_rows.Goals as goal

pub returns-clause-rows : goal.returns-clause-rows
returns-clause-rows c = step_feed

pub returns-clause-triggered : goal.returns-clause-triggered
returns-clause-triggered c = step_triggered
