use Rattle.brk_trade_books.proofs.ResultKeeping.{step_result}
use Rattle.brk_trade_books.proofs.changes.results_change_only_their_rows.Goals as goal

pub returns : goal.returns
returns c = step_result
