use Rattle.brk_trade_books.proofs.Steps.{empty_rows}
use Rattle.brk_trade_books.proofs.changes.empty_base_has_no_rows.Goals as goal

pub returns : goal.returns
returns c = empty_rows
