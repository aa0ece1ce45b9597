use Rattle.brk_trade_books.proofs.Keeping.{kept_rows}
use Rattle.brk_trade_books.proofs.changes.stored_replies_add_only_one_row.Goals as goal

pub returns : goal.returns
returns c = kept_rows
