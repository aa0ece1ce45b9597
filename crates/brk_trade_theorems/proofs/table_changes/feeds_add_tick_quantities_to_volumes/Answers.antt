use Rattle.brk_trade_books.proofs.Volumes.{volumes_grow}
use Rattle.brk_trade_theorems.proofs.table_changes.feeds_add_tick_quantities_to_volumes.Goals as goal

pub returns : goal.returns
returns c = volumes_grow
