use Rattle.std.proofs.Common.{refl}
use Rattle.brk_trade_rows.proofs.schema.Schema.has_cash_move_table.Goals as goal

pub returns-in-First : goal.returns-in-First
returns-in-First c = rw c.in-First.is refl
