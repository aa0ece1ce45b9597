use Rattle.std.proofs.Common.{refl}
use Rattle.brk_trade_rows.proofs.schema.Schema.number.Goals as goal

pub returns-in-Second : goal.returns-in-Second
returns-in-Second c = rw c.in-Second.is refl
