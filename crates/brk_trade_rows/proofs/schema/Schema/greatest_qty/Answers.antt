use Rattle.std.proofs.Common.{refl}
use Rattle.brk_trade_rows.proofs.schema.Schema.greatest_qty.Goals as goal

pub returns-in-Third : goal.returns-in-Third
returns-in-Third c = rw c.in-Third.is refl
