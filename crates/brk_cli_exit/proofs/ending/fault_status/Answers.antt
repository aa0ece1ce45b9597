use Rattle.std.proofs.Common.{refl}
use Rattle.brk_cli_exit.proofs.ending.fault_status.Goals as goal

pub returns-in-Damaged : goal.returns-in-Damaged
returns-in-Damaged c = rw c.in-Damaged.is refl
