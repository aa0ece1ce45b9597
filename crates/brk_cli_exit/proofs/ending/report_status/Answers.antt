use Rattle.std.proofs.Common.{refl}
use Rattle.brk_cli_exit.proofs.ending.report_status.Goals as goal

pub returns-in-Write : goal.returns-in-Write
returns-in-Write c = rw c.in-Write.is refl
