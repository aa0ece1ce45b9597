use Rattle.std.proofs.Common.{refl, rules}
use Rattle.brk_cli_exit.proofs.ending.ending_status.Goals as goal

pub returns-in-ClosedPipe : goal.returns-in-ClosedPipe
returns-in-ClosedPipe c = rw c.in-ClosedPipe.is refl

pub returns-in-Usage-Words : goal.returns-in-Usage-Words
returns-in-Usage-Words c = search rules
