use Rattle.std.proofs.Common.{refl}
use Rattle.brk_io.proofs.program_clock.ProgramClock.new.Goals as goal

pub returns-in-Some : goal.returns-in-Some
returns-in-Some g c = rw c.in-Some.is refl
