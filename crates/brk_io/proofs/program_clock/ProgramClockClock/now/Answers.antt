use Rattle.std.proofs.Common.{refl}
use Rattle.brk_io.proofs.program_clock.ProgramClockClock.now.Goals as goal

pub returns-in-At : goal.returns-in-At
returns-in-At g c = rw c.in-At.is (refl, refl)
