use Rattle.std.proofs.Common.{rules, tests, arith}
use Rattle.brk_io.proofs.program_clock.stamp_of_system_time.Goals as goal

pub returns-in-Ok : goal.returns-in-Ok
returns-in-Ok c = search (rules, tests, arith)
