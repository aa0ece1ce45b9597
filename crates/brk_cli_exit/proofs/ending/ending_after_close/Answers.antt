use Rattle.std.proofs.Common.{rules, tests}
use Rattle.brk_cli_exit.proofs.ending.ending_after_close.Goals as goal

pub returns-in-Done-Err : goal.returns-in-Done-Err
returns-in-Done-Err c = search (rules, tests)
