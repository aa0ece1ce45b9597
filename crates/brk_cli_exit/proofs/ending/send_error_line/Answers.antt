use Rattle.std.proofs.Common.{rules, tests}
use Rattle.brk_cli_exit.proofs.ending.send_error_line.Goals as goal

pub returns-in-Output-clause-ok : goal.returns-in-Output-clause-ok
returns-in-Output-clause-ok g c = search (rules, tests)
