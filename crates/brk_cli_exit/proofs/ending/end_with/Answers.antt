use Rattle.std.proofs.Common.{rules, tests}
use Rattle.brk_cli_exit.proofs.ending.end_with.Goals as goal

pub returns-clause-line : goal.returns-clause-line
returns-clause-line g c = search (rules, tests)
