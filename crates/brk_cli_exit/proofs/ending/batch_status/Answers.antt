use Rattle.std.proofs.Common.{rules, tests}
use Rattle.brk_cli_exit.proofs.ending.batch_status.Goals as goal

pub returns-in-Read : goal.returns-in-Read
returns-in-Read c = search (rules, tests)
