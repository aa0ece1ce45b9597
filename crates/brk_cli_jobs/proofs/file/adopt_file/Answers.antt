use Rattle.std.proofs.Common.{inr}
use Rattle.brk_cli_jobs.proofs.file.adopt_file.Goals as goal

pub returns-in-Ok-clause-adopted : goal.returns-in-Ok-clause-adopted
returns-in-Ok-clause-adopted g c = inr (c.in-Ok.conn, c.in-Ok.ensures, c.adopt_or_close.ensures.adopted)
