use Rattle.brk_cli_jobs.proofs.Adopted.{stands_if}
use Rattle.brk_cli_jobs.proofs.file.adopt_connection.Goals as goal

pub returns-clause-represented : goal.returns-clause-represented
returns-clause-represented g c =
    stands_if g.S.Store g.met.S.Store.settled c.args.conn c.adopt.result _ c.adopt.ensures.adopted c.adopt.ensures.tested c.adopt.ensures.assumed
