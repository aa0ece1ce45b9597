use Rattle.brk_cli_jobs.proofs.Asked.{asks}
use Rattle.brk_cli_jobs.proofs.reopening.fails_with_store.Goals as goal

pub returns-clause-asked : goal.returns-clause-asked
returns-clause-asked g c =
    asks g.S.Store c.args.desk.now.desk c.ask-answered.new.self c.args.query.now c.ask-answered.result c.has_store_fault.result c.has_store_fault.ensures
    c.ask-answered.ensures.asked
