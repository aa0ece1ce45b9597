use Rattle.brk_cli_jobs.proofs.Batched.{executes}
use Rattle.brk_cli_jobs.proofs.batch.execute_batch_job.Goals as goal

pub returns : goal.returns
returns g c =
    executes g.S.Store c.args.desk.now c.run_batch.new.desk
    (record { input = g.R.Read.remaining c.args.input; before = g.W.Write.contents c.args.output.now; after = g.W.Write.contents c.run_batch.new.writer })
    c.run_batch.result c.args.rt c.args.at c.new-clock.result c.run_batch.new.clock c.ending_of_batch.result c.new-clock.ensures c.ending_of_batch.ensures
    c.run_batch.ensures.changed_only_by_calls c.run_batch.ensures.refines_model c.run_batch.ensures.crash_safe
