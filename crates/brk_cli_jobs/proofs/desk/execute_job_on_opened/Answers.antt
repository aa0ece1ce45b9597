use Rattle.brk_cli_jobs.proofs.Placed.{on_opened}
use Rattle.brk_cli_jobs.proofs.desk.execute_job_on_opened.Goals as goal

pub returns-in-Ok : goal.returns-in-Ok
returns-in-Ok g c =
    on_opened g.S.Store g.F.DeskFiles.closes c.args.rt c.args.job.now g.F.DeskFiles.opens c.args.path.now c.args.opened c.in-Ok.store _ _ c.in-Ok.is
    c.execute_job_on_file_store.ensures
