use Rattle.brk_cli_jobs.proofs.Sequence.{with_program_clock}
use Rattle.brk_cli_jobs.proofs.serve.execute_serve_job_in_file.Goals as goal

pub returns : goal.returns
returns g c =
    with_program_clock g.S.Store g.F.DeskFiles.opens g.F.DeskFiles.closes c.args.path.now c.args.rt c.args.at c.args.streams c.new-clock.result c.args.store
    c.serve_file_by.result c.new-clock.ensures c.serve_file_by.ensures
