use Rattle.brk_cli_jobs.proofs.Served.{serves}
use Rattle.brk_cli_jobs.proofs.serve.execute_serve_job.Goals as goal

pub returns : goal.returns
returns g c =
    serves g.S.Store c.args.rt c.args.at c.args.streams c.new-clock.result c.serve_desk.new.clock c.args.desk.now c.serve_desk.new.desk c.serve_desk.result
    c.ending_of_serving.result c.new-clock.ensures c.ending_of_serving.ensures c.serve_desk.ensures
