use Rattle.brk_cli_jobs.proofs.Stamped.{begins}
use Rattle.brk_cli_jobs.proofs.reopening.begin_serving.Goals as goal

pub returns : goal.returns
returns g c =
    begins g.S.Store c.args.store c.read_stamp_from.new.store _ c.read_stamp_from.result c.new.ensures.same c.unwrap_or-stamp.ensures c.read_stamp_from.ensures
