use Rattle.brk_http_stamps.proofs.Keeping.{query_keeps}
use Rattle.brk_http_stamps.proofs.at_desk.StampedServiceService.ask.Goals as goal

pub returns : goal.returns
returns g c = record { called = c.ask.ensures; stamp = query_keeps c.args.desk.now.stamp c.ask.result }
