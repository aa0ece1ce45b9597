use Rattle.brk_http_stamps.proofs.at_desk.StampedServiceService.call.Goals as goal

pub returns : goal.returns
returns g c = record { called = c.call-answered.ensures; stamp = c.stamp_after_command-desk.ensures }
