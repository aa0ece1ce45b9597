use Rattle.brk_http.proofs.Acted.{has_outcome}
use Rattle.brk_http.proofs.at_desk.DeskServiceService.call.Goals as goal

pub returns : goal.returns
returns g c = has_outcome g.S.Store _ _ c.args.now _ _ _ c.call.ensures.called
