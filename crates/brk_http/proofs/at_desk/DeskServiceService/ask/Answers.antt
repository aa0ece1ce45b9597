use Rattle.brk_http.proofs.Acted.{asked}
use Rattle.brk_http.proofs.at_desk.DeskServiceService.ask.Goals as goal

pub returns : goal.returns
returns g c = asked g.S.Store _ _ 0 _ _ c.ask.ensures.asked
