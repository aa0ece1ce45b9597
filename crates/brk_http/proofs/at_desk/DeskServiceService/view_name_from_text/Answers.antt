use Rattle.brk_http.proofs.Named.{named}
use Rattle.brk_http.proofs.at_desk.DeskServiceService.view_name_from_text.Goals as goal

pub returns : goal.returns
returns g c = named c.args.name.now c.from_text.result c.from_text.ensures
