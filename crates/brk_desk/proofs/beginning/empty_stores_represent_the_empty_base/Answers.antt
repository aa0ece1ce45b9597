use Rattle.brk_desk.proofs.AtFirst.{made_keeps}
use Rattle.brk_desk.proofs.beginning.empty_stores_represent_the_empty_base.Goals as goal

pub returns : goal.returns
returns g c = λ store holds. made_keeps g.S.Store store holds
