use Rattle.brk_trade_plans.proofs.Replacing.{held_if_found}
use Rattle.brk_trade_plans.proofs.wording.contains_part.Goals as goal

-- src/wording.rt:32:1
pub returns : goal.returns
returns c = held_if_found c.args.part.now c.args.text.now c.contains.result c.contains.ensures.cases
