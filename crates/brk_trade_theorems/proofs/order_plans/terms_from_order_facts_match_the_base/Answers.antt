use Rattle.brk_trade_theorems.proofs.OrderFinding.{terms_read}
use Rattle.brk_trade_theorems.proofs.order_plans.terms_from_order_facts_match_the_base.Goals as goal

pub returns : goal.returns
returns c = terms_read
