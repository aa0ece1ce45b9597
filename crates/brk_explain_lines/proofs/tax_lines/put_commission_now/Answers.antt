use Rattle.brk_model_explain.specs.TradeLines.{current_commission_line}
use Rattle.brk_explain_lines.proofs.tax_lines.put_commission_now.Goals as goal

pub returns-in-Some : goal.returns-in-Some
unfolding current_commission_line
returns-in-Some c = rw c.in-Some.is (rw c.from.ensures at c.put_amount_fact.ensures)

pub returns-in-None : goal.returns-in-None
unfolding current_commission_line
returns-in-None c = rw c.in-None.is c.put_value_fact.ensures
