use Rattle.std.proofs.Common.{arith}
use Rattle.brk_desk_decisions.proofs.SameValues.{same_value}
use Rattle.brk_desk_decisions.proofs.order.plan_order_over_lots.Goals as goal

pub returns-clause-same_reference : goal.returns-clause-same_reference
returns-clause-same_reference g c = c.plan_order.ensures.leads.0

pub returns-clause-store_unchanged : goal.returns-clause-store_unchanged
returns-clause-store_unchanged g c = c.plan_order.ensures.leads.1

pub returns-clause-few_rows_read : goal.returns-clause-few_rows_read
returns-clause-few_rows_read g c ls trade stamp lifo given fresh =
    omega (arith, c.plan_order.ensures.asked ls trade stamp lifo given fresh, c.plan_order.new.source.page.few)

pub returns-clause-planned : goal.returns-clause-planned
returns-clause-planned g c = same_value c.plan_order.result c.map_err.result _ _ c.map_err.ensures.cases c.plan_order.ensures.planned

pub returns-clause-refused : goal.returns-clause-refused
returns-clause-refused g c = same_value c.plan_order.result c.map_err.result _ _ c.map_err.ensures.cases c.plan_order.ensures.refused
