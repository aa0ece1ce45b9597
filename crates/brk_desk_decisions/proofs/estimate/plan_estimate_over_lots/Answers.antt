use Rattle.std.proofs.Common.{arith}
use Rattle.brk_desk_decisions.proofs.estimate.plan_estimate_over_lots.Goals as goal

pub returns-in-Ok-Ok-clause-same_reference : goal.returns-in-Ok-Ok-clause-same_reference
returns-in-Ok-Ok-clause-same_reference g c = c.plan_estimate.ensures.leads.0

pub returns-in-Ok-Ok-clause-store_unchanged : goal.returns-in-Ok-Ok-clause-store_unchanged
returns-in-Ok-Ok-clause-store_unchanged g c = c.plan_estimate.ensures.leads.1

pub returns-in-Ok-Ok-clause-few_rows_read : goal.returns-in-Ok-Ok-clause-few_rows_read
returns-in-Ok-Ok-clause-few_rows_read g c ls trade stamp lifo given fresh =
    omega (arith, c.plan_estimate.ensures.asked ls trade stamp lifo given fresh, c.plan_estimate.new.source.page.few)

pub returns-in-Ok-Err-clause-same_reference : goal.returns-in-Ok-Err-clause-same_reference
returns-in-Ok-Err-clause-same_reference g c = c.plan_estimate.ensures.leads.0

pub returns-in-Ok-Err-clause-store_unchanged : goal.returns-in-Ok-Err-clause-store_unchanged
returns-in-Ok-Err-clause-store_unchanged g c = c.plan_estimate.ensures.leads.1

pub returns-in-Ok-Err-clause-few_rows_read : goal.returns-in-Ok-Err-clause-few_rows_read
returns-in-Ok-Err-clause-few_rows_read g c ls trade stamp lifo given fresh =
    omega (arith, c.plan_estimate.ensures.asked ls trade stamp lifo given fresh, c.plan_estimate.new.source.page.few)

pub returns-in-Err-clause-same_reference : goal.returns-in-Err-clause-same_reference
returns-in-Err-clause-same_reference g c = c.plan_estimate.ensures.leads.0

pub returns-in-Err-clause-store_unchanged : goal.returns-in-Err-clause-store_unchanged
returns-in-Err-clause-store_unchanged g c = c.plan_estimate.ensures.leads.1

pub returns-in-Err-clause-few_rows_read : goal.returns-in-Err-clause-few_rows_read
returns-in-Err-clause-few_rows_read g c ls trade stamp lifo given fresh =
    omega (arith, c.plan_estimate.ensures.asked ls trade stamp lifo given fresh, c.plan_estimate.new.source.page.few)
