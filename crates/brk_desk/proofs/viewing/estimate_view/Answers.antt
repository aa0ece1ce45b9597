use Rattle.std.proofs.Common.{Err, Ok}
use Rattle.brk_model.specs.Queries.{EstimateOf}
use Rattle.brk_ref_orders.specs.Records.{abstract_order}
use Rattle.brk_view_rows.specs.declared.view.View.TheVariants as views
use Rattle.brk_store_reads.proofs.Retelling.{retold}
use Rattle.brk_desk_decisions.specs.Estimates.{IsEstimateOfModel}
use Rattle.brk_desk_queries.specs.QueryResults.{AnswersQueryAsModel}
use Rattle.brk_desk.proofs.EstimateViews.{estimate_refused, estimate_shown}
use Rattle.brk_desk.proofs.viewing.estimate_view.Goals as goal

pub returns-in-Ok : goal.returns-in-Ok
returns-in-Ok g c =
    let order = abstract_order c.args.order.now in
    retold g.S.Store c.args.store.now c.compute_order_estimate.new.store (Ok c.in-Ok.estimate) (Ok (views.Estimate c.in-Ok.estimate)) (IsEstimateOfModel order) (AnswersQueryAsModel (EstimateOf order))
    (estimate_shown order c.in-Ok.estimate) (rw c.in-Ok.is at c.in_ok-estimate.ensures)

pub returns-in-Err : goal.returns-in-Err
returns-in-Err g c =
    let order = abstract_order c.args.order.now in
    retold g.S.Store c.args.store.now c.compute_order_estimate.new.store (Err c.in-Err.refusal) (Err c.in-Err.refusal) (IsEstimateOfModel order) (AnswersQueryAsModel (EstimateOf order))
    (estimate_refused order c.in-Err.refusal) (rw c.in-Err.is at c.in_ok-estimate.ensures)
