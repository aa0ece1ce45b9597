use Rattle.std.proofs.Common.{rules}
use Rattle.brk_ref_orders.specs.Records.{abstract_order}
use Rattle.brk_store_transactions.specs.Holds.{HoldsRows}
use Rattle.brk_trade_theorems.specs.OrderPlans.{EstimateFactsMatchTables}
use Rattle.brk_desk_decisions.specs.Estimates.{IsEstimateOfModel}
use Rattle.brk_store_reads.proofs.ReadResults.{decided_on, read_at}
use Rattle.brk_desk_decisions.proofs.Ordering.{estimate_decided}
use Rattle.brk_desk_decisions.proofs.estimate.compute_order_estimate.Goals as goal

pub returns : goal.returns
returns g c =
    let old = c.args.store.now in
    let mid = c.estimate_facts.new.store in
    let end = c.plan_estimate_over_lots.new.lots.store.now in
    let order = c.args.order.now in
    let found = c.in_ok-found.found in
    read_at g.S.Store old end _ (search rules) c.plan_estimate_over_lots.result (IsEstimateOfModel (abstract_order order))
    (decided_on g.S.Store old mid end found (λ f t. EstimateFactsMatchTables t order f) (IsEstimateOfModel (abstract_order order)) c.plan_estimate_over_lots.result
    c.in_ok-found.ensures
    (rw c.lot_pages-lots.ensures.same at c.plan_estimate_over_lots.ensures.store_unchanged)
    (λ clean. estimate_decided order found _ (HoldsRows g.S.Store mid) (λ t h. (clean, c.lot_pages-lots.ensures.remaining t h)) c.plan_estimate_over_lots.result
    c.plan_estimate_over_lots.ensures.planned))
