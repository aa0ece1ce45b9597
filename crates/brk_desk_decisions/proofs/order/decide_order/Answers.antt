use Rattle.std.proofs.Common.{rules}
use Rattle.brk_model.specs.Commands.{PlaceOrder}
use Rattle.brk_ref_orders.specs.Records.{abstract_order}
use Rattle.brk_store_transactions.specs.Holds.{HoldsRows}
use Rattle.brk_trade_theorems.specs.Decisions.{DecidesCommand}
use Rattle.brk_store_reads.proofs.ReadResults.{decided_on, read_at}
use Rattle.brk_desk_decisions.proofs.Ordering.{OrderFactsAndLastStampMatch, order_decided, order_read}
use Rattle.std.proofs.lemmas.Result.{err_from_is_err_and}
use Rattle.brk_store_reads.specs.ReadSequences.{single_read_changes_nothing}
use Rattle.brk_store_reads.proofs.Sequences.{failed_after}
use Rattle.brk_desk_decisions.proofs.order.decide_order.Goals as goal

pub returns : goal.returns
returns g c =
    let old = c.args.store.now in
    let mid = c.order_facts.new.store in
    let end = c.plan_order_over_lots.new.lots.store.now in
    let order = c.args.order.now in
    let last = c.in_ok-last.last in
    let found = c.in_ok-found.found in
    read_at g.S.Store old end _ (search rules) c.plan_order_over_lots.result (DecidesCommand c.args.now (PlaceOrder (abstract_order order)))
    (decided_on g.S.Store old mid end found (OrderFactsAndLastStampMatch order last) (DecidesCommand c.args.now (PlaceOrder (abstract_order order))) c.plan_order_over_lots.result
    (order_read g.S.Store old c.last_stamp.new.self mid order last found c.in_ok-last.ensures.read c.in_ok-found.ensures)
    (rw c.lot_pages-lots.ensures.same at c.plan_order_over_lots.ensures.store_unchanged)
    (λ clean. order_decided order found last c.args.now _ c.get-moment.ensures.high (HoldsRows g.S.Store mid)
    (λ t h. (clean, c.lot_pages-lots.ensures.remaining t h)) c.plan_order_over_lots.result c.plan_order_over_lots.ensures.planned))

pub returns-in_err-found : goal.returns-in_err-found
returns-in_err-found g c =
    let old = c.args.store.now in
    let p = err_from_is_err_and c.from_residual-in_err-found.result c.from_residual-in_err-found.ensures.1 in
    rw p.1 (failed_after g.S.Store old c.last_stamp.new.self c.order_facts.new.store _ p.0 _ _
    (single_read_changes_nothing old c.last_stamp.new.self _ _ c.in_ok-last.ensures.read) c.in_err-found.ensures)
