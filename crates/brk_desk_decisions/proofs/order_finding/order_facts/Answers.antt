use Rattle.std.proofs.Common.{◌≡◌}
use Rattle.brk_money.specs.declared.fault.CallFault.{CallFault}
use Rattle.brk_model.specs.Tables.{Tables}
use Rattle.brk_trade_theorems.specs.OrderPlans.{EstimateFactsMatchTables, OrderFactsMatchTables}
use Rattle.brk_trade_books.specs.OrderReads.{trade_id_in_last_row}
use Rattle.brk_store_reads.proofs.Sequences.{failed_after, read_with}
use Rattle.brk_desk_decisions.proofs.OrderFinds.{with_last_trade}
use Rattle.std.proofs.lemmas.Result.{err_from_is_err_and}
use Rattle.brk_store_reads.specs.ReadSequences.{single_read_changes_nothing}
use Rattle.brk_desk_decisions.proofs.order_finding.order_facts.Goals as goal

pub returns : goal.returns
returns g c =
    let order = c.args.order.now in
    let found = c.in_ok-found.found in
    let last = c.in_ok-last_trade.last_trade in
    read_with g.S.Store c.args.store.now c.estimate_facts.new.store c.greatest_trade_id.new.self {H = CallFault} found last (record found { last_trade = last })
    (λ found (t : Tables). EstimateFactsMatchTables t order found) (λ last (t : Tables). last ≡ trade_id_in_last_row t) (λ found (t : Tables). OrderFactsMatchTables t order found)
    (λ t k e. record { estimate = with_last_trade t order found last k; last_trade = λ p. e })
    c.in_ok-found.ensures c.in_ok-last_trade.ensures.read

pub returns-in_err-last_trade : goal.returns-in_err-last_trade
returns-in_err-last_trade g c =
    let old = c.args.store.now in
    let p = err_from_is_err_and c.from_residual-in_err-last_trade.result c.from_residual-in_err-last_trade.ensures.1 in
    rw p.1 (failed_after g.S.Store old c.estimate_facts.new.store c.greatest_trade_id.new.self _ p.0 _ _
    (single_read_changes_nothing old c.estimate_facts.new.store _ _ c.in_ok-found.ensures) c.in_err-last_trade.ensures.read)
