use Rattle.brk_model.specs.Commands.{CompleteTrade}
use Rattle.brk_store_transactions.specs.Holds.{HoldsRows}
use Rattle.brk_trade_theorems.specs.Decisions.{DecidesCommand}
use Rattle.brk_store_reads.proofs.ReadResults.{decided_on}
use Rattle.brk_desk_decisions.proofs.Resulting.{ResultFactsAndLastStampMatch, last_and_found, result_decided}
use Rattle.std.proofs.lemmas.Result.{err_from_is_err_and}
use Rattle.brk_store_reads.specs.ReadSequences.{single_read_changes_nothing}
use Rattle.brk_store_reads.proofs.Sequences.{failed_after}
use Rattle.brk_desk_decisions.proofs.result.decide_result.Goals as goal

pub returns : goal.returns
returns g c =
    let old = c.args.store.now in
    let mid = c.facts_of_result.new.store in
    let end = c.plan_result_from_facts.new.store in
    let id = c.args.completion.now.trade in
    let price = c.args.completion.now.price in
    let last = c.in_ok-last.last in
    let found = c.in_ok-found.found in
    decided_on g.S.Store old mid end found (ResultFactsAndLastStampMatch id last) (DecidesCommand c.args.now (CompleteTrade id price)) c.plan_result_from_facts.result
    (last_and_found g.S.Store old c.last_stamp.new.self mid id last found c.in_ok-last.ensures.read c.in_ok-found.ensures.read)
    c.plan_result_from_facts.ensures.store_unchanged
    (λ clean. result_decided id price last c.args.now c.get-moment.ensures.high found c.in_ok-found.ensures.some_shares (HoldsRows g.S.Store mid)
    c.plan_result_from_facts.result (c.plan_result_from_facts.ensures.planned clean))

pub returns-in_err-found : goal.returns-in_err-found
returns-in_err-found g c =
    let old = c.args.store.now in
    let p = err_from_is_err_and c.from_residual-in_err-found.result c.from_residual-in_err-found.ensures.1 in
    rw p.1 (failed_after g.S.Store old c.last_stamp.new.self c.facts_of_result.new.store _ p.0 _ _
    (single_read_changes_nothing old c.last_stamp.new.self _ _ c.in_ok-last.ensures.read) c.in_err-found.ensures.read)
