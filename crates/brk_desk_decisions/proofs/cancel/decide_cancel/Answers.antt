use Rattle.brk_model.specs.Commands.{CancelTrade}
use Rattle.brk_trade_theorems.specs.Decisions.{DecidesCommand}
use Rattle.brk_desk_decisions.proofs.SameValues.{same_value}
use Rattle.brk_desk_decisions.proofs.Cancels.{TradeStatusAndLastStampMatch, last_and_status, cancel_decided}
use Rattle.brk_store_reads.proofs.ReadResults.{decided}
use Rattle.std.proofs.lemmas.Result.{err_from_is_err_and}
use Rattle.brk_store_reads.specs.ReadSequences.{single_read_changes_nothing}
use Rattle.brk_store_reads.proofs.Sequences.{failed_after}
use Rattle.brk_desk_decisions.proofs.cancel.decide_cancel.Goals as goal

pub returns : goal.returns
returns g c =
    let old = c.args.store.now in
    let mid = c.read_status.new.store in
    let id = c.args.trade in
    let last = c.in_ok-last.last in
    let status = c.in_ok-status.status in
    decided g.S.Store old mid status (λ f. TradeStatusAndLastStampMatch id f last) (DecidesCommand c.args.now (CancelTrade id)) c.map_err.result
    (last_and_status g.S.Store old c.last_stamp.new.self mid id status last c.in_ok-last.ensures.read c.in_ok-status.ensures)
    (same_value c.plan_cancel.result c.map_err.result _ _ c.map_err.ensures.cases
    (cancel_decided id status last c.args.now c.get-moment.ensures.high c.plan_cancel.result c.plan_cancel.ensures.planned))

pub returns-in_err-status : goal.returns-in_err-status
returns-in_err-status g c =
    let old = c.args.store.now in
    let p = err_from_is_err_and c.from_residual-in_err-status.result c.from_residual-in_err-status.ensures.1 in
    rw p.1 (failed_after g.S.Store old c.last_stamp.new.self c.read_status.new.store _ p.0 _ _
    (single_read_changes_nothing old c.last_stamp.new.self _ _ c.in_ok-last.ensures.read) c.in_err-status.ensures)
