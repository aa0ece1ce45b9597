use Rattle.brk_model.specs.Commands.{SetOneDay}
use Rattle.brk_trade_theorems.specs.Decisions.{DecidesCommand}
use Rattle.brk_store_reads.proofs.ReadResults.{decided}
use Rattle.brk_desk_decisions.proofs.SameValues.{same_value}
use Rattle.brk_desk_decisions.proofs.OneDays.{OneDaySettlementAndLastStampMatch, last_and_rule, one_day_decided}
use Rattle.std.proofs.lemmas.Result.{err_from_is_err_and}
use Rattle.brk_store_reads.specs.ReadSequences.{single_read_changes_nothing}
use Rattle.brk_store_reads.proofs.Sequences.{failed_after}
use Rattle.brk_desk_decisions.proofs.one_day.decide_oneday.Goals as goal

pub returns : goal.returns
returns g c =
    let old = c.args.store.now in
    let mid = c.one_day_start.new.self in
    let day = c.args.day in
    let last = c.in_ok-last.last in
    let rule = c.in_ok-rule.rule in
    decided g.S.Store old mid rule (λ r. OneDaySettlementAndLastStampMatch r last) (DecidesCommand c.args.now (SetOneDay day)) c.map_err.result
    (last_and_rule g.S.Store old c.last_stamp.new.self mid rule last c.in_ok-last.ensures.read c.in_ok-rule.ensures.read)
    (same_value c.plan_oneday.result c.map_err.result _ _ c.map_err.ensures.cases
    (one_day_decided day rule last c.args.now c.get-moment.ensures.high c.plan_oneday.result c.plan_oneday.ensures.planned))

pub returns-in_err-rule : goal.returns-in_err-rule
returns-in_err-rule g c =
    let old = c.args.store.now in
    let p = err_from_is_err_and c.from_residual-in_err-rule.result c.from_residual-in_err-rule.ensures.1 in
    rw p.1 (failed_after g.S.Store old c.last_stamp.new.self c.one_day_start.new.self _ p.0 _ _
    (single_read_changes_nothing old c.last_stamp.new.self _ _ c.in_ok-last.ensures.read) c.in_err-rule.ensures.read)
