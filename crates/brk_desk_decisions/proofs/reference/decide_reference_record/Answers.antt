use Rattle.brk_trade_plans.specs.Commands.{command_adding_record}
use Rattle.brk_trade_theorems.specs.Decisions.{DecidesCommand}
use Rattle.brk_store_reads.proofs.ReadResults.{decided}
use Rattle.brk_desk_decisions.proofs.SameValues.{same_value}
use Rattle.brk_desk_decisions.proofs.References.{ReferenceFactsAndLastStampMatch, last_and_found, reference_decided}
use Rattle.std.proofs.lemmas.Result.{err_from_is_err_and}
use Rattle.brk_store_reads.specs.ReadSequences.{single_read_changes_nothing}
use Rattle.brk_store_reads.proofs.Sequences.{failed_after}
use Rattle.brk_desk_decisions.proofs.reference.decide_reference_record.Goals as goal

pub returns : goal.returns
returns g c =
    let old = c.args.store.now in
    let mid = c.reference_facts.new.store in
    let r = c.args.reference.now in
    let last = c.in_ok-last.last in
    let found = c.in_ok-found.found in
    decided g.S.Store old mid found (λ f. ReferenceFactsAndLastStampMatch r f last) (DecidesCommand c.args.now (command_adding_record r)) c.map_err.result
    (last_and_found g.S.Store old c.last_stamp.new.self mid r found last c.in_ok-last.ensures.read c.in_ok-found.ensures)
    (same_value c.plan_reference.result c.map_err.result _ _ c.map_err.ensures.cases
    (reference_decided r found last c.args.now c.get-moment.ensures.high c.plan_reference.result c.plan_reference.ensures.planned))

pub returns-in_err-found : goal.returns-in_err-found
returns-in_err-found g c =
    let old = c.args.store.now in
    let p = err_from_is_err_and c.from_residual-in_err-found.result c.from_residual-in_err-found.ensures.1 in
    rw p.1 (failed_after g.S.Store old c.last_stamp.new.self c.reference_facts.new.store _ p.0 _ _
    (single_read_changes_nothing old c.last_stamp.new.self _ _ c.in_ok-last.ensures.read) c.in_err-found.ensures)
