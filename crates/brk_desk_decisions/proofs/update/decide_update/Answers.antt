use Rattle.std.proofs.Common.{◌≡◌}
use Rattle.brk_money.specs.declared.fault.CallFault.{CallFault}
use Rattle.brk_model.specs.Tables.{Tables}
use Rattle.brk_ref_orders.specs.Records.{text_update_command}
use Rattle.brk_trade_theorems.specs.Decisions.{DecidesCommand}
use Rattle.brk_store_reads.proofs.ReadResults.{decided}
use Rattle.brk_store_reads.proofs.Sequences.{none_read, read_with_reads}
use Rattle.brk_trade_theorems.specs.Corrections.{UpdateFactsMatchTables}
use Rattle.brk_desk_decisions.proofs.SameValues.{same_value}
use Rattle.brk_desk_decisions.proofs.Updates.{UpdateFactsAndLastStampMatch, update_decided}
use Rattle.std.proofs.lemmas.Result.{err_from_is_err_and}
use Rattle.brk_store_reads.specs.ReadSequences.{joined_reads_change_nothing, single_read_changes_nothing}
use Rattle.brk_desk_decisions.proofs.update.decide_update.Goals as goal

pub returns : goal.returns
returns g c =
    let old = c.args.store.now in
    let u = c.args.update.now in
    let last = c.in_ok-last.last in
    let found = c.in_ok-found.found in
    decided g.S.Store old c.update_facts.new.store found (λ f. UpdateFactsAndLastStampMatch u f last) (DecidesCommand c.args.now (text_update_command u)) c.map_err.result
    (read_with_reads g.S.Store old c.last_stamp.new.self c.update_facts.new.store {H = CallFault} last found found (λ last (t : Tables). last ≡ t.last)
    (λ f (t : Tables). UpdateFactsMatchTables t u f) (λ f. UpdateFactsAndLastStampMatch u f last)
    (λ t e f. (e, f)) c.in_ok-last.ensures.read c.in_ok-found.ensures)
    (same_value c.plan_update.result c.map_err.result _ _ c.map_err.ensures.cases
    (update_decided u found last c.args.now c.get-moment.ensures.high c.plan_update.result c.plan_update.ensures.planned))

pub returns-in_err-found : goal.returns-in_err-found
returns-in_err-found g c =
    let old = c.args.store.now in
    let p = err_from_is_err_and c.from_residual-in_err-found.result c.from_residual-in_err-found.ensures.1 in
    rw p.1 (none_read g.S.Store old c.update_facts.new.store p.0 _
    (joined_reads_change_nothing old c.last_stamp.new.self c.update_facts.new.store
    (single_read_changes_nothing old c.last_stamp.new.self _ _ c.in_ok-last.ensures.read) c.in_err-found.ensures.unchanged))
