use Rattle.std.proofs.Common.{Some, rules}
use Rattle.sqlite.specs.Held.{state}
use Rattle.sqlite.specs.State.{HasCleanDisk}
use Rattle.brk_store_transactions.specs.Holds.{HoldsRows}
use Rattle.brk_store_reads.specs.ReadSequences.{empty_read_sequence_changes_nothing}
use Rattle.brk_store_reads.proofs.ReadResults.{kept_at}
use Rattle.brk_desk_decisions.proofs.SameValues.{same_value}
use Rattle.brk_desk_decisions.proofs.Resulting.{none_over, result_over}
use Rattle.brk_desk_decisions.proofs.result.plan_result_from_facts.Goals as goal

pub returns-in-Some-clause-store_unchanged : goal.returns-in-Some-clause-store_unchanged
returns-in-Some-clause-store_unchanged g c =
    kept_at g.S.Store c.args.store.now c.plan_result_over_lots.new.lots.store.now _ (search rules) (rw c.lot_pages-lots.ensures.same at c.plan_result_over_lots.ensures.store_unchanged)

pub returns-in-Some-clause-planned : goal.returns-in-Some-clause-planned
returns-in-Some-clause-planned g c clean =
    let was : HasCleanDisk (state g.S.Store c.plan_result_over_lots.new.lots.store.now) = search rules in
    rw c.in-Some.is
    (result_over (Some c.in-Some.found) c.args.price _ c.args.last c.args.now (HoldsRows g.S.Store c.args.store.now)
    (λ t holds ls e. (was, rw e (c.lot_pages-lots.ensures.remaining t holds))) c.plan_result_over_lots.result c.plan_result_over_lots.ensures.planned)

pub returns-in-None-clause-store_unchanged : goal.returns-in-None-clause-store_unchanged
returns-in-None-clause-store_unchanged g c = empty_read_sequence_changes_nothing c.args.store.now

pub returns-in-None-clause-planned : goal.returns-in-None-clause-planned
returns-in-None-clause-planned g c clean =
    rw c.in-None.is
    (none_over (HoldsRows g.S.Store c.args.store.now) c.map_err.result (same_value c.plan_result.result c.map_err.result _ _ c.map_err.ensures.cases c.plan_result.ensures.planned))
