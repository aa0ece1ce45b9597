use Rattle.std.proofs.Common.{◌≡◌, ◌==◌, ◌∙◌, ◌+◌, ◌++◌, ◌∷◌, [], ℕ, List, ap, filter, map, sym, take}
use Rattle.std.proofs.lemmas.List.{take_all}
use Rattle.brk_money.specs.declared.fault.CallFault.{CallFault}
use Rattle.brk_ref.specs.Rows.{abstract_lot_change_row}
use Rattle.brk_ref.specs.declared.lot_change.LotChange.{LotChange}
use Rattle.brk_model.specs.Tables.{HoldingHistoryRow, Tables}
use Rattle.brk_store_reads.proofs.Retelling.{retold}
use Rattle.brk_view_rows.specs.Lots.{stamped_lot_change}
use Rattle.brk_view_rows.specs.declared.touched_lots.LotTouch.{LotTouch}
use Rattle.brk_desk_queries.specs.Touched.{stamped_changes_of_lot, last_status_stamp}
use Rattle.brk_desk_queries.proofs.Each.{list_more, map_map}
use Rattle.std.proofs.lemmas.Result.{err_from_is_err_and}
use Rattle.brk_store_reads.specs.ReadSequences.{single_read_changes_nothing}
use Rattle.brk_store_reads.proofs.Sequences.{failed_after, none_read, read_with, unchanged_after}
use Rattle.brk_desk_queries.proofs.touched_lots.stamped_lot_changes.Goals as goal

-- the first changes of a lot
abbrev FirstChanges : ℕ → List LotChange → List LotTouch → ℕ → Tables → Type 0
FirstChanges lot rows touches i t =
    (map abstract_lot_change_row rows ≡ filter (λ (r : HoldingHistoryRow). r.lot == lot) t.holding_history) × (touches ≡ map (λ r. stamped_lot_change t (abstract_lot_change_row r)) (take i rows))

pub loop-row-init : goal.loop-row-init
loop-row-init g c =
    retold g.S.Store c.args.store.now c.lot_changes_of_lot.new.self c.in_ok-rows.rows tt
    (λ all (t : Tables). map abstract_lot_change_row all.items ≡ filter (λ (r : HoldingHistoryRow). r.lot == c.args.lot) t.holding_history)
    (λ _. FirstChanges c.args.lot c.deref-row-items.result.now c.new-touches.result.items 0)
    (λ t e. (ap (map abstract_lot_change_row) c.deref-row-items.ensures.value ∙ e, c.new-touches.ensures.items))
    c.in_ok-rows.ensures.read

pub loop-row-preserved : goal.loop-row-preserved
loop-row-preserved g c =
    let rows = c.deref-row-items.result.now in
    let i = c.loop-row.row-index in
    let row = c.row-item.result in
    let stamp = c.in_ok-stamp.stamp in
    let with : ℕ → LotTouch = λ s. record { change = row; stamp = s } in
    let before = c.loop-row.touches.items in
    rw c.in_ok-push.ensures.items
    (read_with g.S.Store c.args.store.now c.loop-row.store c.require_stamp.new.store {H = CallFault} tt stamp tt
    (λ _. FirstChanges c.args.lot rows before i)
    (λ stamp (t : Tables). stamp ≡ last_status_stamp t row.trade)
    (λ _. FirstChanges c.args.lot rows (before ++ with stamp ∷ []) (i + 1))
    (λ t p e. (p.0, list_more (λ r. stamped_lot_change t (abstract_lot_change_row r)) rows i row before (with stamp) c.loop-row-test.true c.row-item.is p.1 (ap with e)))
    c.loop-row.invariant c.in_ok-stamp.ensures)

pub returns : goal.returns
returns g c =
    let rows = c.deref-row-items.result.now in
    retold g.S.Store c.args.store.now c.loop-row.store tt c.loop-row.touches
    (λ _. FirstChanges c.args.lot rows c.loop-row.touches.items c.loop-row.row-index)
    (λ touches (t : Tables). touches.items ≡ stamped_changes_of_lot t c.args.lot)
    (λ t p. p.1 ∙ ap (map (λ r. stamped_lot_change t (abstract_lot_change_row r))) (take_all c.loop-row.row-index rows c.loop-row-test.false)
    ∙ sym (map_map (stamped_lot_change t) abstract_lot_change_row rows) ∙ ap (map (stamped_lot_change t)) p.0)
    c.loop-row.invariant

pub returns-in_err-stamp : goal.returns-in_err-stamp
returns-in_err-stamp g c =
    let old = c.args.store.now in
    let p = err_from_is_err_and c.from_residual-in_err-stamp.result c.from_residual-in_err-stamp.ensures.1 in
    rw p.1 (failed_after g.S.Store old c.loop-row.store c.require_stamp.new.store _ p.0 _ _
    (single_read_changes_nothing old c.loop-row.store _ _ c.loop-row.invariant) c.in_err-stamp.ensures)

pub returns-in_err-push : goal.returns-in_err-push
returns-in_err-push g c =
    let old = c.args.store.now in
    let p = err_from_is_err_and c.from_residual-in_err-push.result c.from_residual-in_err-push.ensures.1 in
    rw p.1 (none_read g.S.Store old c.require_stamp.new.store p.0 _
    (unchanged_after g.S.Store old c.loop-row.store c.require_stamp.new.store _ _
    (single_read_changes_nothing old c.loop-row.store _ _ c.loop-row.invariant) c.in_ok-stamp.ensures))
