use Rattle.std.proofs.Common.{◌≡◌, ◌==◌, ◌∙◌, ◌++◌, ℕ, List, filter, map, refl, sym, take}
use Rattle.std.specs.Prelude.{flat_map}
use Rattle.brk_money.specs.declared.fault.CallFault.{CallFault}
use Rattle.brk_ref.specs.Rows.{abstract_lot_change_row}
use Rattle.brk_ref.specs.declared.lot_change.LotChange.{LotChange}
use Rattle.brk_model.specs.Lists.{sort_by}
use Rattle.brk_model.specs.Tables.{HoldingHistoryRow, Tables}
use Rattle.brk_store_reads.proofs.Retelling.{retold}
use Rattle.brk_view_rows.specs.Lots.{is_earlier_lot_change}
use Rattle.brk_view_rows.specs.declared.touched_lots.LotTouch.{LotTouch}
use Rattle.brk_view_rows.specs.declared.touched_lots.TouchedLots.{TouchedLots}
use Rattle.brk_desk_queries.specs.Touched.{AreTouchedLotsOfTrade, stamped_changes_of_lot}
use Rattle.brk_desk_queries.proofs.LotViews.{all_done, kept_more, none_kept}
use Rattle.std.proofs.lemmas.Result.{err_from_is_err_and}
use Rattle.brk_store_reads.specs.ReadSequences.{single_read_changes_nothing}
use Rattle.brk_store_reads.proofs.Sequences.{failed_after, none_read, read_with, unchanged_after}
use Rattle.brk_desk_queries.proofs.touched_lots.touched_lots_of_trade.Goals as goal

-- the last changes that a trade made are done: the first of what became of their lots are kept
abbrev AreKept : ℕ → List LotChange → List LotTouch → Tables → Type 0
AreKept trade rest kept t =
    (done : List LotChange) × (map abstract_lot_change_row (rest ++ done) ≡ filter (λ (r : HoldingHistoryRow). r.trade == trade) t.holding_history)
    × (kept ≡ take 20 (sort_by is_earlier_lot_change (flat_map (λ r. stamped_changes_of_lot t r.lot) (map abstract_lot_change_row done))))

pub loop-change-init : goal.loop-change-init
loop-change-init g c =
    let rest = c.in_ok-rest.rest in
    retold g.S.Store c.args.store.now c.lot_changes_by_trade.new.self rest tt
    (λ all (t : Tables). map abstract_lot_change_row all.items ≡ filter (λ (r : HoldingHistoryRow). r.trade == c.args.trade) t.holding_history)
    (λ _. AreKept c.args.trade rest.items c.new-kept.result.items)
    (λ t e. none_kept t rest.items c.new-kept.result.items _ c.new-kept.ensures.items e)
    c.in_ok-rest.ensures.read

pub loop-change-preserved : goal.loop-change-preserved
loop-change-preserved g c =
    let before = c.loop-change.rest.items in
    let rest = c.pop.new.self.items in
    let change = c.in-Some.change in
    let touches = c.in_ok-touches.touches in
    read_with g.S.Store c.args.store.now c.loop-change.store c.stamped_lot_changes.new.store {H = CallFault} tt touches tt
    (λ _. AreKept c.args.trade before c.loop-change.kept.items)
    (λ touches (t : Tables). touches.items ≡ stamped_changes_of_lot t change.lot)
    (λ _. AreKept c.args.trade rest c.merge_touches.new.kept.items)
    (λ t p e. kept_more t before rest change touches.items c.loop-change.kept.items c.merge_touches.new.kept.items _
    c.in-Some.ensures.items e c.in_ok-merge_touches.ensures p)
    c.loop-change.invariant c.in_ok-touches.ensures

pub returns : goal.returns
returns g c =
    let trade = c.args.trade in
    let rest = c.loop-change.rest in
    let kept = c.loop-change.kept in
    let lots : TouchedLots = record { trade = trade; changes = kept } in
    retold g.S.Store c.args.store.now c.loop-change.store tt lots
    (λ _. AreKept trade rest.items kept.items)
    (AreTouchedLotsOfTrade trade)
    (λ t p. (refl, all_done t rest.items kept.items _ (sym rest.ok.0 ∙ c.in_default.ensures.cases.0) p))
    c.loop-change.invariant

pub returns-in_err-touches : goal.returns-in_err-touches
returns-in_err-touches g c =
    let old = c.args.store.now in
    let p = err_from_is_err_and c.from_residual-in_err-touches.result c.from_residual-in_err-touches.ensures.1 in
    rw p.1 (failed_after g.S.Store old c.loop-change.store c.stamped_lot_changes.new.store _ p.0 _ _
    (single_read_changes_nothing old c.loop-change.store _ _ c.loop-change.invariant) c.in_err-touches.ensures)

pub returns-in_err-merge_touches : goal.returns-in_err-merge_touches
returns-in_err-merge_touches g c =
    let old = c.args.store.now in
    let p = err_from_is_err_and c.from_residual-in_err-merge_touches.result c.from_residual-in_err-merge_touches.ensures.1 in
    rw p.1 (none_read g.S.Store old c.stamped_lot_changes.new.store p.0 _
    (unchanged_after g.S.Store old c.loop-change.store c.stamped_lot_changes.new.store _ _
    (single_read_changes_nothing old c.loop-change.store _ _ c.loop-change.invariant) c.in_ok-touches.ensures))
