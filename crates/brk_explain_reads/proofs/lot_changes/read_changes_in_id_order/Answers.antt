use Rattle.std.proofs.Common.{◌≡◌, ◌==◌, ◌∙◌, ◌+◌, ◌++◌, ◌∷◌, [], ℕ, List, ap, filter, find, map, not, take}
use Rattle.std.proofs.lemmas.List.{take_all}
use Rattle.brk_money.specs.declared.fault.CallFault.{CallFault}
use Rattle.brk_ref.specs.Rows as rows
use Rattle.brk_ref.specs.declared.lot_change.LotChange.{LotChange}
use Rattle.brk_model.specs.Tables.{HoldingHistoryRow, Tables}
use Rattle.brk_store_reads.proofs.Retelling.{retold}
use Rattle.brk_model_explain.specs.Holdings.{recorded_lot_change}
use Rattle.brk_explain_rows.specs.Details.{abstract_priced_lot_change}
use Rattle.brk_explain_rows.specs.declared.holding_details.PricedLotChange.{PricedLotChange}
use Rattle.brk_explain_reads.specs.HoldingParts.{AreLotChangesByTradeId}
use Rattle.brk_explain_reads.specs.declared.lot_changes.OpeningAndLaterChanges.{OpeningAndLaterChanges}
use Rattle.brk_explain_reads.proofs.Changes.{steps_known}
use Rattle.brk_explain_reads.proofs.Each.{one_more}
use Rattle.brk_store_reads.proofs.Sequences.{read_with, none_read}
use Rattle.brk_explain_reads.proofs.Reading.{both_change_nothing}
use Rattle.std.proofs.lemmas.Result.{err_from_is_err_and}
use Rattle.brk_explain_reads.proofs.lot_changes.read_changes_in_id_order.Goals as goal

-- the changes of a lot, and the first of the later ones with their prices
abbrev FirstChanges : ℕ → List LotChange → List LotChange → List PricedLotChange → ℕ → Tables → Type 0
FirstChanges lot changes later changes_by_others i t =
    (map rows.abstract_lot_change_row changes ≡ filter (λ (r : HoldingHistoryRow). r.lot == lot) t.holding_history)
    × (map abstract_priced_lot_change changes_by_others ≡ map (λ h. recorded_lot_change t (rows.abstract_lot_change_row h)) (take i later))

pub loop-change-init : goal.loop-change-init
loop-change-init g c =
    let changes = c.in_ok-changes.changes in
    retold g.S.Store c.args.store.now c.lot_changes_of_lot.new.self changes tt
    (λ all (t : Tables). map rows.abstract_lot_change_row all.items ≡ filter (λ (r : HoldingHistoryRow). r.lot == c.args.lot) t.holding_history)
    (λ _. FirstChanges c.args.lot changes.items c.deref-change-items.result.now c.new-changes_by_others.result.items 0)
    (λ t e. (e, ap (map abstract_priced_lot_change) c.new-changes_by_others.ensures.items))
    c.in_ok-changes.ensures.read

pub loop-change-preserved : goal.loop-change-preserved
loop-change-preserved g c =
    let changes = c.in_ok-changes.changes.items in
    let later = c.deref-change-items.result.now in
    let i = c.loop-change.change-index in
    let change = c.change-item.result in
    let before = c.loop-change.changes_by_others.items in
    let priced_change = c.in_ok-priced_change.priced_change in
    rw c.in_ok-push.ensures.items
    (read_with g.S.Store c.args.store.now c.loop-change.store c.read_priced_change.new.store {H = CallFault} tt priced_change tt
    (λ _. FirstChanges c.args.lot changes later before i)
    (λ priced_change (t : Tables). abstract_priced_lot_change priced_change ≡ recorded_lot_change t (rows.abstract_lot_change_row change))
    (λ _. FirstChanges c.args.lot changes later (before ++ priced_change ∷ []) (i + 1))
    (λ t p e. (
      p.0,
      one_more abstract_priced_lot_change (λ h. recorded_lot_change t (rows.abstract_lot_change_row h)) before later i priced_change change
          c.loop-change-test.true c.change-item.is e p.1,
    ))
    c.loop-change.invariant c.in_ok-priced_change.ensures)

pub returns : goal.returns
returns g c =
    let changes = c.in_ok-changes.changes.items in
    let later = c.deref-change-items.result.now in
    let changes_by_others = c.loop-change.changes_by_others in
    let i = c.loop-change.change-index in
    let all : OpeningAndLaterChanges = record { opening = c.opening_of_lot-opening.result; changes_by_others = changes_by_others } in
    retold g.S.Store c.args.store.now c.loop-change.store tt all
    (λ _. FirstChanges c.args.lot changes later changes_by_others.items i)
    (λ all (t : Tables). AreLotChangesByTradeId t c.args.lot all)
    (λ t p. steps_known t c.args.lot changes later all p.0
    (ap (map rows.abstract_lot_change_row) c.deref-change-items.ensures.value ∙ c.in_ok-later.ensures
    ∙ ap (λ hs. filter (λ (r : HoldingHistoryRow). not (r.trade == c.args.lot)) (map rows.abstract_lot_change_row hs)) c.deref-2.ensures.value)
    (c.opening_of_lot-opening.ensures ∙ ap (λ hs. find (λ (r : HoldingHistoryRow). r.trade == c.args.lot) (map rows.abstract_lot_change_row hs)) c.deref.ensures.value)
    (p.1 ∙ ap (map (λ h. recorded_lot_change t (rows.abstract_lot_change_row h))) (take_all i later c.loop-change-test.false)))
    c.loop-change.invariant

pub returns-in_err-priced_change : goal.returns-in_err-priced_change
returns-in_err-priced_change g c =
    let old = c.args.store.now in
    let mid = c.loop-change.store in
    let end = c.read_priced_change.new.store in
    let p = err_from_is_err_and c.from_residual-in_err-priced_change.result c.from_residual-in_err-priced_change.ensures.1 in
    rw p.1 (none_read g.S.Store old end p.0 _ (both_change_nothing g.S.Store old mid end _ _ _ _ c.loop-change.invariant c.in_err-priced_change.ensures))

pub returns-in_err-push : goal.returns-in_err-push
returns-in_err-push g c =
    let old = c.args.store.now in
    let mid = c.loop-change.store in
    let end = c.read_priced_change.new.store in
    let p = err_from_is_err_and c.from_residual-in_err-push.result c.from_residual-in_err-push.ensures.1 in
    rw p.1 (none_read g.S.Store old end p.0 _ (both_change_nothing g.S.Store old mid end _ _ _ _ c.loop-change.invariant c.in_ok-priced_change.ensures))
