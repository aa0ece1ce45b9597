use Rattle.std.proofs.Common.{◌∙◌, ap}
use Rattle.brk_model.specs.Lists.{sort_by_key}
use Rattle.brk_model.specs.Tables.{Tables}
use Rattle.brk_store_reads.proofs.Retelling.{retold}
use Rattle.brk_model_explain.specs.Holdings.{LotChange}
use Rattle.brk_explain_reads.specs.HoldingParts.{AreLotChangesByCompletion, AreLotChangesByTradeId}
use Rattle.brk_explain_reads.specs.declared.lot_changes.OpeningAndLaterChanges.{OpeningAndLaterChanges}
use Rattle.brk_explain_reads.proofs.Changes.{turn_known}
use Rattle.brk_explain_reads.proofs.lot_changes.read_changes_of_lot.Goals as goal

pub returns : goal.returns
returns g c =
    let lot = c.args.lot in
    let all = c.in_ok-all.all in
    let told : OpeningAndLaterChanges = record { opening = all.opening; changes_by_others = c.in_ok-changes_by_others.changes_by_others } in
    retold g.S.Store c.args.store.now c.read_changes_in_id_order.new.store all told
    (λ all (t : Tables). AreLotChangesByTradeId t lot all) (λ all (t : Tables). AreLotChangesByCompletion t lot all)
    (λ t k. (k.0, c.in_ok-changes_by_others.ensures ∙ ap (sort_by_key (λ (x : LotChange). x.stamp)) k.1 ∙ turn_known t lot))
    c.in_ok-all.ensures
