use Rattle.std.proofs.Common.{◌≡◌, ◌∙◌, ap, map, of_z, rules, sym, take, to_z, w64}
use Rattle.brk_explain_rows.specs.Details.{abstract_priced_lot_change}
use Rattle.brk_explain_sums.specs.HoldingTexts.{quantity_after_changes}
use Rattle.brk_explain_columns.proofs.Items.{map_one_more}
use Rattle.brk_explain_sums.proofs.Left.{after_last}
use Rattle.brk_explain_sums.proofs.holding_lots.quantity_after_changes.Goals as goal

pub loop-change-preserved : goal.loop-change-preserved
loop-change-preserved c =
    let changes = c.args.changes.now in
    let i = c.loop-change.change-index in
    let change = c.change-item.result in
    let opened = to_z w64 (of_z w64 c.args.opened) in
    let same : to_z w64 (of_z w64 change.after) ≡ change.after = search rules in
    same ∙ sym (after_last opened (map abstract_priced_lot_change (take i changes)) (abstract_priced_lot_change change))
    ∙ ap (quantity_after_changes opened) (sym (map_one_more abstract_priced_lot_change changes i change c.change-item.is c.loop-change-test.true))
