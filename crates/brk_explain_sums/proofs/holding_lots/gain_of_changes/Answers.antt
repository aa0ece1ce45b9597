use Rattle.std.proofs.Common.{◌∙◌, ◌+ℤ◌, ap, map, sym, take}
use Rattle.brk_model_explain.specs.Holdings.{realised_gain_of_change}
use Rattle.brk_explain_rows.specs.Details.{abstract_priced_lot_change}
use Rattle.brk_model.specs.Lists.{total_by}
use Rattle.brk_explain_columns.proofs.Items.{map_one_more}
use Rattle.brk_explain_columns.proofs.Totals.{total_by-more, total_by-none}
use Rattle.brk_explain_sums.proofs.holding_lots.gain_of_changes.Goals as goal

pub loop-change-init : goal.loop-change-init
loop-change-init c = c.new-total.ensures ∙ sym (total_by-none (realised_gain_of_change c.args.price))

pub loop-change-preserved : goal.loop-change-preserved
loop-change-preserved c =
    let changes = c.args.changes.now in
    let i = c.loop-change.change-index in
    let change = c.change-item.result in
    let gain_of = realised_gain_of_change c.args.price in
    c.in_ok-total.ensures ∙ (λ k. c.loop-change.invariant k +ℤ c.in_ok-gain.ensures k)
    ∙ sym (total_by-more gain_of (map abstract_priced_lot_change (take i changes)) (abstract_priced_lot_change change))
    ∙ ap (total_by gain_of) (sym (map_one_more abstract_priced_lot_change changes i change c.change-item.is c.loop-change-test.true))
