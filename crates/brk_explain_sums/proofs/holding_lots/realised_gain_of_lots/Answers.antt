use Rattle.std.proofs.Common.{◌∙◌, ◌+ℤ◌, ap, map, sym, take}
use Rattle.brk_model_explain.specs.Holdings as holdings
use Rattle.brk_explain_rows.specs.Details.{abstract_lot_details}
use Rattle.brk_explain_columns.proofs.Items.{map_one_more}
use Rattle.brk_explain_columns.proofs.Totals.{total_by-more, total_by-none}
use Rattle.brk_explain_sums.proofs.holding_lots.realised_gain_of_lots.Goals as goal

pub loop-lot-init : goal.loop-lot-init
loop-lot-init c = c.new-total.ensures ∙ sym (total_by-none holdings.realised_gain_of_lot)

pub loop-lot-preserved : goal.loop-lot-preserved
loop-lot-preserved c =
    let lots = c.args.lots.now in
    let i = c.loop-lot.lot-index in
    let lot = c.lot-item.result in
    c.in_ok-total.ensures ∙ (λ k. c.loop-lot.invariant k +ℤ c.in_ok-gain.ensures k)
    ∙ sym (total_by-more holdings.realised_gain_of_lot (map abstract_lot_details (take i lots)) (abstract_lot_details lot))
    ∙ ap holdings.realised_gain_of_lots (sym (map_one_more abstract_lot_details lots i lot c.lot-item.is c.loop-lot-test.true))
