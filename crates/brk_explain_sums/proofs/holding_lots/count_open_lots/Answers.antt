use Rattle.std.proofs.Common.{◌≡◌, ◌∙◌, ◌+◌, ℕ, ℤ, ap, cond, length, map, not, of_z, rules, sym, take, to_z, w64}
use Rattle.brk_model_explain.specs.Holdings.{LotDetails, remaining_quantity, lots_not_fully_closed}
use Rattle.brk_explain_rows.specs.Details.{abstract_lot_details}
use Rattle.brk_model.specs.Lists.{is_zero}
use Rattle.brk_explain_columns.proofs.Items.{map_one_more}
use Rattle.brk_explain_columns.proofs.Totals.{counted_more}
use Rattle.brk_explain_sums.proofs.holding_lots.count_open_lots.Goals as goal

-- 1 if the quantity is not 0
abbrev one_for : ℤ → ℕ
one_for z = cond (not (is_zero z)) 1 0

pub loop-lot-preserved : goal.loop-lot-preserved
loop-lot-preserved c =
    let lots = c.args.lots.now in
    let i = c.loop-lot.lot-index in
    let lot = c.lot-item.result in
    let same : to_z w64 (of_z w64 c.remaining_quantity.result) ≡ c.remaining_quantity.result = search rules in
    let one : c.count_as_open.result ≡ one_for (remaining_quantity (abstract_lot_details lot)) = c.count_as_open.ensures ∙ ap one_for (same ∙ c.remaining_quantity.ensures) in
    c.in_ok-count.ensures ∙ (λ k. c.loop-lot.invariant k + one k)
    ∙ sym (counted_more (λ (l : LotDetails). not (is_zero (remaining_quantity l))) (map abstract_lot_details (take i lots)) (abstract_lot_details lot))
    ∙ ap (λ ls. length (lots_not_fully_closed ls)) (sym (map_one_more abstract_lot_details lots i lot c.lot-item.is c.loop-lot-test.true))
