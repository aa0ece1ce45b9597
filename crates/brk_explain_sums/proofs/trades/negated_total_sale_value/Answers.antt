use Rattle.std.proofs.Common.{◌≡◌, ◌∙◌, ◌+ℤ◌, ℤ, ap, cond, int_lt, map, pos, sym, take}
use Rattle.brk_ref.specs.Rows.{abstract_trade_row}
use Rattle.brk_model_explain.specs.Holdings as holdings
use Rattle.brk_model_explain.specs.Holdings.{signed_value_of_trade}
use Rattle.brk_model.specs.Tables.{TradeRow}
use Rattle.brk_explain_columns.proofs.Items.{map_one_more}
use Rattle.brk_explain_columns.proofs.Totals.{picked_more, total_by-none}
use Rattle.brk_explain_sums.proofs.trades.negated_total_sale_value.Goals as goal

pub loop-row-init : goal.loop-row-init
loop-row-init c = c.new-total.ensures ∙ sym (total_by-none signed_value_of_trade)

pub loop-row-preserved : goal.loop-row-preserved
loop-row-preserved c =
    let done = c.args.done.now in
    let i = c.loop-row.row-index in
    let row = c.row-item.result in
    let us = map abstract_trade_row (take i done) in
    let part : c.negative_part.result ≡ cond (int_lt (signed_value_of_trade (abstract_trade_row row)) (pos 0)) (signed_value_of_trade (abstract_trade_row row)) (pos 0) =
    c.negative_part.ensures ∙ ap (λ (z : ℤ). cond (int_lt z (pos 0)) z (pos 0)) c.in_ok-value.ensures in
    c.in_ok-total.ensures ∙ (λ k. c.loop-row.invariant k +ℤ part k)
    ∙ sym (picked_more signed_value_of_trade (λ (u : TradeRow). int_lt (signed_value_of_trade u) (pos 0)) us (abstract_trade_row row))
    ∙ ap holdings.negated_total_sale_value (sym (map_one_more abstract_trade_row done i row c.row-item.is c.loop-row-test.true))
