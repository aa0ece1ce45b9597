use Rattle.brk_model_explain.specs.Texts.{value_column, leading_row_columns, blank_timestamp_text}
use Rattle.brk_explain_columns.proofs.Chains.{more}
use Rattle.std.specs.Int.{w128}
use Rattle.std.proofs.Common.{◌≡◌, ◌∙◌, ◌++◌, ◌∷◌, [], codes, of_z, to_z, w64, rules}
use Rattle.brk_model_explain.specs.HoldingLines.{lot_remainder_line}
use Rattle.brk_explain_sums.proofs.lot_lines.put_remainder.Goals as goal

pub returns : goal.returns
unfolding lot_remainder_line
returns c =
    let lot = c.args.lot.now in
    let given : to_z w128 (of_z w128 c.from-left.result) ≡ c.from-left.result = search rules in
    let remaining : to_z w64 (of_z w64 c.remaining_quantity.result) ≡ c.remaining_quantity.result = search rules in
    let left = given ∙ c.from-left.ensures ∙ remaining ∙ c.remaining_quantity.ensures in
    let o = c.args.out.now.items in
    let x1 = c.put_undated_row_start.new.out.items in
    let t1a = leading_row_columns (codes "Left") blank_timestamp_text lot.trade.id (to_z w128 (of_z w128 c.from-left.result)) c.in_ok-price.price in
    let s1 = t1a in
    let h1 = c.in_ok-put_undated_row_start.ensures in
    let x2 = c.align_value.new.out.items in
    let t2a = value_column c.in_ok-cost.cost in
    let s2 = s1 ++ t2a in
    let h2 = more o s1 t2a x1 x2 h1 c.in_ok-align_value.ensures in
    let x3 = c.end_line.new.out.items in
    let t3a = 10 ∷ [] in
    let h : x3 ≡ x2 ++ t3a = c.in_ok-end_line.ensures in
    more o s2 t3a x2 x3 h2 h
    ∙ (λ i. o ++ ((((leading_row_columns (codes "Left") blank_timestamp_text lot.trade.id (left i) (c.in_ok-price.ensures i)) ++ (value_column (c.in_ok-cost.ensures i))) ++ (10 ∷ []))))
