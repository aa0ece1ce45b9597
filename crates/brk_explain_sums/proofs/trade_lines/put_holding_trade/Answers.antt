use Rattle.brk_model_explain.specs.Texts.{timestamp_text, value_column, shares_column, leading_row_columns}
use Rattle.brk_report_lines.specs.Written.{line_with_line_feed}
use Rattle.brk_explain_columns.proofs.Chains.{more, line_end}
use Rattle.std.specs.Int.{w128}
use Rattle.std.proofs.Common.{◌≡◌, ◌∙◌, ◌++◌, ◌∷◌, codes, of_z, to_z, w64, rules}
use Rattle.brk_model_explain.specs.HoldingLines.{holding_trade_line}
use Rattle.brk_explain_sums.proofs.trade_lines.put_holding_trade.Goals as goal

pub returns : goal.returns
unfolding holding_trade_line
returns c =
    let row = c.args.row.now in
    let given : to_z w128 (of_z w128 c.from-shares.result) ≡ c.from-shares.result = search rules in
    let signed : to_z w64 (of_z w64 c.signed_quantity_of_trade.result) ≡ c.signed_quantity_of_trade.result = search rules in
    let shares = given ∙ c.from-shares.ensures ∙ signed ∙ c.signed_quantity_of_trade.ensures in
    let held : to_z w64 (of_z w64 c.args.held) ≡ c.args.held = search rules in
    let code = c.as_bytes.ensures.value ∙ c.code.ensures in
    let o = c.args.out.now.items in
    let x1 = c.put_row_start.new.out.items in
    let t1a = leading_row_columns (codes "Trade") (timestamp_text row.stamp) row.id (to_z w128 (of_z w128 c.from-shares.result)) c.in_ok-price.price in
    let s1 = t1a in
    let h1 = c.in_ok-put_row_start.ensures in
    let x2 = c.align_value.new.out.items in
    let t2a = value_column c.in_ok-value.value in
    let s2 = s1 ++ t2a in
    let h2 = more o s1 t2a x1 x2 h1 c.in_ok-align_value.ensures in
    let x3 = c.align_shares.new.out.items in
    let t3a = shares_column (to_z w64 (of_z w64 c.args.held)) in
    let s3 = s2 ++ t3a in
    let h3 = more o s2 t3a x2 x3 h2 c.in_ok-align_shares.ensures in
    let x4 = c.put_spaced_line.new.out.items in
    let t4a = 32 ∷ c.as_bytes.result.now in
    let h : x4 ≡ x3 ++ line_with_line_feed t4a = c.in_ok-put_spaced_line.ensures in
    line_end o s3 t4a x3 x4 h3 h
    ∙ (λ i. o ++ (line_with_line_feed
    ((((leading_row_columns (codes "Trade") (timestamp_text row.stamp) row.id (shares i) (c.in_ok-price.ensures i))
    ++ (value_column (c.in_ok-value.ensures i))) ++ (shares_column (held i))) ++ (32 ∷ (code i)))))
