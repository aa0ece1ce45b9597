use Rattle.brk_model_explain.specs.Texts.{timestamp_text, value_column, shares_column, leading_row_columns}
use Rattle.brk_explain_columns.proofs.Chains.{more}
use Rattle.std.specs.Int.{w128}
use Rattle.std.proofs.Common.{◌≡◌, ◌∙◌, ◌++◌, ◌∷◌, [], ap, codes, pos, of_z, to_z, w64, rules}
use Rattle.brk_model_explain.specs.TradeLines.{lot_closing_line}
use Rattle.brk_explain_lines.proofs.lots_lines.put_closing.Goals as goal

pub returns : goal.returns
unfolding lot_closing_line
returns c =
    let closing = c.args.closing.now in
    let given : to_z w128 (of_z w128 c.from-shares.result) ≡ c.from-shares.result = search rules in
    let shares = given ∙ c.from-shares.ensures ∙ ap pos c.shares_of_closing.ensures in
    let bought = c.in_ok-bought.ensures ∙ ap pos c.buy_value_of_closing.ensures in
    let sold = c.in_ok-sold.ensures ∙ ap pos c.sell_value_of_closing.ensures in
    let left : to_z w64 (of_z w64 closing.after) ≡ closing.after = search rules in
    let o = c.args.out.now.items in
    let x1 = c.put_row_start.new.out.items in
    let t1a = leading_row_columns (codes "Closed") (timestamp_text closing.stamp) closing.lot (to_z w128 (of_z w128 c.from-shares.result)) closing.price in
    let s1 = t1a in
    let h1 = c.in_ok-put_row_start.ensures in
    let x2 = c.align_value.new.out.items in
    let t2a = value_column c.in_ok-bought.bought in
    let s2 = s1 ++ t2a in
    let h2 = more o s1 t2a x1 x2 h1 c.in_ok-align_value.ensures in
    let x3 = c.align_value-2.new.out.items in
    let t3a = value_column c.in_ok-sold.sold in
    let s3 = s2 ++ t3a in
    let h3 = more o s2 t3a x2 x3 h2 c.in_ok-align_value-2.ensures in
    let x4 = c.align_shares.new.out.items in
    let t4a = shares_column (to_z w64 (of_z w64 closing.after)) in
    let s4 = s3 ++ t4a in
    let h4 = more o s3 t4a x3 x4 h3 c.in_ok-align_shares.ensures in
    let x5 = c.end_line.new.out.items in
    let t5a = 10 ∷ [] in
    let h : x5 ≡ x4 ++ t5a = c.in_ok-end_line.ensures in
    more o s4 t5a x4 x5 h4 h
    ∙ (λ i. o ++ ((((((leading_row_columns (codes "Closed") (timestamp_text closing.stamp) closing.lot (shares i) closing.price) ++ (value_column (bought i)))
    ++ (value_column (sold i))) ++ (shares_column (left i))) ++ (10 ∷ []))))
