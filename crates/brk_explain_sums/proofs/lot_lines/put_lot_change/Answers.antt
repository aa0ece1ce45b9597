use Rattle.brk_model_explain.specs.Texts.{timestamp_text, value_column, shares_column, leading_row_columns}
use Rattle.brk_explain_columns.proofs.Chains.{more}
use Rattle.std.specs.Int.{w128}
use Rattle.std.proofs.Common.{◌≡◌, ◌∙◌, ◌++◌, ◌∷◌, [], codes, of_z, to_z, w64, rules}
use Rattle.brk_model_explain.specs.HoldingLines.{lot_change_line}
use Rattle.brk_explain_sums.proofs.lot_lines.put_lot_change.Goals as goal

pub returns : goal.returns
unfolding lot_change_line
returns c =
    let change = c.args.change.now in
    let given : to_z w128 (of_z w128 c.qty_increase-shares.result) ≡ c.qty_increase-shares.result = search rules in
    let shares = given ∙ c.qty_increase-shares.ensures in
    let left : to_z w64 (of_z w64 change.after) ≡ change.after = search rules in
    let o = c.args.out.now.items in
    let x1 = c.put_row_start.new.out.items in
    let t1a = leading_row_columns (codes "Change") (timestamp_text change.stamp) change.trade (to_z w128 (of_z w128 c.qty_increase-shares.result)) change.price in
    let s1 = t1a in
    let h1 = c.in_ok-put_row_start.ensures in
    let x2 = c.align_value.new.out.items in
    let t2a = value_column c.in_ok-gain.gain in
    let s2 = s1 ++ t2a in
    let h2 = more o s1 t2a x1 x2 h1 c.in_ok-align_value.ensures in
    let x3 = c.align_shares.new.out.items in
    let t3a = shares_column (to_z w64 (of_z w64 change.after)) in
    let s3 = s2 ++ t3a in
    let h3 = more o s2 t3a x2 x3 h2 c.in_ok-align_shares.ensures in
    let x4 = c.end_line.new.out.items in
    let t4a = 10 ∷ [] in
    let h : x4 ≡ x3 ++ t4a = c.in_ok-end_line.ensures in
    more o s3 t4a x3 x4 h3 h
    ∙ (λ i. o ++ (((((leading_row_columns (codes "Change") (timestamp_text change.stamp) change.trade (shares i) change.price)
    ++ (value_column (c.in_ok-gain.ensures i))) ++ (shares_column (left i))) ++ (10 ∷ []))))
