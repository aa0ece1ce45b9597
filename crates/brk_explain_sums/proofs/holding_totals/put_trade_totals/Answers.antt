use Rattle.brk_model_explain.specs.Texts.{labeled_amount}
use Rattle.brk_report_lines.specs.Written.{line_with_line_feed}
use Rattle.brk_explain_columns.proofs.Chains.{more, last, on_ok}
use Rattle.std.proofs.Common.{◌≡◌, ◌++◌, [], codes}
use Rattle.brk_model_explain.specs.HoldingLines.{purchase_sale_gain_and_cost_lines}
use Rattle.brk_explain_sums.proofs.holding_totals.put_trade_totals.Goals as goal

pub returns : goal.returns
unfolding purchase_sale_gain_and_cost_lines
returns c =
    let o = c.args.out.now.items in
    let x1 = c.put_amount_fact.new.out.items in
    let a1 = line_with_line_feed (labeled_amount (codes "Purchases") c.args.bought) in
    let x2 = c.put_amount_fact-2.new.out.items in
    let a2 = line_with_line_feed (labeled_amount (codes "Sales") c.args.sold) in
    let x3 = c.put_amount_fact-3.new.out.items in
    let a3 = line_with_line_feed (labeled_amount (codes "Realised gain") c.args.gain) in
    let x4 = c.put_amount_fact-4.new.out.items in
    let a4 = line_with_line_feed (labeled_amount (codes "Cost basis") c.args.cost) in
    let r4 = a4 ++ [] in
    let r3 = a3 ++ r4 in
    let r2 = a2 ++ r3 in
    on_ok {P = x4 ≡ x3 ++ a4} c.put_amount_fact-4.result c.put_amount_fact-4.ensures
    (λ h. more o a1 r2 x1 x4 c.in_ok-put_amount_fact.ensures
    (more x1 a2 r3 x2 x4 c.in_ok-put_amount_fact-2.ensures (more x2 a3 r4 x3 x4 c.in_ok-put_amount_fact-3.ensures (last x3 a4 x4 h))))
