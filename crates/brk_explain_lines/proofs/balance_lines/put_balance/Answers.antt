use Rattle.std.proofs.Common.{◌≡◌, ◌∙◌, ◌+ℤ◌, ℤ, [], ◌∷◌, ◌++◌, ap, codes}
use Rattle.brk_model_explain.specs.Texts.{labeled_amount}
use Rattle.brk_model_explain.specs.TradeLines.{trade_balance_lines, trade_cash_row_line}
use Rattle.brk_model_explain.specs.Trades.{balance_after_trade, balance_before_trade}
use Rattle.brk_explain_rows.specs.Details.{abstract_order_details, abstract_result_details}
use Rattle.brk_model.specs.Statement.{text_of_lines}
use Rattle.brk_report_lines.specs.Written.{line_with_line_feed}
use Rattle.brk_explain_columns.proofs.Chains.{last, more}
use Rattle.brk_explain_lines.proofs.balance_lines.put_balance.Goals as goal

pub returns : goal.returns
unfolding trade_balance_lines
returns c =
    let details = abstract_order_details c.args.order.now in
    let r = abstract_result_details c.args.details.now in
    let opening = c.from-opening.ensures in
    let before : c.in_ok-before.before ≡ balance_before_trade details r = c.in_ok-before.ensures ∙ ap (λ (z : ℤ). z +ℤ c.args.details.now.cash_before) opening in
    let moved = c.balance_change_of_trade-moved.ensures in
    let after : c.in_ok-after.after ≡ balance_after_trade details r = c.in_ok-after.ensures ∙ (λ i. before i +ℤ moved i) in
    let o = c.args.out.now.items in
    let x1 = c.put_cash_row.new.out.items in
    let a1 = line_with_line_feed (trade_cash_row_line r.cash) in
    let x2 = c.put_amount_fact.new.out.items in
    let a2 = line_with_line_feed (labeled_amount (codes "Opening") c.from-opening.result) in
    let x3 = c.put_amount_fact-2.new.out.items in
    let a3 = line_with_line_feed (labeled_amount (codes "Cash before") r.cash_before) in
    let x4 = c.put_amount_fact-3.new.out.items in
    let a4 = line_with_line_feed (labeled_amount (codes "Balance before") c.in_ok-before.before) in
    let x5 = c.put_amount_fact-4.new.out.items in
    let a5 = line_with_line_feed (labeled_amount (codes "Cash moved") c.balance_change_of_trade-moved.result) in
    let x6 = c.put_amount_fact-5.new.out.items in
    let a6 = line_with_line_feed (labeled_amount (codes "Balance after") c.in_ok-after.after) in
    let r6 = a6 ++ [] in
    let r5 = a5 ++ r6 in
    let r4 = a4 ++ r5 in
    let r3 = a3 ++ r4 in
    let r2 = a2 ++ r3 in
    more o a1 r2 x1 x6 c.in_ok-put_cash_row.ensures
    (more x1 a2 r3 x2 x6 c.in_ok-put_amount_fact.ensures
    (more x2 a3 r4 x3 x6 c.in_ok-put_amount_fact-2.ensures
    (more x3 a4 r5 x4 x6 c.in_ok-put_amount_fact-3.ensures
    (more x4 a5 r6 x5 x6 c.in_ok-put_amount_fact-4.ensures (last x5 a6 x6 c.in_ok-put_amount_fact-5.ensures)))))
    ∙ (λ i.
    c.args.out.now.items
    ++ text_of_lines (trade_cash_row_line r.cash ∷ labeled_amount (codes "Opening") (opening i) ∷ labeled_amount (codes "Cash before") r.cash_before
    ∷ labeled_amount (codes "Balance before") (before i)
    ∷ labeled_amount (codes "Cash moved") (moved i) ∷ labeled_amount (codes "Balance after") (after i) ∷ []))
