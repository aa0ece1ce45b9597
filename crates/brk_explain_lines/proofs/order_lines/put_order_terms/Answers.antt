use Rattle.std.proofs.Common.{◌∙◌, [], ◌∷◌, ◌++◌, codes}
use Rattle.brk_model_explain.specs.Texts.{labeled_number, labeled_amount, labeled_text}
use Rattle.brk_model_explain.specs.TradeLines.{order_terms_lines, trade_security_line, trade_type_line}
use Rattle.brk_explain_rows.specs.Details.{abstract_order_details}
use Rattle.brk_model.specs.Statement.{text_of_lines}
use Rattle.brk_report_lines.specs.Written.{line_with_line_feed}
use Rattle.brk_explain_columns.proofs.Chains.{last, more}
use Rattle.brk_explain_lines.proofs.order_lines.put_order_terms.Goals as goal

pub returns : goal.returns
unfolding order_terms_lines
returns c =
    let o0 = abstract_order_details c.args.order.now in
    let qty = c.from.ensures ∙ c.get.ensures.value in
    let settles = c.as_bytes.ensures.value ∙ c.cash_or_margin_word.ensures in
    let closes = c.as_bytes-2.ensures.value ∙ c.closing_order_text.ensures in
    let o = c.args.out.now.items in
    let x1 = c.put_trade_type.new.out.items in
    let a1 = line_with_line_feed (trade_type_line o0) in
    let x2 = c.put_security.new.out.items in
    let a2 = line_with_line_feed (trade_security_line o0) in
    let x3 = c.put_number_fact.new.out.items in
    let a3 = line_with_line_feed (labeled_number (codes "Shares") c.from.result) in
    let x4 = c.put_amount_fact.new.out.items in
    let a4 = line_with_line_feed (labeled_amount (codes "Price asked") c.from-2.result) in
    let x5 = c.put_text_fact.new.out.items in
    let a5 = line_with_line_feed (labeled_text (codes "Settles by") c.as_bytes.result.now) in
    let x6 = c.put_text_fact-2.new.out.items in
    let a6 = line_with_line_feed (labeled_text (codes "Closes") c.as_bytes-2.result.now) in
    let r6 = a6 ++ [] in
    let r5 = a5 ++ r6 in
    let r4 = a4 ++ r5 in
    let r3 = a3 ++ r4 in
    let r2 = a2 ++ r3 in
    more o a1 r2 x1 x6 c.in_ok-put_trade_type.ensures
    (more x1 a2 r3 x2 x6 c.in_ok-put_security.ensures
    (more x2 a3 r4 x3 x6 c.in_ok-put_number_fact.ensures
    (more x3 a4 r5 x4 x6 c.in_ok-put_amount_fact.ensures
    (more x4 a5 r6 x5 x6 c.in_ok-put_text_fact.ensures (last x5 a6 x6 c.in_ok-put_text_fact-2.ensures)))))
    ∙ (λ i.
    c.args.out.now.items
    ++ text_of_lines (trade_type_line o0 ∷ trade_security_line o0 ∷ labeled_number (codes "Shares") (qty i)
    ∷ labeled_amount (codes "Price asked") (c.from-2.ensures i) ∷ labeled_text (codes "Settles by") (settles i)
    ∷ labeled_text (codes "Closes") (closes i) ∷ []))
