use Rattle.std.proofs.Common.{◌∙◌, [], ◌∷◌, ◌++◌, codes}
use Rattle.brk_model_explain.specs.Texts.{labeled_amount, labeled_text}
use Rattle.brk_model_explain.specs.TradeLines.{trade_settlement_lines}
use Rattle.brk_model.specs.Statement.{text_of_lines}
use Rattle.brk_report_lines.specs.Written.{line_with_line_feed}
use Rattle.brk_explain_columns.proofs.Chains.{last, more}
use Rattle.brk_explain_lines.proofs.settlement_lines.put_settlement.Goals as goal

pub returns : goal.returns
unfolding trade_settlement_lines
returns c =
    let word = c.as_bytes.ensures.value ∙ c.text.ensures in
    let o = c.args.out.now.items in
    let x1 = c.put_amount_fact.new.out.items in
    let a1 = line_with_line_feed (labeled_amount (codes "Value") c.signed_trade_value.result) in
    let x2 = c.put_amount_fact-2.new.out.items in
    let a2 = line_with_line_feed (labeled_amount (codes "Charge") c.negated_charge.result) in
    let x3 = c.put_amount_fact-3.new.out.items in
    let a3 = line_with_line_feed (labeled_amount (codes "Commission") c.negated_commission.result) in
    let x4 = c.put_amount_fact-4.new.out.items in
    let a4 = line_with_line_feed (labeled_amount (codes "Tax withheld") c.negated_withheld_tax.result) in
    let x5 = c.put_amount_fact-5.new.out.items in
    let a5 = line_with_line_feed (labeled_amount (codes "Settlement") c.from.result) in
    let x6 = c.put_text_fact.new.out.items in
    let a6 = line_with_line_feed (labeled_text (codes "Cash type") c.as_bytes.result.now) in
    let r6 = a6 ++ [] in
    let r5 = a5 ++ r6 in
    let r4 = a4 ++ r5 in
    let r3 = a3 ++ r4 in
    let r2 = a2 ++ r3 in
    more o a1 r2 x1 x6 c.in_ok-put_amount_fact.ensures
    (more x1 a2 r3 x2 x6 c.in_ok-put_amount_fact-2.ensures
    (more x2 a3 r4 x3 x6 c.in_ok-put_amount_fact-3.ensures
    (more x3 a4 r5 x4 x6 c.in_ok-put_amount_fact-4.ensures
    (more x4 a5 r6 x5 x6 c.in_ok-put_amount_fact-5.ensures (last x5 a6 x6 c.in_ok-put_text_fact.ensures)))))
    ∙ (λ i.
    c.args.out.now.items
    ++ text_of_lines (labeled_amount (codes "Value") (c.signed_trade_value.ensures i) ∷ labeled_amount (codes "Charge") (c.negated_charge.ensures i)
    ∷ labeled_amount (codes "Commission") (c.negated_commission.ensures i)
    ∷ labeled_amount (codes "Tax withheld") (c.negated_withheld_tax.ensures i) ∷ labeled_amount (codes "Settlement") (c.from.ensures i) ∷ labeled_text (codes "Cash type") (word i) ∷ []))
