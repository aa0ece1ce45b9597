use Rattle.std.proofs.Common.{◌∙◌, [], ◌∷◌, ◌++◌, codes}
use Rattle.brk_model_explain.specs.Texts.{labeled_number, labeled_text}
use Rattle.brk_model_explain.specs.TradeLines.{trade_account_line, title_and_party_lines, trade_title_line}
use Rattle.brk_explain_rows.specs.Details.{abstract_order_details}
use Rattle.brk_model.specs.Statement.{text_of_lines}
use Rattle.brk_report_lines.specs.Written.{line_with_line_feed}
use Rattle.brk_explain_columns.proofs.Chains.{last, more}
use Rattle.brk_explain_lines.proofs.order_lines.put_title_with_parties.Goals as goal

pub returns : goal.returns
unfolding title_and_party_lines
returns c =
    let o0 = abstract_order_details c.args.order.now in
    let o = c.args.out.now.items in
    let x1 = c.put_title_line.new.out.items in
    let a1 = line_with_line_feed (trade_title_line o0) in
    let x2 = c.put_account.new.out.items in
    let a2 = line_with_line_feed (trade_account_line o0) in
    let x3 = c.put_number_fact.new.out.items in
    let a3 = line_with_line_feed (labeled_number (codes "Customer") c.get.result) in
    let x4 = c.put_number_fact-2.new.out.items in
    let a4 = line_with_line_feed (labeled_number (codes "Broker") c.get-2.result) in
    let x5 = c.put_text_fact.new.out.items in
    let a5 = line_with_line_feed (labeled_text (codes "Executor") c.as_bytes.result.now) in
    let r5 = a5 ++ [] in
    let r4 = a4 ++ r5 in
    let r3 = a3 ++ r4 in
    let r2 = a2 ++ r3 in
    more o a1 r2 x1 x5 c.in_ok-put_title_line.ensures
    (more x1 a2 r3 x2 x5 c.in_ok-put_account.ensures
    (more x2 a3 r4 x3 x5 c.in_ok-put_number_fact.ensures
    (more x3 a4 r5 x4 x5 c.in_ok-put_number_fact-2.ensures (last x4 a5 x5 c.in_ok-put_text_fact.ensures))))
    ∙ (λ i.
    c.args.out.now.items
    ++ text_of_lines (trade_title_line o0 ∷ trade_account_line o0 ∷ labeled_number (codes "Customer") (c.get.ensures.value i) ∷ labeled_number (codes "Broker") (c.get-2.ensures.value i)
    ∷ labeled_text (codes "Executor") (c.as_bytes.ensures.value i) ∷ []))
