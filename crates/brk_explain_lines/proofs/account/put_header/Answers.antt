use Rattle.brk_model_explain.specs.Texts.{labeled_text, labeled_number, labeled_amount}
use Rattle.brk_model.specs.Statement.{text_of_lines}
use Rattle.brk_report_lines.specs.Written.{line_with_line_feed}
use Rattle.brk_explain_columns.proofs.Chains.{more, last, on_ok}
use Rattle.std.proofs.Common.{◌≡◌, ◌∙◌, ◌++◌, ◌∷◌, [], codes, decimal}
use Rattle.brk_model_explain.specs.AccountLines.{account_header_lines}
use Rattle.brk_explain_lines.proofs.account.put_header.Goals as goal

pub returns : goal.returns
unfolding account_header_lines
returns c =
    let row = c.args.row.now in
    let name = c.as_bytes.ensures.value ∙ c.as_str.ensures in
    let status = c.from.ensures ∙ c.number.ensures in
    let o = c.args.out.now.items in
    let x1 = c.put_title_line.new.out.items in
    let a1 = line_with_line_feed (codes "Account " ++ decimal row.account.id ++ codes ", times in UTC") in
    let x2 = c.put_text_fact.new.out.items in
    let a2 = line_with_line_feed (labeled_text (codes "Name") c.as_bytes.result.now) in
    let x3 = c.put_number_fact.new.out.items in
    let a3 = line_with_line_feed (labeled_number (codes "Customer") c.get.result) in
    let x4 = c.put_number_fact-2.new.out.items in
    let a4 = line_with_line_feed (labeled_number (codes "Broker") c.get-2.result) in
    let x5 = c.put_number_fact-3.new.out.items in
    let a5 = line_with_line_feed (labeled_number (codes "Tax status") c.from.result) in
    let x6 = c.put_amount_fact.new.out.items in
    let a6 = line_with_line_feed (labeled_amount (codes "Opening") c.from-2.result) in
    let x7 = c.put_text_line.new.out.items in
    let a7 = line_with_line_feed (codes "#      posted                       cash row         trade                 amount                balance name") in
    let r7 = a7 ++ [] in
    let r6 = a6 ++ r7 in
    let r5 = a5 ++ r6 in
    let r4 = a4 ++ r5 in
    let r3 = a3 ++ r4 in
    let r2 = a2 ++ r3 in
    on_ok {P = x7 ≡ x6 ++ a7} c.put_text_line.result c.put_text_line.ensures
    (λ h. more o a1 r2 x1 x7 c.in_ok-put_title_line.ensures
    (more x1 a2 r3 x2 x7 c.in_ok-put_text_fact.ensures
    (more x2 a3 r4 x3 x7 c.in_ok-put_number_fact.ensures
    (more x3 a4 r5 x4 x7 c.in_ok-put_number_fact-2.ensures
    (more x4 a5 r6 x5 x7 c.in_ok-put_number_fact-3.ensures (more x5 a6 r7 x6 x7 c.in_ok-put_amount_fact.ensures (last x6 a7 x7 h))))))
    ∙ (λ i. o ++ text_of_lines
    ((codes "Account " ++ decimal row.account.id ++ codes ", times in UTC") ∷ (labeled_text (codes "Name") (name i))
    ∷ (labeled_number (codes "Customer") (c.get.ensures.value i)) ∷ (labeled_number (codes "Broker") (c.get-2.ensures.value i))
    ∷ (labeled_number (codes "Tax status") (status i)) ∷ (labeled_amount (codes "Opening") (c.from-2.ensures i))
    ∷ (codes "#      posted                       cash row         trade                 amount                balance name") ∷ [])))
