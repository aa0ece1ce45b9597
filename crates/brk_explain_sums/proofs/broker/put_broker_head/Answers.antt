use Rattle.brk_model_explain.specs.Texts.{labeled_text}
use Rattle.brk_model.specs.Statement.{text_of_lines}
use Rattle.brk_report_lines.specs.Written.{line_with_line_feed}
use Rattle.brk_explain_columns.proofs.Chains.{more, last, on_ok}
use Rattle.std.proofs.Common.{◌≡◌, ◌∙◌, ◌++◌, ◌∷◌, [], codes, decimal}
use Rattle.brk_model_explain.specs.BrokerLines.{broker_header_lines}
use Rattle.brk_explain_sums.proofs.broker.put_broker_head.Goals as goal

pub returns : goal.returns
unfolding broker_header_lines
returns c =
    let name = c.as_bytes.ensures.value ∙ c.as_str.ensures in
    let o = c.args.out.now.items in
    let x1 = c.put_title_line.new.out.items in
    let a1 = line_with_line_feed (codes "Broker " ++ decimal c.args.row.now.broker.id ++ codes ", times in UTC") in
    let x2 = c.put_text_fact.new.out.items in
    let a2 = line_with_line_feed (labeled_text (codes "Name") c.as_bytes.result.now) in
    let x3 = c.put_text_line.new.out.items in
    let a3 = line_with_line_feed (codes "#      completed                       trade       account             commission                  total") in
    let r3 = a3 ++ [] in
    let r2 = a2 ++ r3 in
    on_ok {P = x3 ≡ x2 ++ a3} c.put_text_line.result c.put_text_line.ensures
    (λ h. more o a1 r2 x1 x3 c.in_ok-put_title_line.ensures (more x1 a2 r3 x2 x3 c.in_ok-put_text_fact.ensures (last x2 a3 x3 h))
    ∙ (λ i. o ++ text_of_lines
    ((codes "Broker " ++ decimal c.args.row.now.broker.id ++ codes ", times in UTC") ∷ (labeled_text (codes "Name") (name i))
    ∷ (codes "#      completed                       trade       account             commission                  total") ∷ [])))
