use Rattle.std.proofs.Common.{◌∙◌, [], ◌∷◌, ◌++◌, codes}
use Rattle.brk_model_explain.specs.HoldingLines.{holding_title, holding_header_lines}
use Rattle.brk_model_explain.specs.Texts.{labeled_text}
use Rattle.brk_model.specs.Statement.{text_of_lines}
use Rattle.brk_report_lines.specs.Written.{line_with_line_feed}
use Rattle.brk_explain_columns.proofs.Chains.{last, more}
use Rattle.brk_explain_sums.proofs.holding.put_head_lines.Goals as goal

pub returns : goal.returns
unfolding holding_header_lines
returns c =
    let id = c.args.row.now.account.id in
    let head = codes "#      completed                       trade      shares      price            value        held type" in
    let symbol = c.as_bytes.ensures.value ∙ c.as_str.ensures in
    let account = c.as_bytes-2.ensures.value ∙ c.as_str-2.ensures in
    let security = c.as_bytes-3.ensures.value ∙ c.as_str-3.ensures in
    let o = c.args.out.now.items in
    let x1 = c.put_head_title.new.out.items in
    let a1 = line_with_line_feed (holding_title id c.as_bytes.result.now) in
    let x2 = c.put_text_fact.new.out.items in
    let a2 = line_with_line_feed (labeled_text (codes "Account name") c.as_bytes-2.result.now) in
    let x3 = c.put_text_fact-2.new.out.items in
    let a3 = line_with_line_feed (labeled_text (codes "Security") c.as_bytes-3.result.now) in
    let x4 = c.put_text_line.new.out.items in
    let a4 = line_with_line_feed head in
    let r3 = a4 ++ [] in
    let r2 = a3 ++ r3 in
    more o a1 (a2 ++ r2) x1 x4 c.in_ok-put_head_title.ensures
    (more x1 a2 r2 x2 x4 c.in_ok-put_text_fact.ensures
    (more x2 a3 r3 x3 x4 c.in_ok-put_text_fact-2.ensures (last x3 a4 x4 c.in_ok-put_text_line.ensures)))
    ∙ (λ i. o ++ text_of_lines (holding_title id (symbol i) ∷ labeled_text (codes "Account name") (account i) ∷ labeled_text (codes "Security") (security i) ∷ head ∷ []))
