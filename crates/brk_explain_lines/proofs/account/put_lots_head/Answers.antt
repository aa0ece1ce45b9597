use Rattle.brk_model_explain.specs.Texts.{labeled_amount}
use Rattle.brk_model.specs.Statement.{text_of_lines}
use Rattle.brk_report_lines.specs.Written.{line_with_line_feed}
use Rattle.brk_explain_columns.proofs.Chains.{more, last, on_ok}
use Rattle.std.proofs.Common.{◌≡◌, ◌∙◌, ◌++◌, ◌∷◌, [], codes}
use Rattle.brk_model_explain.specs.AccountLines.{balance_and_lot_header_lines}
use Rattle.brk_explain_lines.proofs.account.put_lots_head.Goals as goal

pub returns : goal.returns
unfolding balance_and_lot_header_lines
returns c =
    let o = c.args.out.now.items in
    let x1 = c.put_amount_fact.new.out.items in
    let a1 = line_with_line_feed (labeled_amount (codes "Balance") c.from.result) in
    let x2 = c.put_text_line.new.out.items in
    let a2 = line_with_line_feed (codes "#      symbol                    lot      shares      price                  worth") in
    let r2 = a2 ++ [] in
    on_ok {P = x2 ≡ x1 ++ a2} c.put_text_line.result c.put_text_line.ensures (λ h. more o a1 r2 x1 x2 c.in_ok-put_amount_fact.ensures (last x1 a2 x2 h)
    ∙ (λ i. o ++ text_of_lines ((labeled_amount (codes "Balance") (c.from.ensures i)) ∷ (codes "#      symbol                    lot      shares      price                  worth") ∷ [])))
