use Rattle.brk_model_explain.specs.Texts.{labeled_amount}
use Rattle.brk_model.specs.Statement.{text_of_lines}
use Rattle.brk_report_lines.specs.Written.{line_with_line_feed}
use Rattle.brk_explain_columns.proofs.Chains.{more, last}
use Rattle.std.proofs.Common.{◌≡◌, ◌∙◌, ◌++◌, ◌∷◌, [], ◌+ℤ◌, ℤ, ap, codes}
use Rattle.brk_model_explain.specs.AccountLines.{account_counts_line, account_total_lines}
use Rattle.brk_explain_lines.proofs.account.put_totals.Goals as goal

pub returns : goal.returns
unfolding account_total_lines
returns c =
    let assets = c.in_ok-assets.ensures ∙ ap (λ (z : ℤ). z +ℤ c.args.holdings) c.from.ensures in
    let o = c.args.out.now.items in
    let x1 = c.put_amount_fact.new.out.items in
    let a1 = line_with_line_feed (labeled_amount (codes "Holdings") c.args.holdings) in
    let x2 = c.put_amount_fact-2.new.out.items in
    let a2 = line_with_line_feed (labeled_amount (codes "Assets") c.in_ok-assets.assets) in
    let x3 = c.put_counts.new.out.items in
    let a3 = line_with_line_feed (account_counts_line c.args.cash c.args.lots c.args.symbols) in
    let r3 = a3 ++ [] in
    let r2 = a2 ++ r3 in
    let h : x3 ≡ x2 ++ a3 = c.in_ok-put_counts.ensures in
    more o a1 r2 x1 x3 c.in_ok-put_amount_fact.ensures (more x1 a2 r3 x2 x3 c.in_ok-put_amount_fact-2.ensures (last x2 a3 x3 h))
    ∙ (λ i. o ++ text_of_lines
    ((labeled_amount (codes "Holdings") c.args.holdings) ∷ (labeled_amount (codes "Assets") (assets i))
    ∷ (account_counts_line c.args.cash c.args.lots c.args.symbols) ∷ []))
