use Rattle.brk_model_explain.specs.Texts.{labeled_number, labeled_amount}
use Rattle.brk_model.specs.Statement.{text_of_lines}
use Rattle.brk_report_lines.specs.Written.{line_with_line_feed}
use Rattle.brk_explain_columns.proofs.Chains.{more, last}
use Rattle.brk_ref.specs.Records.{abstract_tax_rate}
use Rattle.std.proofs.Common.{◌≡◌, ◌∙◌, ◌++◌, ◌∷◌, [], List, ap, codes, map}
use Rattle.brk_model_explain.specs.TradeLines.{current_and_recorded_tax_lines}
use Rattle.brk_model_explain.specs.Trades.{sum_of_tax_rates}
use Rattle.brk_ref.specs.declared.tax.Tax.{Tax}
use Rattle.brk_explain_lines.proofs.tax_lines.put_tax_amounts.Goals as goal

pub returns : goal.returns
unfolding current_and_recorded_tax_lines
returns c =
    let rates = c.in_ok-rates.ensures ∙ ap (λ (rs : List Tax). sum_of_tax_rates (map abstract_tax_rate rs)) c.deref.ensures.value in
    let o = c.args.out.now.items in
    let x1 = c.put_rate_sum.new.out.items in
    let a1 = line_with_line_feed (labeled_number (codes "Rates now") c.in_ok-rates.rates ++ codes " of 100000") in
    let x2 = c.put_amount_fact.new.out.items in
    let a2 = line_with_line_feed (labeled_amount (codes "Tax now") c.in_ok-now.now) in
    let x3 = c.put_amount_fact-2.new.out.items in
    let a3 = line_with_line_feed (labeled_amount (codes "Tax recorded") c.from.result) in
    let r3 = a3 ++ [] in
    let r2 = a2 ++ r3 in
    let h : x3 ≡ x2 ++ a3 = c.in_ok-put_amount_fact-2.ensures in
    more o a1 r2 x1 x3 c.in_ok-put_rate_sum.ensures (more x1 a2 r3 x2 x3 c.in_ok-put_amount_fact.ensures (last x2 a3 x3 h))
    ∙ (λ i. o ++ text_of_lines
    ((labeled_number (codes "Rates now") (rates i) ++ codes " of 100000") ∷ (labeled_amount (codes "Tax now") (c.in_ok-now.ensures i))
    ∷ (labeled_amount (codes "Tax recorded") (c.from.ensures i)) ∷ []))
