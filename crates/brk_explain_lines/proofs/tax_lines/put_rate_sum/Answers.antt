use Rattle.brk_model_explain.specs.Texts.{labeled_number}
use Rattle.brk_report_lines.specs.Written.{line_with_line_feed}
use Rattle.brk_explain_columns.proofs.Chains.{line_end, on_ok}
use Rattle.std.proofs.Common.{◌≡◌, ◌∙◌, ◌++◌, codes}
use Rattle.brk_explain_lines.proofs.tax_lines.put_rate_sum.Goals as goal

pub returns : goal.returns
returns c =
    let rates = c.from.ensures ∙ c.get.ensures.value in
    let o = c.args.out.now.items in
    let x1 = c.put_labeled_number.new.out.items in
    let t1a = labeled_number (codes "Rates now") c.from.result in
    let s1 = t1a in
    let h1 = c.in_ok-put_labeled_number.ensures in
    let x2 = c.put_text_line.new.out.items in
    let t2a = codes " of 100000" in
    on_ok {P = x2 ≡ x1 ++ line_with_line_feed t2a} c.put_text_line.result c.put_text_line.ensures (λ h. line_end o s1 t2a x1 x2 h1 h
    ∙ (λ i. o ++ (line_with_line_feed ((labeled_number (codes "Rates now") (rates i)) ++ (codes " of 100000")))))
