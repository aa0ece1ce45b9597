use Rattle.brk_model.specs.Statement.{left_aligned_text, right_aligned_text}
use Rattle.brk_report_lines.specs.Written.{line_with_line_feed}
use Rattle.brk_explain_columns.proofs.Chains.{more, line_end, on_ok}
use Rattle.std.proofs.Common.{◌≡◌, ◌∙◌, ◌++◌, ◌∷◌, codes, decimal}
use Rattle.brk_model_explain.specs.TradeLines.{tax_rate_line}
use Rattle.brk_explain_lines.proofs.tax_lines.put_tax_rate.Goals as goal

pub returns : goal.returns
unfolding tax_rate_line
returns c =
    let rate = c.from.ensures ∙ c.get-2.ensures.value in
    let name = c.as_bytes.ensures.value ∙ c.as_str.ensures in
    let o = c.args.out.now.items in
    let x1 = c.append_left_aligned.new.out.items in
    let t1a = left_aligned_text 6 (codes "Rate") in
    let s1 = t1a in
    let h1 = c.in_ok-append_left_aligned.ensures in
    let x2 = c.align_number.new.out.items in
    let t2a = 32 ∷ right_aligned_text 13 (decimal c.get.result) in
    let s2 = s1 ++ t2a in
    let h2 = more o s1 t2a x1 x2 h1 c.in_ok-align_number.ensures in
    let x3 = c.align_number-2.new.out.items in
    let t3a = 32 ∷ right_aligned_text 11 (decimal c.from.result) in
    let s3 = s2 ++ t3a in
    let h3 = more o s2 t3a x2 x3 h2 c.in_ok-align_number-2.ensures in
    let x4 = c.put_spaced_line.new.out.items in
    let t4a = 32 ∷ c.as_bytes.result.now in
    on_ok {P = x4 ≡ x3 ++ line_with_line_feed t4a} c.put_spaced_line.result c.put_spaced_line.ensures (λ h. line_end o s3 t4a x3 x4 h3 h
    ∙ (λ i. o ++ (line_with_line_feed
    ((((left_aligned_text 6 (codes "Rate")) ++ (32 ∷ right_aligned_text 13 (decimal (c.get.ensures.value i))))
    ++ (32 ∷ right_aligned_text 11 (decimal (rate i)))) ++ (32 ∷ (name i))))))
