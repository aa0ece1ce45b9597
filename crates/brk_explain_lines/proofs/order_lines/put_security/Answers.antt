use Rattle.brk_model_explain.specs.Texts.{labeled_text}
use Rattle.brk_model.specs.Statement.{left_aligned_text}
use Rattle.brk_report_lines.specs.Written.{line_with_line_feed}
use Rattle.brk_explain_columns.proofs.Chains.{more, first2, line_end, on_ok}
use Rattle.std.proofs.Common.{◌≡◌, ◌∙◌, ◌++◌, ◌∷◌, [], codes}
use Rattle.brk_model_explain.specs.Texts.{labeled_text}
use Rattle.brk_explain_lines.proofs.order_lines.put_security.Goals as goal

pub returns : goal.returns
unfolding labeled_text
returns c =
    let symbol = c.as_bytes.ensures.value ∙ c.as_str.ensures in
    let name = c.as_bytes-2.ensures.value ∙ c.as_str-2.ensures in
    let o = c.args.out.now.items in
    let x1 = c.put_label.new.out.items in
    let t1a = left_aligned_text 15 (codes "Security") in
    let t1b = 32 ∷ [] in
    let s1 = t1a ++ t1b in
    let h1 = first2 o t1a t1b x1 (c.in_ok-put_label.ensures) in
    let x2 = c.append_left_aligned.new.out.items in
    let t2a = left_aligned_text 15 c.as_bytes.result.now in
    let s2 = s1 ++ t2a in
    let h2 = more o s1 t2a x1 x2 h1 c.in_ok-append_left_aligned.ensures in
    let x3 = c.put_spaced_line.new.out.items in
    let t3a = 32 ∷ c.as_bytes-2.result.now in
    on_ok {P = x3 ≡ x2 ++ line_with_line_feed t3a} c.put_spaced_line.result c.put_spaced_line.ensures (λ h. line_end o s2 t3a x2 x3 h2 h
    ∙ (λ i. o ++ (line_with_line_feed ((((left_aligned_text 15 (codes "Security")) ++ (32 ∷ [])) ++ (left_aligned_text 15 (symbol i))) ++ (32 ∷ (name i))))))
