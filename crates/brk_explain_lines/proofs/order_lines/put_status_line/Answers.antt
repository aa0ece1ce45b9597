use Rattle.brk_model_explain.specs.Texts.{timestamp_text}
use Rattle.brk_model.specs.Statement.{left_aligned_text}
use Rattle.brk_report_lines.specs.Written.{line_with_line_feed}
use Rattle.brk_explain_columns.proofs.Chains.{more, first2, line_end, on_ok}
use Rattle.std.proofs.Common.{◌≡◌, ◌∙◌, ◌++◌, ◌∷◌, codes}
use Rattle.brk_model_explain.specs.TradeLines.{status_change_line}
use Rattle.brk_explain_lines.proofs.order_lines.put_status_line.Goals as goal

pub returns : goal.returns
unfolding status_change_line
returns c =
    let code = c.as_bytes.ensures.value ∙ c.code.ensures in
    let name = c.as_bytes-2.ensures.value ∙ c.name.ensures in
    let o = c.args.out.now.items in
    let x1 = c.put_dated_word.new.out.items in
    let t1a = left_aligned_text 6 (codes "Status") in
    let t1b = 32 ∷ timestamp_text c.args.row.now.stamp in
    let s1 = t1a ++ t1b in
    let h1 = first2 o t1a t1b x1 (c.in_ok-put_dated_word.ensures) in
    let x2 = c.put_spaced_text.new.out.items in
    let t2a = 32 ∷ c.as_bytes.result.now in
    let s2 = s1 ++ t2a in
    let h2 = more o s1 t2a x1 x2 h1 c.in_ok-put_spaced_text.ensures in
    let x3 = c.put_spaced_line.new.out.items in
    let t3a = 32 ∷ c.as_bytes-2.result.now in
    on_ok {P = x3 ≡ x2 ++ line_with_line_feed t3a} c.put_spaced_line.result c.put_spaced_line.ensures (λ h. line_end o s2 t3a x2 x3 h2 h
    ∙ (λ i. o ++ (line_with_line_feed ((((left_aligned_text 6 (codes "Status")) ++ (32 ∷ timestamp_text c.args.row.now.stamp)) ++ (32 ∷ (code i))) ++ (32 ∷ (name i))))))
