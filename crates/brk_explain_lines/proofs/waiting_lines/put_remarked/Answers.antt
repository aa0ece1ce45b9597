use Rattle.brk_model_explain.specs.Texts.{labeled_amount}
use Rattle.brk_report_lines.specs.Written.{line_with_line_feed}
use Rattle.brk_explain_columns.proofs.Chains.{line_end, on_ok}
use Rattle.std.proofs.Common.{◌≡◌, ◌∙◌, ◌++◌, ◌∷◌}
use Rattle.brk_explain_lines.proofs.waiting_lines.put_remarked.Goals as goal

pub returns : goal.returns
returns c =
    let o = c.args.out.now.items in
    let x1 = c.put_labeled_amount.new.out.items in
    let t1a = labeled_amount c.args.label.now c.args.amount in
    let s1 = t1a in
    let h1 = c.in_ok-put_labeled_amount.ensures in
    let x2 = c.put_spaced_line.new.out.items in
    let t2a = 32 ∷ c.as_bytes.result.now in
    on_ok {P = x2 ≡ x1 ++ line_with_line_feed t2a} c.put_spaced_line.result c.put_spaced_line.ensures (λ h. line_end o s1 t2a x1 x2 h1 h
    ∙ (λ i. o ++ (line_with_line_feed ((labeled_amount c.args.label.now c.args.amount) ++ (32 ∷ (c.as_bytes.ensures.value i))))))
