use Rattle.brk_report_lines.specs.Written.{line_with_line_feed}
use Rattle.brk_explain_columns.proofs.Chains.{more, first2, line_end, on_ok}
use Rattle.std.proofs.Common.{◌≡◌, ◌∙◌, ◌++◌, codes, decimal}
use Rattle.brk_explain_sums.proofs.holding.put_head_title.Goals as goal

pub returns : goal.returns
returns c =
    let o = c.args.out.now.items in
    let x1 = c.put_numbered.new.out.items in
    let t1a = codes "Holding of account " in
    let t1b = decimal c.get.result in
    let s1 = t1a ++ t1b in
    let h1 = first2 o t1a t1b x1 (c.in_ok-put_numbered.ensures) in
    let x2 = c.put_text.new.out.items in
    let t2a = codes " in " in
    let s2 = s1 ++ t2a in
    let h2 = more o s1 t2a x1 x2 h1 c.in_ok-put_text.ensures in
    let x3 = c.put_text-2.new.out.items in
    let t3a = c.args.symbol.now in
    let s3 = s2 ++ t3a in
    let h3 = more o s2 t3a x2 x3 h2 c.in_ok-put_text-2.ensures in
    let x4 = c.put_text_line.new.out.items in
    let t4a = codes ", times in UTC" in
    on_ok {P = x4 ≡ x3 ++ line_with_line_feed t4a} c.put_text_line.result c.put_text_line.ensures (λ h. line_end o s3 t4a x3 x4 h3 h
    ∙ (λ i. o ++ (line_with_line_feed (((((codes "Holding of account ") ++ (decimal (c.get.ensures.value i))) ++ (codes " in ")) ++ (c.args.symbol.now)) ++ (codes ", times in UTC")))))
