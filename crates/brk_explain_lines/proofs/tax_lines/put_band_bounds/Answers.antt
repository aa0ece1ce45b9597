use Rattle.brk_explain_columns.proofs.Chains.{more2, first2, on_ok}
use Rattle.std.proofs.Common.{◌≡◌, ◌∙◌, ◌++◌, codes, decimal}
use Rattle.brk_model_explain.specs.TradeLines.{band_unit_and_bounds_text}
use Rattle.brk_explain_lines.proofs.tax_lines.put_band_bounds.Goals as goal

pub returns : goal.returns
unfolding band_unit_and_bounds_text
returns c =
    let a = c.from.ensures ∙ c.get.ensures.value in
    let b = c.from-2.ensures ∙ c.get-2.ensures.value in
    let o = c.args.out.now.items in
    let x1 = c.put_numbered.new.out.items in
    let t1a = codes " of 10000 for " in
    let t1b = decimal c.from.result in
    let s1 = t1a ++ t1b in
    let h1 = first2 o t1a t1b x1 (c.in_ok-put_numbered.ensures) in
    let x2 = c.put_numbered-2.new.out.items in
    let t2a = codes " to " in
    let t2b = decimal c.from-2.result in
    on_ok {P = x2 ≡ x1 ++ t2a ++ t2b} c.put_numbered-2.result c.put_numbered-2.ensures (λ h. more2 o s1 t2a t2b x1 x2 h1 h
    ∙ (λ i. o ++ (((((codes " of 10000 for ") ++ (decimal (a i))) ++ (codes " to ")) ++ (decimal (b i))))))
