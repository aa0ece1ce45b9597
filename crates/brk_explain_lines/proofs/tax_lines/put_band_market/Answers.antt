use Rattle.brk_explain_columns.proofs.Chains.{more, first2, on_ok}
use Rattle.std.proofs.Common.{◌≡◌, ◌∙◌, ◌++◌, codes, decimal}
use Rattle.brk_model_explain.specs.TradeLines.{band_tier_and_exchange_text}
use Rattle.brk_explain_lines.proofs.tax_lines.put_band_market.Goals as goal

pub returns : goal.returns
unfolding band_tier_and_exchange_text
returns c =
    let a = c.from.ensures ∙ c.get.ensures.value in
    let b = c.as_bytes.ensures.value ∙ c.as_str.ensures in
    let o = c.args.out.now.items in
    let x1 = c.put_numbered.new.out.items in
    let t1a = codes ", tier " in
    let t1b = decimal c.from.result in
    let s1 = t1a ++ t1b in
    let h1 = first2 o t1a t1b x1 (c.in_ok-put_numbered.ensures) in
    let x2 = c.put_text.new.out.items in
    let t2a = codes ", " in
    let s2 = s1 ++ t2a in
    let h2 = more o s1 t2a x1 x2 h1 c.in_ok-put_text.ensures in
    let x3 = c.put_text-2.new.out.items in
    let t3a = c.as_bytes.result.now in
    on_ok {P = x3 ≡ x2 ++ t3a} c.put_text-2.result c.put_text-2.ensures (λ h. more o s2 t3a x2 x3 h2 h
    ∙ (λ i. o ++ (((((codes ", tier ") ++ (decimal (a i))) ++ (codes ", ")) ++ ((b i))))))
