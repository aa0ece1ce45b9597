use Rattle.brk_model_explain.specs.Texts.{timestamp_text, amount_column}
use Rattle.brk_model.specs.Statement.{left_aligned_text, right_aligned_text}
use Rattle.brk_explain_columns.proofs.Chains.{more, first2, on_ok}
use Rattle.std.proofs.Common.{◌≡◌, ◌∙◌, ◌++◌, ◌∷◌, [], codes, decimal}
use Rattle.brk_model_explain.specs.BrokerLines.{trade_commission_line}
use Rattle.brk_explain_sums.proofs.broker.put_trade_line.Goals as goal

pub returns : goal.returns
unfolding trade_commission_line
returns c =
    let o = c.args.out.now.items in
    let x1 = c.put_dated_word.new.out.items in
    let t1a = left_aligned_text 6 (codes "Trade") in
    let t1b = 32 ∷ timestamp_text c.args.row.now.stamp in
    let s1 = t1a ++ t1b in
    let h1 = first2 o t1a t1b x1 (c.in_ok-put_dated_word.ensures) in
    let x2 = c.align_number.new.out.items in
    let t2a = 32 ∷ right_aligned_text 13 (decimal c.get.result) in
    let s2 = s1 ++ t2a in
    let h2 = more o s1 t2a x1 x2 h1 c.in_ok-align_number.ensures in
    let x3 = c.align_number-2.new.out.items in
    let t3a = 32 ∷ right_aligned_text 13 (decimal c.get-2.result) in
    let s3 = s2 ++ t3a in
    let h3 = more o s2 t3a x2 x3 h2 c.in_ok-align_number-2.ensures in
    let x4 = c.align_amount.new.out.items in
    let t4a = amount_column c.from.result in
    let s4 = s3 ++ t4a in
    let h4 = more o s3 t4a x3 x4 h3 c.in_ok-align_amount.ensures in
    let x5 = c.align_amount-2.new.out.items in
    let t5a = amount_column c.args.total in
    let s5 = s4 ++ t5a in
    let h5 = more o s4 t5a x4 x5 h4 c.in_ok-align_amount-2.ensures in
    let x6 = c.end_line.new.out.items in
    let t6a = 10 ∷ [] in
    on_ok {P = x6 ≡ x5 ++ t6a} c.end_line.result c.end_line.ensures (λ h. more o s5 t6a x5 x6 h5 h
    ∙ (λ i. o ++ ((((((((left_aligned_text 6 (codes "Trade")) ++ (32 ∷ timestamp_text c.args.row.now.stamp))
    ++ (32 ∷ right_aligned_text 13 (decimal (c.get.ensures.value i)))) ++ (32 ∷ right_aligned_text 13 (decimal (c.get-2.ensures.value i))))
    ++ (amount_column (c.from.ensures i))) ++ (amount_column c.args.total)) ++ (10 ∷ [])))))
