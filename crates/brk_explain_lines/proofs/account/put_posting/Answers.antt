use Rattle.brk_model_explain.specs.Texts.{timestamp_text, amount_column}
use Rattle.brk_model.specs.Statement.{left_aligned_text, right_aligned_text}
use Rattle.brk_report_lines.specs.Written.{line_with_line_feed}
use Rattle.brk_explain_columns.proofs.Chains.{more, first2, line_end, on_ok}
use Rattle.std.proofs.Common.{◌≡◌, ◌∙◌, ◌++◌, ◌∷◌, codes, decimal}
use Rattle.brk_model_explain.specs.AccountLines.{cash_posting_line, trade_id_or_hyphen}
use Rattle.brk_explain_lines.proofs.account.put_posting.Goals as goal

pub returns : goal.returns
unfolding cash_posting_line
returns c =
    let row = c.args.row.now in
    let o = c.args.out.now.items in
    let x1 = c.put_dated_word.new.out.items in
    let t1a = left_aligned_text 6 (codes "Posted") in
    let t1b = 32 ∷ timestamp_text row.stamp in
    let s1 = t1a ++ t1b in
    let h1 = first2 o t1a t1b x1 (c.in_ok-put_dated_word.ensures) in
    let x2 = c.align_number.new.out.items in
    let t2a = 32 ∷ right_aligned_text 13 (decimal c.get.result) in
    let s2 = s1 ++ t2a in
    let h2 = more o s1 t2a x1 x2 h1 c.in_ok-align_number.ensures in
    let x3 = c.align_trade_id.new.out.items in
    let t3a = 32 ∷ right_aligned_text 13 (trade_id_or_hyphen row.trade) in
    let s3 = s2 ++ t3a in
    let h3 = more o s2 t3a x2 x3 h2 c.in_ok-align_trade_id.ensures in
    let x4 = c.align_amount.new.out.items in
    let t4a = amount_column c.from.result in
    let s4 = s3 ++ t4a in
    let h4 = more o s3 t4a x3 x4 h3 c.in_ok-align_amount.ensures in
    let x5 = c.align_amount-2.new.out.items in
    let t5a = amount_column c.args.balance in
    let s5 = s4 ++ t5a in
    let h5 = more o s4 t5a x4 x5 h4 c.in_ok-align_amount-2.ensures in
    let x6 = c.put_spaced_line.new.out.items in
    let t6a = 32 ∷ c.as_bytes.result.now in
    on_ok {P = x6 ≡ x5 ++ line_with_line_feed t6a} c.put_spaced_line.result c.put_spaced_line.ensures (λ h. line_end o s5 t6a x5 x6 h5 h
    ∙ (λ i. o ++ (line_with_line_feed
    (((((((left_aligned_text 6 (codes "Posted")) ++ (32 ∷ timestamp_text row.stamp)) ++ (32 ∷ right_aligned_text 13 (decimal (c.get.ensures.value i))))
    ++ (32 ∷ right_aligned_text 13 (trade_id_or_hyphen row.trade))) ++ (amount_column (c.from.ensures i))) ++ (amount_column c.args.balance))
    ++ (32 ∷ (c.as_bytes.ensures.value i))))))
