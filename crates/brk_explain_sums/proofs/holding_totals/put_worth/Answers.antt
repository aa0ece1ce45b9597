use Rattle.brk_model_explain.specs.Texts.{labeled_value, labeled_amount}
use Rattle.brk_model.specs.Statement.{text_of_lines}
use Rattle.brk_report_lines.specs.Written.{line_with_line_feed}
use Rattle.brk_explain_columns.proofs.Chains.{more, last}
use Rattle.std.specs.Fmt.{signed_decimal}
use Rattle.std.proofs.Common.{◌≡◌, ◌∙◌, ◌++◌, ◌∷◌, [], ◌*ℤ◌, ◌-ℤ◌, ℤ, ap, codes, pos, of_z, to_z, w64, rules}
use Rattle.brk_model_explain.specs.HoldingLines.{holding_value_lines}
use Rattle.brk_explain_sums.proofs.holding_totals.put_worth.Goals as goal

pub returns : goal.returns
unfolding holding_value_lines
returns c =
    let shares : to_z w64 (of_z w64 c.args.shares) ≡ c.args.shares = search rules in
    let worth = c.in_ok-worth.ensures ∙ ap (λ (z : ℤ). z *ℤ pos c.args.price) shares in
    let gain = c.in_ok-gain.ensures ∙ ap (λ (z : ℤ). z -ℤ c.args.cost) worth in
    let o = c.args.out.now.items in
    let x1 = c.put_signed_fact.new.out.items in
    let a1 = line_with_line_feed (labeled_value (codes "Shares") (signed_decimal (to_z w64 (of_z w64 c.args.shares)))) in
    let x2 = c.put_amount_fact.new.out.items in
    let a2 = line_with_line_feed (labeled_amount (codes "Last price") c.from.result) in
    let x3 = c.put_amount_fact-2.new.out.items in
    let a3 = line_with_line_feed (labeled_amount (codes "Worth") c.in_ok-worth.worth) in
    let x4 = c.put_amount_fact-3.new.out.items in
    let a4 = line_with_line_feed (labeled_amount (codes "Unrealised gain") c.in_ok-gain.gain) in
    let r4 = a4 ++ [] in
    let r3 = a3 ++ r4 in
    let r2 = a2 ++ r3 in
    let h : x4 ≡ x3 ++ a4 = c.in_ok-put_amount_fact-3.ensures in
    more o a1 r2 x1 x4 c.in_ok-put_signed_fact.ensures
    (more x1 a2 r3 x2 x4 c.in_ok-put_amount_fact.ensures (more x2 a3 r4 x3 x4 c.in_ok-put_amount_fact-2.ensures (last x3 a4 x4 h)))
    ∙ (λ i. o ++ text_of_lines
    ((labeled_value (codes "Shares") (signed_decimal (shares i))) ∷ (labeled_amount (codes "Last price") (c.from.ensures i))
    ∷ (labeled_amount (codes "Worth") (worth i)) ∷ (labeled_amount (codes "Unrealised gain") (gain i)) ∷ []))
