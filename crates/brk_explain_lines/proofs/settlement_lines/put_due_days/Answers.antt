use Rattle.brk_model_explain.specs.Texts.{labeled_text, labeled_number}
use Rattle.brk_model.specs.Statement.{text_of_lines}
use Rattle.brk_report_lines.specs.Written.{line_with_line_feed}
use Rattle.brk_explain_columns.proofs.Chains.{more, last, on_ok}
use Rattle.brk_money.specs.Spelling.{day_text}
use Rattle.std.specs.Option.{option_map_or}
use Rattle.std.proofs.Common.{◌≡◌, ◌∙◌, ◌++◌, ◌∷◌, [], ℕ, ap, codes}
use Rattle.brk_model_explain.specs.TradeLines.{due_day_lines}
use Rattle.brk_model.specs.Derived.{days_to_settlement}
use Rattle.brk_explain_lines.proofs.settlement_lines.put_due_days.Goals as goal

pub returns : goal.returns
unfolding due_day_lines
returns c =
    let rule = c.args.details.now.rule in
    let days = c.from.ensures ∙ c.days_to_settlement-days.ensures ∙ ap (λ (d : ℕ). days_to_settlement rule d) c.day_of-completed.ensures in
    let o = c.args.out.now.items in
    let x1 = c.put_day_fact.new.out.items in
    let a1 = line_with_line_feed (labeled_text (codes "Completed on") (day_text c.day_of-completed.result)) in
    let x2 = c.put_optional_day.new.out.items in
    let a2 = line_with_line_feed (labeled_text (codes "One day from") (option_map_or day_text rule (codes "none"))) in
    let x3 = c.put_number_fact.new.out.items in
    let a3 = line_with_line_feed (labeled_number (codes "Days to settle") c.from.result) in
    let x4 = c.put_day_fact-2.new.out.items in
    let a4 = line_with_line_feed (labeled_text (codes "Due on") (day_text c.args.details.now.settlement.due_day)) in
    let r4 = a4 ++ [] in
    let r3 = a3 ++ r4 in
    let r2 = a2 ++ r3 in
    on_ok {P = x4 ≡ x3 ++ a4} c.put_day_fact-2.result c.put_day_fact-2.ensures
    (λ h. more o a1 r2 x1 x4 c.in_ok-put_day_fact.ensures
    (more x1 a2 r3 x2 x4 c.in_ok-put_optional_day.ensures (more x2 a3 r4 x3 x4 c.in_ok-put_number_fact.ensures (last x3 a4 x4 h)))
    ∙ (λ i. o ++ text_of_lines
    ((labeled_text (codes "Completed on") (day_text (c.day_of-completed.ensures i)))
    ∷ (labeled_text (codes "One day from") (option_map_or day_text rule (codes "none"))) ∷ (labeled_number (codes "Days to settle") (days i))
    ∷ (labeled_text (codes "Due on") (day_text c.args.details.now.settlement.due_day)) ∷ [])))
