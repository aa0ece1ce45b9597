use Rattle.std.proofs.Common.{◌≡◌, ◌∙◌, List, [], ◌∷◌, ◌++◌, ap, length, map, of_z, refl, rules, sym, to_z, w64}
use Rattle.std.proofs.lemmas.Grind.{flat_map-append}
use Rattle.std.proofs.lemmas.List.{append_assoc, length-map}
use Rattle.brk_money.specs.Spelling.{Text}
use Rattle.brk_ref.specs.Rows.{abstract_trade_row}
use Rattle.brk_model_explain.specs.HoldingLines.{holding_counts_line, holding_total_lines, purchase_sale_gain_and_cost_lines, holding_value_lines}
use Rattle.brk_model_explain.specs.Holdings.{count_of_lot_changes, remaining_cost_of_lots, realised_gain_of_lots, lots_not_fully_closed, total_purchase_value, negated_total_sale_value}
use Rattle.brk_explain_rows.specs.Details.{abstract_lot_details}
use Rattle.brk_model.specs.Statement.{text_of_lines}
use Rattle.brk_report_lines.specs.Written.{line_with_line_feed}
use Rattle.brk_explain_columns.proofs.Chains.{last, more}
use Rattle.brk_explain_sums.proofs.holding_totals.put_holding_end.Goals as goal

three_parts : (a b c : List Text) → text_of_lines a ++ (text_of_lines b ++ text_of_lines c) ≡ text_of_lines ((a ++ b) ++ c)
three_parts a b c =
    sym (append_assoc (text_of_lines a) (text_of_lines b) (text_of_lines c))
    ∙ ap (λ (l : Text). l ++ text_of_lines c) (sym (flat_map-append line_with_line_feed a b)) ∙ sym (flat_map-append line_with_line_feed (a ++ b) c)

pub returns : goal.returns
unfolding holding_total_lines
returns c =
    let done = c.args.done.now in
    let lots = c.args.lots.now in
    let us = map abstract_trade_row done in
    let ls = map abstract_lot_details lots in
    let shares = to_z w64 (of_z w64 c.args.shares) in
    let same : shares ≡ c.args.shares = search rules in
    let price = c.args.price in
    let bought = c.in_ok-bought.ensures in
    let sold = c.in_ok-sold.ensures in
    let gain = c.in_ok-gain.ensures in
    let cost = c.in_ok-cost.ensures in
    let some = c.in_ok-open_lots.ensures in
    let changes = c.in_ok-changes.ensures in
    let trades : length done ≡ length us = rw length-map refl in
    let all : length lots ≡ length ls = rw length-map refl in
    let o = c.args.out.now.items in
    let x1 = c.put_trade_totals.new.out.items in
    let a1 = text_of_lines (purchase_sale_gain_and_cost_lines c.in_ok-bought.bought c.in_ok-sold.sold c.in_ok-gain.gain c.in_ok-cost.cost) in
    let x2 = c.put_worth.new.out.items in
    let a2 = text_of_lines (holding_value_lines shares price c.in_ok-cost.cost) in
    let x3 = c.put_holding_counts.new.out.items in
    let a3 = line_with_line_feed (holding_counts_line (length done) (length lots) c.in_ok-open_lots.open_lots c.in_ok-changes.changes) in
    more o a1 (a2 ++ (a3 ++ [])) x1 x3 c.in_ok-put_trade_totals.ensures
    (more x1 a2 (a3 ++ []) x2 x3 c.in_ok-put_worth.ensures (last x2 a3 x3 c.in_ok-put_holding_counts.ensures))
    ∙ (λ i.
    o
    ++ (text_of_lines (purchase_sale_gain_and_cost_lines (bought i) (sold i) (gain i) (cost i))
    ++ (text_of_lines (holding_value_lines (same i) price (cost i)) ++ text_of_lines (holding_counts_line (trades i) (all i) (some i) (changes i) ∷ []))))
    ∙ ap (λ (t : Text). o ++ t)
    (three_parts (purchase_sale_gain_and_cost_lines (total_purchase_value us) (negated_total_sale_value us) (realised_gain_of_lots ls) (remaining_cost_of_lots ls))
    (holding_value_lines c.args.shares price (remaining_cost_of_lots ls))
    (holding_counts_line (length us) (length ls) (length (lots_not_fully_closed ls)) (count_of_lot_changes ls) ∷ []))
