use Rattle.std.proofs.Common.{◌≡◌, ◌∙◌, ◌+ℤ◌, ℤ, List, [], ◌∷◌, ◌++◌, ap, map, of_z, pos, rules, sym, take, to_z, w64}
use Rattle.std.proofs.lemmas.Grind.{flat_map-append}
use Rattle.brk_money.specs.Spelling.{Text}
use Rattle.brk_ref.specs.Rows.{abstract_trade_row}
use Rattle.brk_model_explain.specs.HoldingLines.{holding_trade_line, holding_trade_lines}
use Rattle.brk_model_explain.specs.Holdings.{signed_quantity_of_trade}
use Rattle.brk_model.specs.Statement.{text_of_lines}
use Rattle.brk_report_lines.specs.Written.{line_with_line_feed}
use Rattle.brk_explain_columns.proofs.Chains.{last, more}
use Rattle.brk_explain_columns.proofs.Items.{map_one_more}
use Rattle.brk_explain_columns.proofs.RunningRows.{after_more, rows_parts, total_after}
use Rattle.brk_explain_sums.proofs.trade_lines.put_holding_trades.Goals as goal

pub loop-row-preserved : goal.loop-row-preserved
loop-row-preserved c =
    let done = c.args.done.now in
    let i = c.loop-row.row-index in
    let row = c.row-item.result in
    let u = abstract_trade_row row in
    let us = map abstract_trade_row (take i done) in
    let o = c.args.out.now.items in
    let first = holding_trade_lines us in
    let after = c.in_ok-after.after in
    let held = to_z w64 (of_z w64 after) in
    let same : held ≡ after = search rules in
    let next = holding_trade_line u held in
    let longer = sym (map_one_more abstract_trade_row done i row c.row-item.is c.loop-row-test.true) in
    let sum : held ≡ total_after signed_quantity_of_trade (pos 0) us +ℤ signed_quantity_of_trade u = same ∙ c.in_ok-after.ensures
    ∙ ap (λ (z : ℤ). z +ℤ signed_quantity_of_trade u) c.loop-row.invariant.shares in
    record {
      rows = more o (text_of_lines first) (line_with_line_feed next ++ []) c.loop-row.out.items c.put_holding_trade.new.out.items c.loop-row.invariant.rows
          (last c.loop-row.out.items (line_with_line_feed next) c.put_holding_trade.new.out.items c.in_ok-put_holding_trade.ensures)
          ∙ ap (λ (t : Text). o ++ t) (sym (flat_map-append line_with_line_feed first (next ∷ [])))
          ∙ ap (λ (ls : List Text). o ++ text_of_lines ls)
          (ap (λ (z : ℤ). first ++ holding_trade_line u z ∷ []) sum ∙ sym (rows_parts signed_quantity_of_trade holding_trade_line (pos 0) us (u ∷ [])) ∙ ap holding_trade_lines longer);
      shares = sum ∙ sym (after_more signed_quantity_of_trade (pos 0) us u) ∙ ap (total_after signed_quantity_of_trade (pos 0)) longer;
    }
