use Rattle.std.proofs.Common.{◌≡◌, ◌∙◌, List, ◌∷◌, ◌++◌, ap, flat_map, map, of_z, rules, sym, to_z, w64}
use Rattle.std.proofs.lemmas.Grind.{flat_map-append}
use Rattle.std.proofs.lemmas.List.{append_assoc}
use Rattle.brk_ref.specs.Rows.{abstract_trade_row}
use Rattle.brk_money.specs.Spelling.{Text}
use Rattle.brk_model_explain.specs.HoldingLines.{lot_columns_header, holding_trade_lines, holding_total_lines, holding_lines_from_trades_and_lots, holding_header_lines, lot_history_lines}
use Rattle.brk_explain_rows.specs.Details.{abstract_lot_details}
use Rattle.brk_model.specs.Statement.{text_of_lines}
use Rattle.brk_ref.specs.Records.{abstract_account_row, abstract_security_row}
use Rattle.brk_report_lines.specs.Written.{line_with_line_feed}
use Rattle.brk_explain_columns.proofs.Chains.{more}
use Rattle.brk_explain_sums.proofs.holding.put_holding_lines.Goals as goal

five_parts : (top rows : List Text) (head : Text) (lots end : List Text)
    → text_of_lines top ++ (text_of_lines rows ++ (line_with_line_feed head ++ (text_of_lines lots ++ text_of_lines end))) ≡ text_of_lines (((top ++ rows) ++ head ∷ lots) ++ end)
five_parts top rows head lots end =
    let t = text_of_lines top in
    let r = text_of_lines rows in
    let h = line_with_line_feed head in
    let l = text_of_lines lots in
    let e = text_of_lines end in
    sym
    (flat_map-append line_with_line_feed ((top ++ rows) ++ head ∷ lots) end
    ∙ ap (λ (x : Text). x ++ e) (flat_map-append line_with_line_feed (top ++ rows) (head ∷ lots) ∙ ap (λ (x : Text). x ++ (h ++ l)) (flat_map-append line_with_line_feed top rows))
    ∙ append_assoc (t ++ r) (h ++ l) e ∙ append_assoc t r ((h ++ l) ++ e) ∙ ap (λ (x : Text). t ++ (r ++ x)) (append_assoc h l e))

pub returns : goal.returns
unfolding holding_lines_from_trades_and_lots
returns c =
    let details = c.args.details.now in
    let top = holding_header_lines (abstract_account_row details.account) (abstract_security_row details.security) in
    let done = c.as_slice-done.result.now in
    let lots = c.as_slice-lots.result.now in
    let all_done = c.as_slice-done.ensures.value in
    let all_lots = c.as_slice-lots.ensures.value in
    let shares = to_z w64 (of_z w64 details.shares) in
    let same : shares ≡ details.shares = search rules in
    let o = c.args.out.now.items in
    let x1 = c.put_head_lines.new.out.items in
    let a1 = text_of_lines top in
    let x2 = c.put_holding_trades.new.out.items in
    let a2 = text_of_lines (holding_trade_lines (map abstract_trade_row done)) in
    let x3 = c.put_lot_header.new.out.items in
    let a3 = line_with_line_feed lot_columns_header in
    let x4 = c.put_lot_histories.new.out.items in
    let a4 = text_of_lines (flat_map lot_history_lines (map abstract_lot_details lots)) in
    let x5 = c.put_holding_end.new.out.items in
    let a5 = text_of_lines (holding_total_lines (map abstract_trade_row done) (map abstract_lot_details lots) shares details.price) in
    let r4 = a4 ++ a5 in
    let r3 = a3 ++ r4 in
    more o a1 (a2 ++ r3) x1 x5 c.in_ok-put_head_lines.ensures
    (more x1 a2 r3 x2 x5 c.in_ok-put_holding_trades.ensures
    (more x2 a3 r4 x3 x5 c.in_ok-put_lot_header.ensures
    (more x3 a4 a5 x4 x5 c.in_ok-put_lot_histories.ensures c.in_ok-put_holding_end.ensures)))
    ∙ (λ i.
    o
    ++ (a1
    ++ (text_of_lines (holding_trade_lines (map abstract_trade_row (all_done i)))
    ++ (a3
    ++ (text_of_lines (flat_map lot_history_lines (map abstract_lot_details (all_lots i)))
    ++ text_of_lines (holding_total_lines (map abstract_trade_row (all_done i)) (map abstract_lot_details (all_lots i)) (same i) details.price))))))
    ∙ ap (λ (t : Text). o ++ t)
    (five_parts top (holding_trade_lines (map abstract_trade_row details.done.items)) lot_columns_header (flat_map lot_history_lines (map abstract_lot_details details.lots.items))
    (holding_total_lines (map abstract_trade_row details.done.items) (map abstract_lot_details details.lots.items) details.shares details.price))
