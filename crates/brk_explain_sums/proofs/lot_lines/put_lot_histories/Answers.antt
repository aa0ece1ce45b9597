use Rattle.std.proofs.Common.{◌∙◌, List, [], ◌∷◌, ◌++◌, append-nil, ap, flat_map, map, sym, take}
use Rattle.std.proofs.lemmas.Grind.{flat_map-append}
use Rattle.brk_money.specs.Spelling.{Text}
use Rattle.brk_model_explain.specs.HoldingLines.{lot_history_lines}
use Rattle.brk_explain_rows.specs.Details.{abstract_lot_details}
use Rattle.brk_model.specs.Statement.{text_of_lines}
use Rattle.brk_report_lines.specs.Written.{line_with_line_feed}
use Rattle.brk_explain_columns.proofs.Chains.{more}
use Rattle.brk_explain_columns.proofs.Items.{map_one_more}
use Rattle.brk_explain_sums.proofs.lot_lines.put_lot_histories.Goals as goal

pub loop-lot-preserved : goal.loop-lot-preserved
loop-lot-preserved c =
    let lots = c.args.lots.now in
    let i = c.loop-lot.lot-index in
    let lot = c.lot-item.result in
    let ls = map abstract_lot_details (take i lots) in
    let o = c.args.out.now.items in
    let first = flat_map lot_history_lines ls in
    let next = lot_history_lines (abstract_lot_details lot) in
    more o (text_of_lines first) (text_of_lines next) c.loop-lot.out.items c.put_lot_history.new.out.items c.loop-lot.invariant c.in_ok-put_lot_history.ensures
    ∙ ap (λ (t : Text). o ++ t) (sym (flat_map-append line_with_line_feed first next))
    ∙ ap (λ (all : List Text). o ++ text_of_lines all)
    (ap (λ (l : List Text). first ++ l) (sym (append-nil next)) ∙ sym (flat_map-append lot_history_lines ls (abstract_lot_details lot ∷ []))
    ∙ ap (flat_map lot_history_lines) (sym (map_one_more abstract_lot_details lots i lot c.lot-item.is c.loop-lot-test.true)))
