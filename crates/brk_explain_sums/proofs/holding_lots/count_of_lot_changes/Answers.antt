use Rattle.std.proofs.Common.{◌≡◌, ◌∙◌, ◌+◌, List, [], ◌∷◌, ◌++◌, append-nil, ap, length, map, sym, take}
use Rattle.std.specs.Prelude.{flat_map}
use Rattle.std.proofs.lemmas.Grind.{flat_map-append}
use Rattle.std.proofs.lemmas.List.{length-append}
use Rattle.brk_model_explain.specs.Holdings.{LotChange, LotDetails, count_of_lot_changes}
use Rattle.brk_explain_rows.specs.Details.{abstract_priced_lot_change, abstract_lot_details}
use Rattle.brk_explain_columns.proofs.Items.{map_one_more}
use Rattle.brk_explain_sums.proofs.holding_lots.count_of_lot_changes.Goals as goal

count_more : (ls : List LotDetails) (l : LotDetails) → count_of_lot_changes (ls ++ l ∷ []) ≡ count_of_lot_changes ls + length l.changes
count_more ls l =
    let of : LotDetails → List LotChange = λ x. x.changes in
    ap length (flat_map-append of ls (l ∷ [])) ∙ length-append (flat_map of ls) (l.changes ++ []) ∙ ap (λ xs. length (flat_map of ls) + length xs) (append-nil l.changes)

pub loop-lot-preserved : goal.loop-lot-preserved
loop-lot-preserved c =
    let lots = c.args.lots.now in
    let i = c.loop-lot.lot-index in
    let lot = c.lot-item.result in
    let some : c.change_count.result ≡ length (abstract_lot_details lot).changes = c.change_count.ensures ∙ ap (λ xs. length (map abstract_priced_lot_change xs)) c.deref.ensures.value in
    c.in_ok-count.ensures ∙ (λ k. c.loop-lot.invariant k + some k) ∙ sym (count_more (map abstract_lot_details (take i lots)) (abstract_lot_details lot))
    ∙ ap count_of_lot_changes (sym (map_one_more abstract_lot_details lots i lot c.lot-item.is c.loop-lot-test.true))
