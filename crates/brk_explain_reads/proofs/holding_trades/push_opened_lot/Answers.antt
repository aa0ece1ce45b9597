use Rattle.std.proofs.Common.{◌∙◌, ◌++◌, ◌∷◌, [], ap, map, option_map, sym}
use Rattle.std.specs.Prelude.{option_to_list}
use Rattle.std.proofs.lemmas.List.{append-nil, map-append}
use Rattle.brk_explain_rows.specs.Details.{abstract_lot_details}
use Rattle.brk_explain_reads.proofs.holding_trades.push_opened_lot.Goals as goal

pub returns-in_ok-push : goal.returns-in_ok-push
returns-in_ok-push c =
    ap (map abstract_lot_details) c.in_ok-push.ensures.items ∙ map-append abstract_lot_details c.args.lots.now.items (c.in-Some.lot ∷ [])
    ∙ ap (λ o. map abstract_lot_details c.args.lots.now.items ++ option_to_list (option_map abstract_lot_details o)) (sym c.in-Some.is)

pub returns-in_default : goal.returns-in_default
returns-in_default c =
    sym (append-nil (map abstract_lot_details c.args.lots.now.items))
    ∙ ap (λ o. map abstract_lot_details c.args.lots.now.items ++ option_to_list (option_map abstract_lot_details o)) (sym c.in_default.is)
