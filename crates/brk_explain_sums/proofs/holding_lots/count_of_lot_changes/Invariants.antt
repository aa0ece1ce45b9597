use Rattle.std.proofs.Common.{◌≡◌, map, take}
use Rattle.brk_model_explain.specs.Holdings as holdings
use Rattle.brk_explain_rows.specs.Details.{abstract_lot_details}
use Rattle.brk_explain_sums.proofs.holding_lots.count_of_lot_changes.Given as goal

abbrev pub invariant-loop-lot : goal.invariant-loop-lot
invariant-loop-lot l = l.count ≡ holdings.count_of_lot_changes (map abstract_lot_details (take l.lot-index l.lots))
