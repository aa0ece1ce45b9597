use Rattle.std.proofs.Common.{◌≡◌, length, map, take}
use Rattle.brk_model_explain.specs.Holdings.{lots_not_fully_closed}
use Rattle.brk_explain_rows.specs.Details.{abstract_lot_details}
use Rattle.brk_explain_sums.proofs.holding_lots.count_open_lots.Given as goal

abbrev pub invariant-loop-lot : goal.invariant-loop-lot
invariant-loop-lot l = l.count ≡ length (lots_not_fully_closed (map abstract_lot_details (take l.lot-index l.lots)))
