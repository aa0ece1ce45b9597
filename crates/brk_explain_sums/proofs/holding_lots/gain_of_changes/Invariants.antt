use Rattle.std.proofs.Common.{◌≡◌, map, take}
use Rattle.brk_model_explain.specs.Holdings.{realised_gain_of_change}
use Rattle.brk_explain_rows.specs.Details.{abstract_priced_lot_change}
use Rattle.brk_model.specs.Lists.{total_by}
use Rattle.brk_explain_sums.proofs.holding_lots.gain_of_changes.Given as goal

abbrev pub invariant-loop-change : goal.invariant-loop-change
invariant-loop-change l = l.total ≡ total_by (realised_gain_of_change l.price) (map abstract_priced_lot_change (take l.change-index l.changes))
