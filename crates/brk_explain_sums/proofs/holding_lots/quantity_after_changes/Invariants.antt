use Rattle.std.proofs.Common.{◌≡◌, map, take}
use Rattle.brk_explain_rows.specs.Details.{abstract_priced_lot_change}
use Rattle.brk_explain_sums.specs.HoldingTexts.{quantity_after_changes}
use Rattle.brk_explain_sums.proofs.holding_lots.quantity_after_changes.Given as goal

abbrev pub invariant-loop-change : goal.invariant-loop-change
invariant-loop-change l = l.left ≡ quantity_after_changes l.opened (map abstract_priced_lot_change (take l.change-index l.changes))
