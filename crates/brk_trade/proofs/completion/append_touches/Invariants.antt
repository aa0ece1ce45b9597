use Rattle.std.proofs.Common.{◌≡◌, ◌++◌, take}
use Rattle.std.specs.List.{flat_map}
use Rattle.brk_trade.specs.Results.{row_changes_of_touched_lot}
use Rattle.brk_trade.proofs.completion.append_touches.Given as goal

abbrev pub invariant-loop-touch : goal.invariant-loop-touch
invariant-loop-touch l = l.changes.items ≡ l.fn.changes.items ++ flat_map (row_changes_of_touched_lot l.trade) (take l.touch-index l.touched)
