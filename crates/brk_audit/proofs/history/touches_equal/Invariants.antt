use Rattle.std.proofs.Common.{◌≡◌, map, take}
use Rattle.brk_ref.specs.Rows.{abstract_lot_change_row}
use Rattle.brk_lots.specs.Chains.{abstract_deal_touch}
use Rattle.brk_audit.proofs.history.touches_equal.Given as goal

abbrev pub invariant-loop-i : goal.invariant-loop-i
invariant-loop-i l = map abstract_deal_touch (take l.i l.touches) ≡ map abstract_lot_change_row (take l.i l.rows)
