use Rattle.std.proofs.Common.{◌≡◌, ◌++◌, map, take}
use Rattle.brk_audit.specs.Positions.{holding_row_in_position_of_trade}
use Rattle.brk_ref.specs.Rows.{abstract_holding_row, abstract_trade_row}
use Rattle.brk_lots.specs.Lots.{abstract_lot}
use Rattle.brk_audit.proofs.holding_lots.append_lots.Given as goal

abbrev pub invariant-loop-lot : goal.invariant-loop-lot
invariant-loop-lot l = map abstract_holding_row l.held.items ≡ map abstract_holding_row l.fn.held.items
    ++ map (holding_row_in_position_of_trade (abstract_trade_row l.trade)) (map abstract_lot (take l.lot-index l.lots))
