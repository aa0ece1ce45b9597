use Rattle.std.proofs.Common.{◌≡◌, ◌==◌, Ok, filter, map, take}
use Rattle.brk_money.specs.declared.fault.CallFault.{CallFault}
use Rattle.brk_ref.specs.Rows.{abstract_lot_change_row}
use Rattle.brk_store_transactions.specs.Holds.{ReadPost}
use Rattle.brk_view_rows.specs.Lots.{stamped_lot_change}
use Rattle.brk_desk_queries.proofs.touched_lots.stamped_lot_changes.Given as goal

abbrev pub invariant-loop-row : goal.invariant-loop-row
invariant-loop-row g l = ReadPost {V = Unit {0}} {E = CallFault} g.S.Store l.fn.store l.store (Ok tt)
    (λ _ t. (map abstract_lot_change_row l.row-items ≡ filter (λ r. r.lot == l.fn.lot) t.holding_history)
    × (l.touches.items ≡ map (λ r. stamped_lot_change t (abstract_lot_change_row r)) (take l.row-index l.row-items)))
