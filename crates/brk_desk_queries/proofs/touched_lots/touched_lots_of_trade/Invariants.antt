use Rattle.std.proofs.Common.{◌≡◌, ◌==◌, ◌++◌, List, Ok, filter, length, map, take}
use Rattle.std.specs.Prelude.{flat_map}
use Rattle.brk_money.specs.declared.fault.CallFault.{CallFault}
use Rattle.brk_ref.specs.Rows.{abstract_lot_change_row}
use Rattle.brk_ref.specs.declared.lot_change.LotChange.{LotChange}
use Rattle.brk_model.specs.Lists.{sort_by}
use Rattle.brk_store_transactions.specs.Holds.{ReadPost}
use Rattle.brk_view_rows.specs.Lots.{is_earlier_lot_change}
use Rattle.brk_desk_queries.specs.Touched.{stamped_changes_of_lot}
use Rattle.brk_desk_queries.proofs.touched_lots.touched_lots_of_trade.Given as goal

abbrev pub invariant-loop-change : goal.invariant-loop-change
invariant-loop-change g l = ReadPost {V = Unit {0}} {E = CallFault} g.S.Store l.fn.store l.store (Ok tt)
    (λ _ t. (done : List LotChange) × (map abstract_lot_change_row (l.rest.items ++ done) ≡ filter (λ r. r.trade == l.fn.trade) t.holding_history)
    × (l.kept.items ≡ take 20 (sort_by is_earlier_lot_change (flat_map (λ r. stamped_changes_of_lot t r.lot) (map abstract_lot_change_row done)))))

abbrev pub decreases-loop-change : goal.decreases-loop-change
decreases-loop-change g l = length l.rest.items
