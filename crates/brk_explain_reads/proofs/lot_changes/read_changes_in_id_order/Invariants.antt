use Rattle.std.proofs.Common.{◌≡◌, ◌==◌, Ok, filter, map, take}
use Rattle.brk_money.specs.declared.fault.CallFault.{CallFault}
use Rattle.brk_ref.specs.Rows as rows
use Rattle.brk_store_transactions.specs.Holds.{ReadPost}
use Rattle.brk_model_explain.specs.Holdings.{recorded_lot_change}
use Rattle.brk_explain_rows.specs.Details.{abstract_priced_lot_change}
use Rattle.brk_explain_reads.proofs.lot_changes.read_changes_in_id_order.Given as goal

abbrev pub invariant-loop-change : goal.invariant-loop-change
invariant-loop-change g l = ReadPost {V = Unit {0}} {E = CallFault} g.S.Store l.fn.store l.store (Ok tt)
    (λ _ t. (map rows.abstract_lot_change_row l.changes.items ≡ filter (λ r. r.lot == l.fn.lot) t.holding_history)
    × (map abstract_priced_lot_change l.changes_by_others.items ≡ map (λ h. recorded_lot_change t (rows.abstract_lot_change_row h)) (take l.change-index l.change-items)))
