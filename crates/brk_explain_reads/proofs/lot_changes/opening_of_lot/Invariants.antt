use Rattle.std.proofs.Common.{◌≡◌, ◌==◌, drop, find, map}
use Rattle.brk_ref.specs.Rows.{abstract_lot_change_row}
use Rattle.brk_explain_reads.proofs.lot_changes.opening_of_lot.Given as goal

abbrev pub invariant-loop-change : goal.invariant-loop-change
invariant-loop-change l = find (λ h. h.trade == l.lot) (map abstract_lot_change_row l.changes) ≡ find (λ h. h.trade == l.lot) (map abstract_lot_change_row (drop l.change-index l.changes))
