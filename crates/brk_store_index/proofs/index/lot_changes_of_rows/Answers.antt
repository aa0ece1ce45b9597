use Rattle.std.proofs.Common.{arith, map, take}
use Rattle.brk_ref.specs.Rows.{abstract_lot_change_row}
use Rattle.brk_store_index.specs.Groups.{ages_of_number}
use Rattle.brk_store_index.specs.Parts.{AreLotChangesOf}
use Rattle.brk_store_index.proofs.Aged.{no_ages, row_added}
use Rattle.brk_store_index.proofs.Changing.{lot_changes_same, lot_changes_with}
use Rattle.brk_store_index.proofs.index.lot_changes_of_rows.Goals as goal

pub loop-row-init : goal.loop-row-init
loop-row-init c = λ number. no_ages (ages_of_number c.new-changes.result number) (c.new-changes.ensures number)

pub loop-row-preserved : goal.loop-row-preserved
loop-row-preserved c =
    let rows = map abstract_lot_change_row (take c.loop-row.row-index c.args.rows.now) in
    row_added abstract_lot_change_row (AreLotChangesOf c.insert.new.self) (lot_changes_same c.insert.new.self) c.args.rows.now c.loop-row.row-index c.row-item.result (omega arith) c.row-item.is
    (lot_changes_with c.loop-row.changes c.insert.new.self (abstract_lot_change_row c.row-item.result) rows (rw (c.get.ensures.value, c.of_id.ensures) at c.in_ok-insert.ensures) c.loop-row.invariant)
