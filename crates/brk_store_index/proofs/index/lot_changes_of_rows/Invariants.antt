use Rattle.std.proofs.Common.{map, take}
use Rattle.brk_ref.specs.Rows.{abstract_lot_change_row}
use Rattle.brk_store_index.specs.Parts.{AreLotChangesOf}
use Rattle.brk_store_index.proofs.index.lot_changes_of_rows.Given as goal

abbrev pub invariant-loop-row : goal.invariant-loop-row
invariant-loop-row l = AreLotChangesOf l.changes (map abstract_lot_change_row (take l.row-index l.rows))
