use Rattle.std.proofs.Common.{arith, map, take}
use Rattle.brk_ref.specs.Rows.{abstract_holding_row}
use Rattle.brk_store_index.specs.Parts.{IsIndexOfLots}
use Rattle.brk_store_index.proofs.Aged.{row_added}
use Rattle.brk_store_index.proofs.Changing.{lots_same}
use Rattle.brk_store_index.proofs.lots.LotGroups.of_rows.Goals as goal

pub loop-row-preserved : goal.loop-row-preserved
loop-row-preserved c =
    row_added abstract_holding_row (IsIndexOfLots c.add.new.self) (lots_same c.add.new.self) c.args.rows.now c.loop-row.row-index c.row-item.result (omega arith) c.row-item.is
    (c.in_ok-add.ensures (map abstract_holding_row (take c.loop-row.row-index c.args.rows.now)) c.loop-row.invariant)
