use Rattle.std.proofs.Common.{arith, map, take}
use Rattle.brk_ref.specs.Rows.{abstract_trade_row}
use Rattle.brk_store_index.specs.Parts.{IsIndexOfTrades}
use Rattle.brk_store_index.proofs.Aged.{row_added}
use Rattle.brk_store_index.proofs.Trading.{trades_same}
use Rattle.brk_store_index.proofs.trades.TradeGroups.of_rows.Goals as goal

pub loop-row-preserved : goal.loop-row-preserved
loop-row-preserved c =
    row_added abstract_trade_row (IsIndexOfTrades c.add.new.self) (trades_same c.add.new.self) c.args.rows.now c.loop-row.row-index c.row-item.result (omega arith) c.row-item.is
    (c.in_ok-add.ensures (map abstract_trade_row (take c.loop-row.row-index c.args.rows.now)) c.loop-row.invariant)
