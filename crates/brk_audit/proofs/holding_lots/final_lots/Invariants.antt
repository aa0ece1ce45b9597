use Rattle.std.proofs.Common.{◌++◌, ◌-◌, ◌≤◌, List, drop, length, map}
use Rattle.brk_audit.specs.Positions.{AreLotsLeftByTrades}
use Rattle.brk_ref.specs.Rows.{abstract_holding_row, abstract_trade_row}
use Rattle.brk_model.specs.Tables.{HoldingRow}
use Rattle.brk_audit.proofs.holding_lots.final_lots.Given as goal

-- what the trades from here on leave, behind the lots so far, is what all leave
abbrev pub invariant-loop-begin : goal.invariant-loop-begin
invariant-loop-begin l = record {
  within : l.begin ≤ length l.done;
  left : (rows : List HoldingRow) → AreLotsLeftByTrades (map (λ row. abstract_trade_row row.now) (drop l.begin l.done)) rows
      → AreLotsLeftByTrades (map (λ row. abstract_trade_row row.now) l.done) (map abstract_holding_row l.held.items ++ rows);
}

abbrev pub decreases-loop-begin : goal.decreases-loop-begin
decreases-loop-begin l = length l.done - l.begin
