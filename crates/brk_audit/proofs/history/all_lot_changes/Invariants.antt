use Rattle.std.proofs.Common.{◌++◌, ◌-◌, ◌≤◌, List, drop, length, map}
use Rattle.brk_audit.specs.Positions.{AreLotChangesOfTrades}
use Rattle.brk_lots.specs.Chains.{abstract_deal_touch}
use Rattle.brk_ref.specs.Rows.{abstract_trade_row}
use Rattle.brk_model.specs.Tables.{HoldingHistoryRow}
use Rattle.brk_audit.proofs.history.all_lot_changes.Given as goal

-- what the trades from here on did, behind the rows so far, is what all did
abbrev pub invariant-loop-begin : goal.invariant-loop-begin
invariant-loop-begin l = record {
  within : l.begin ≤ length l.done;
  left : (rows : List HoldingHistoryRow) → AreLotChangesOfTrades (map (λ row. abstract_trade_row row.now) (drop l.begin l.done)) rows
      → AreLotChangesOfTrades (map (λ row. abstract_trade_row row.now) l.done) (map abstract_deal_touch l.rows.items ++ rows);
}

abbrev pub decreases-loop-begin : goal.decreases-loop-begin
decreases-loop-begin l = length l.done - l.begin
