use Rattle.std.proofs.Common.{◌≡◌, ◌++◌, map, pos, take}
use Rattle.brk_ref.specs.Rows.{abstract_trade_row}
use Rattle.brk_model_explain.specs.HoldingLines.{holding_trade_lines}
use Rattle.brk_model_explain.specs.Holdings.{signed_quantity_of_trade}
use Rattle.brk_model.specs.Statement.{text_of_lines}
use Rattle.brk_explain_columns.proofs.RunningRows.{total_after}
use Rattle.brk_explain_sums.proofs.trade_lines.put_holding_trades.Given as goal

abbrev pub invariant-loop-row : goal.invariant-loop-row
invariant-loop-row l = record {
  rows : l.out.items ≡ l.fn.out.items ++ text_of_lines (holding_trade_lines (map abstract_trade_row (take l.row-index l.done)));
  shares : l.held ≡ total_after signed_quantity_of_trade (pos 0) (map abstract_trade_row (take l.row-index l.done));
}
