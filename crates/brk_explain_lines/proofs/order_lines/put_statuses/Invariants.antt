use Rattle.std.proofs.Common.{◌≡◌, ◌++◌, map, take}
use Rattle.brk_ref.specs.Rows.{abstract_history_row}
use Rattle.brk_model_explain.specs.TradeLines.{status_change_line}
use Rattle.brk_model.specs.Statement.{text_of_lines}
use Rattle.brk_explain_lines.proofs.order_lines.put_statuses.Given as goal

abbrev pub invariant-loop-row : goal.invariant-loop-row
invariant-loop-row l = l.out.items ≡ l.fn.out.items ++ text_of_lines (map status_change_line (map abstract_history_row (take l.row-index l.rows)))
