use Rattle.std.proofs.Common.{◌≡◌, ◌++◌, map, take}
use Rattle.brk_model_explain.specs.TradeLines.{lot_closing_line}
use Rattle.brk_explain_rows.specs.Details.{abstract_closing}
use Rattle.brk_model.specs.Statement.{text_of_lines}
use Rattle.brk_explain_lines.proofs.lots_lines.put_closings.Given as goal

abbrev pub invariant-loop-closing : goal.invariant-loop-closing
invariant-loop-closing l = l.out.items ≡ l.fn.out.items ++ text_of_lines (map (lot_closing_line l.side l.price) (map abstract_closing (take l.closing-index l.closings)))
