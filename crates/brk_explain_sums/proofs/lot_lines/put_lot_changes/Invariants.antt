use Rattle.std.proofs.Common.{◌≡◌, ◌++◌, map, take}
use Rattle.brk_model_explain.specs.HoldingLines.{lot_change_lines}
use Rattle.brk_explain_rows.specs.Details.{abstract_priced_lot_change}
use Rattle.brk_model.specs.Statement.{text_of_lines}
use Rattle.brk_explain_sums.proofs.lot_lines.put_lot_changes.Given as goal

abbrev pub invariant-loop-change : goal.invariant-loop-change
invariant-loop-change l = l.out.items ≡ l.fn.out.items ++ text_of_lines (lot_change_lines l.price (map abstract_priced_lot_change (take l.change-index l.changes)))
