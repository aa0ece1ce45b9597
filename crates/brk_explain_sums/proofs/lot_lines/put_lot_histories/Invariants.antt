use Rattle.std.proofs.Common.{◌≡◌, ◌++◌, flat_map, map, take}
use Rattle.brk_model_explain.specs.HoldingLines.{lot_history_lines}
use Rattle.brk_explain_rows.specs.Details.{abstract_lot_details}
use Rattle.brk_model.specs.Statement.{text_of_lines}
use Rattle.brk_explain_sums.proofs.lot_lines.put_lot_histories.Given as goal

abbrev pub invariant-loop-lot : goal.invariant-loop-lot
invariant-loop-lot l = l.out.items ≡ l.fn.out.items ++ text_of_lines (flat_map lot_history_lines (map abstract_lot_details (take l.lot-index l.lots)))
