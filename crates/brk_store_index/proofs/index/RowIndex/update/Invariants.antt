use Rattle.std.proofs.Common.{take}
use Rattle.brk_trade_rows.specs.Changes.{tables_after_changes}
use Rattle.brk_model.specs.Tables.{Tables}
use Rattle.brk_store_index.specs.Index.{IsIndexOf}
use Rattle.brk_store_index.proofs.index.RowIndex.update.Given as goal

abbrev pub invariant-loop-change : goal.invariant-loop-change
invariant-loop-change l = (t : Tables) → IsIndexOf l.initial.self t → IsIndexOf l.self (tables_after_changes (take l.change-index l.changes) t)
