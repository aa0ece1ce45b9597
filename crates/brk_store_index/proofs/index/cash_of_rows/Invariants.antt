use Rattle.std.proofs.Common.{map, take}
use Rattle.brk_ref.specs.Rows.{abstract_cash_row}
use Rattle.brk_store_index.specs.Parts.{AreCashRowsOf}
use Rattle.brk_store_index.proofs.index.cash_of_rows.Given as goal

abbrev pub invariant-loop-row : goal.invariant-loop-row
invariant-loop-row l = AreCashRowsOf l.cash (map abstract_cash_row (take l.row-index l.rows))
