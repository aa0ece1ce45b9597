use Rattle.std.proofs.Common.{map, take}
use Rattle.brk_ref.specs.Rows.{abstract_holding_row}
use Rattle.brk_store_index.specs.Parts.{IsIndexOfLots}
use Rattle.brk_store_index.proofs.lots.LotGroups.of_rows.Given as goal

abbrev pub invariant-loop-row : goal.invariant-loop-row
invariant-loop-row l = IsIndexOfLots l.lots (map abstract_holding_row (take l.row-index l.rows))
