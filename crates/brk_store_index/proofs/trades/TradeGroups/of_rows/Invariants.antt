use Rattle.std.proofs.Common.{map, take}
use Rattle.brk_ref.specs.Rows.{abstract_trade_row}
use Rattle.brk_store_index.specs.Parts.{IsIndexOfTrades}
use Rattle.brk_store_index.proofs.trades.TradeGroups.of_rows.Given as goal

abbrev pub invariant-loop-row : goal.invariant-loop-row
invariant-loop-row l = IsIndexOfTrades l.trades (map abstract_trade_row (take l.row-index l.rows))
