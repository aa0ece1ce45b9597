use Rattle.std.proofs.Common.{map, take}
use Rattle.brk_ref.specs.Records.{abstract_last_trade_row}
use Rattle.brk_store_index.specs.Prices.{AreLastPricesOf}
use Rattle.brk_store_index.proofs.prices.LastPrices.of_rows.Given as goal

abbrev pub invariant-loop-row : goal.invariant-loop-row
invariant-loop-row l = AreLastPricesOf l.prices (map abstract_last_trade_row (take l.row-index l.rows))
