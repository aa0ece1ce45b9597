use Rattle.std.proofs.Common.{◌≡◌, map, take}
use Rattle.brk_model.specs.Lists.{total_by}
use Rattle.brk_model.specs.Tables.{Tables}
use Rattle.brk_ref.specs.Rows.{abstract_summary_row}
use Rattle.brk_store_index.specs.Prices.{AreLastPricesOf, market_value_of_summary}
use Rattle.brk_store_index.proofs.prices.LastPrices.market_value.Given as goal

abbrev pub invariant-loop-row : goal.invariant-loop-row
invariant-loop-row l = (t : Tables) → AreLastPricesOf l.fn.self t.last_trades → l.total ≡ total_by (market_value_of_summary t) (map abstract_summary_row (take l.row-index l.rows))
