-- The changes of lots that were read.
use Rattle.std.specs.Prelude.{◌≡◌, ◌==◌, ℕ, List, filter, flat_map, map, take}
use Rattle.std.specs.Option.{option_map_or}
use Rattle.brk_model.specs.Joins.{trade_row_with_id}
use Rattle.brk_model.specs.Lists.{sort_by}
use Rattle.brk_model.specs.Tables.{Tables}
use Rattle.brk_view_rows.specs.Lots.{is_earlier_lot_change, stamped_lot_change}
use Rattle.brk_view_rows.specs.declared.touched_lots.LotTouch.{LotTouch}
use Rattle.brk_view_rows.specs.declared.touched_lots.TouchedLots.{TouchedLots}

-- The stamp of the last status of the trade, from the first TRADE row with its id (T_DTS), in
-- milliseconds since 1970-01-01 UTC, or 0 without such a row.
abbrev pub last_status_stamp : Tables → ℕ → ℕ
last_status_stamp t trade = option_map_or (λ r. r.stamp) (trade_row_with_id t trade) 0

-- The changes of the lot with the id `lot`, one for each row of HOLDING_HISTORY with it, in order,
-- each with the stamp of the last status of its trade, or 0 if that trade does not exist.
abbrev pub stamped_changes_of_lot : Tables → ℕ → List LotTouch
stamped_changes_of_lot t lot = map (stamped_lot_change t) (filter (λ r. r.lot == lot) t.holding_history)

-- `lots` has the id `trade` and the first 20 changes, by any trade, of the lots that this trade
-- touched, or all if there are fewer, sorted by stamp, then by lot, ascending.
abbrev pub AreTouchedLotsOfTrade : ℕ → TouchedLots → Tables → Type 0
AreTouchedLotsOfTrade trade lots t =
    (lots.trade ≡ trade)
    × (lots.changes.items
    ≡ take 20 (sort_by is_earlier_lot_change (flat_map (λ r. stamped_changes_of_lot t r.lot) (filter (λ r. r.trade == trade) t.holding_history))))
