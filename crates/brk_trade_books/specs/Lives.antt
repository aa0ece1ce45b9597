-- The history of each lot: the chain of its changes.
use Rattle.std.specs.Prelude.{◌≡◌, ⊤, ℕ, ◌==◌, nat_lt, List, [], ◌∷◌, filter, find, map, ℤ, pos}
use Rattle.std.specs.Option.{option_map_or}
use Rattle.brk_lots.specs.Chains.{IsLotHistory}
use Rattle.brk_model.specs.Lists.{sort_by}
use Rattle.brk_model.specs.LookupView.{stamp_of_touching_trade}
use Rattle.brk_model.specs.Tables.{HoldingHistoryRow, Tables}
use Rattle.brk_lots.specs.HistoryRows.{touch_of_row}

-- The rows of HOLDING_HISTORY of the lot, stably sorted by `stamp_of_touching_trade`, ascending.
abbrev pub lot_changes_by_stamp : Tables → ℕ → List HoldingHistoryRow
lot_changes_by_stamp t lot = sort_by (λ a b. nat_lt (stamp_of_touching_trade t a) (stamp_of_touching_trade t b)) (filter (λ h. h.lot == lot) t.holding_history)

-- The quantity of the lot in its first row of HOLDING, below 0 if sold short; 0 without a row.
abbrev pub remaining_lot_quantity : Tables → ℕ → ℤ
remaining_lot_quantity t lot = option_map_or (λ h. h.qty) (find (λ h. h.trade == lot) t.holdings) (pos 0)

-- The first row records a change by the trade `lot`, which opened the lot. Vacuous without a row.
abbrev pub BeginsWithTradeOfLot : ℕ → List HoldingHistoryRow → Type 0
BeginsWithTradeOfLot lot [] = ⊤
BeginsWithTradeOfLot lot (row ∷ rows) = row.trade ≡ lot

-- The rows of HOLDING_HISTORY of the lot `lot`, sorted by stamp, form a chain: the first is by the
-- trade that opened the lot and starts at 0; each later one starts where the row before it ended
-- and ends strictly nearer to 0, at 0 or with the same sign; the last ends at the quantity of the
-- lot in HOLDING, 0 without a row there. Without rows of HOLDING_HISTORY, that quantity is 0.
pub record LotChangesFormChain (t : Tables) (lot : ℕ) : Type 0 where
  pub opened : BeginsWithTradeOfLot lot (lot_changes_by_stamp t lot)
  pub life : IsLotHistory (map touch_of_row (lot_changes_by_stamp t lot)) (remaining_lot_quantity t lot)

-- For every lot, its rows of HOLDING_HISTORY form a chain from 0 to its quantity in HOLDING, 0
-- without a row there (`LotChangesFormChain`).
abbrev pub AllLotChangesFormChains : Tables → Type 0
AllLotChangesFormChains t = (lot : ℕ) → LotChangesFormChain t lot
