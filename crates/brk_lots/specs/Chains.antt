-- The history of one lot.
use Rattle.std.specs.Prelude.{◌≡◌, ℕ, ◌<◌, ℤ, pos, List, [], ◌∷◌, ◌++◌, filter, map}
use Rattle.brk_money.specs.declared.side.Side.{Side}
use Rattle.brk_model.specs.Shares.{Share, Deal, Lot, Touch, signed_by_side, shares_after_deal, lots_of_shares, opened_shares, touches_of_existing_lots}
use Rattle.brk_model.specs.Tables.{HoldingHistoryRow, holding_history_row}
use Rattle.brk_lots.specs.HistoryRows.{has_quantity_change, lot_history_rows_per_deal, touch_of_row}
use Rattle.brk_lots.specs.declared.replay.DealTouch.{DealTouch}
use Rattle.brk_lots.specs.Lots.{list_reversed_if_lifo}

-- The changes, by the deals `ds`, applied in sequence to the shares `us`, of the lot that the trade
-- opens: one for each deal that changes its quantity, in the sequence of the deals.
abbrev pub changes_of_lot : ℕ → List Deal → List Share → List Touch
changes_of_lot trade ds us = map touch_of_row (filter has_quantity_change (lot_history_rows_per_deal trade us ds))

-- The signed quantity `after` is nearer to 0 than `before`, and is 0 or has the sign of `before`.
abbrev pub IsNearerToZero : ℤ → ℤ → Type 0
IsNearerToZero after before = (side : Side) × (m : ℕ) × (n : ℕ) × (after ≡ signed_by_side side m) × (before ≡ signed_by_side side n) × (m < n)

-- The changes form a chain from `from` to `to`: the first starts at `from`, each later one starts
-- where the one before it ended, and the last ends at `to`. Each ends strictly nearer to 0 than it
-- starts, at 0 or with the sign with which it starts. Without changes `from` equals `to`.
abbrev pub ShrinksTowardZero : ℤ → List Touch → ℤ → Type 0
ShrinksTowardZero from [] to = from ≡ to
ShrinksTowardZero from (row ∷ rows) to = (row.before ≡ from) × IsNearerToZero row.after row.before × ShrinksTowardZero row.after rows to

-- The changes are the history of a lot that ends at `to`: the first starts at 0 and ends at any
-- quantity, the later ones continue as `ShrinksTowardZero` specifies. Without changes `to` is 0.
abbrev pub IsLotHistory : List Touch → ℤ → Type 0
IsLotHistory [] to = pos 0 ≡ to
IsLotHistory (row ∷ rows) to = (row.before ≡ pos 0) × ShrinksTowardZero row.after rows to

-- The change that opens the lot `l`: from 0 to its quantity.
abbrev pub opening_touch : Lot → Touch
opening_touch l = record { lot = l.trade; before = pos 0; after = l.qty }

-- The HOLDING_HISTORY rows of the deal `d` on the shares `us`: one for each lot that it changes, in
-- the order of first shares, reversed if `d.is_lifo`, and one for the lot that it opens, if any.
abbrev pub lot_changes_of_deal : Deal → List Share → List HoldingHistoryRow
lot_changes_of_deal d us =
    map (holding_history_row d.trade) (list_reversed_if_lifo d.is_lifo (touches_of_existing_lots d us)
    ++ map opening_touch (lots_of_shares (opened_shares d us)))

-- The HOLDING_HISTORY rows of the deals, applied in sequence to the shares `us`, deal by deal.
abbrev pub lot_changes_of_deals : List Deal → List Share → List HoldingHistoryRow
lot_changes_of_deals [] us = []
lot_changes_of_deals (d ∷ ds) us = lot_changes_of_deal d us ++ lot_changes_of_deals ds (shares_after_deal us d)

-- The model's HOLDING_HISTORY row with the values of the lot change `t` of the program.
abbrev pub abstract_deal_touch : DealTouch → HoldingHistoryRow
abstract_deal_touch t = record { lot = t.touch.lot; trade = t.trade; before = t.touch.before; after = t.touch.after }
