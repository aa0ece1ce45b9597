-- The HOLDING_HISTORY rows of a lot: of each deal, and of those deals that change its quantity.
use Rattle.std.specs.Prelude.{ℕ, Bool, List, [], ◌∷◌, filter}
use Rattle.brk_model.specs.Derived.{deals_of_position}
use Rattle.brk_model.specs.Records.{Trade}
use Rattle.brk_model.specs.Shares.{Share, Deal, Touch, changes_lot_quantity, shares_after_deal, touch_of_lot}
use Rattle.brk_model.specs.Tables.{HoldingHistoryRow, holding_history_row}

-- The lot change of a HOLDING_HISTORY row: its lot, and the quantities of the lot before and after.
abbrev pub touch_of_row : HoldingHistoryRow → Touch
touch_of_row row = record { lot = row.lot; before = row.before; after = row.after }

-- True if the quantities before and after of a HOLDING_HISTORY row differ.
abbrev pub has_quantity_change : HoldingHistoryRow → Bool
has_quantity_change row = changes_lot_quantity (touch_of_row row)

-- A HOLDING_HISTORY row of the lot that the trade `lot` opened for each deal, also if it does not
-- change the lot; the deals are applied in sequence to the shares `shares`.
abbrev pub lot_history_rows_per_deal : ℕ → List Share → List Deal → List HoldingHistoryRow
lot_history_rows_per_deal lot shares [] = []
lot_history_rows_per_deal lot shares (d ∷ deals) =
    holding_history_row d.trade (touch_of_lot lot d shares) ∷ lot_history_rows_per_deal lot (shares_after_deal shares d) deals

-- The HOLDING_HISTORY rows of the lot that the trade `t` opened: one for each deal of its position,
-- over the trades `done`, that changes it, by completion stamp; none if `t` opened no share.
abbrev pub lot_rows_with_quantity_change : List Trade → Trade → List HoldingHistoryRow
lot_rows_with_quantity_change done t = filter has_quantity_change (lot_history_rows_per_deal t.id [] (deals_of_position done t.account t.symbol))
