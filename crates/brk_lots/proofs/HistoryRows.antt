-- A lot has a row for each deal that changes its quantity, and no other.
use Rattle.std.proofs.Common.{◌≡◌, ℕ, List, [], ◌∷◌, filter, refl, ap}
use Rattle.std.specs.Prelude.{flat_map}
use Rattle.brk_model.specs.Derived.{deals_of_position}
use Rattle.brk_model.specs.Records.{Trade}
use Rattle.brk_model.specs.Shares.{Share, Deal, shares_after_deal, touch_of_lot}
use Rattle.brk_model.specs.Tables.{holding_history_over_deals, holding_history_rows_of_lot, rows_with_lot_touch}
use Rattle.brk_lots.specs.HistoryRows.{lot_rows_with_quantity_change, lot_history_rows_per_deal, has_quantity_change}

by_deals : (lot : ℕ) (shares : List Share) (deals : List Deal) → holding_history_over_deals lot shares deals ≡ filter has_quantity_change (lot_history_rows_per_deal lot shares deals)
by_deals lot shares [] = refl
by_deals lot shares (d ∷ deals) = ap (rows_with_lot_touch d.trade (touch_of_lot lot d shares)) (by_deals lot (shares_after_deal shares d) deals)

pub rows_of_lot_are : (done : List Trade) (t : Trade) → holding_history_rows_of_lot done t ≡ lot_rows_with_quantity_change done t
rows_of_lot_are done t = by_deals t.id [] (deals_of_position done t.account t.symbol)

-- the rows of all lots
pub rows_of_lots_are : (done ts : List Trade) → flat_map (holding_history_rows_of_lot done) ts ≡ flat_map (lot_rows_with_quantity_change done) ts
rows_of_lots_are done ts = λ i. flat_map (λ t. rows_of_lot_are done t i) ts
