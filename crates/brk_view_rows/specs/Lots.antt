-- The records of the lots that a trade touched: those that it reduced, closed or opened.
use Rattle.std.specs.Prelude.{◌≡◌, ℕ, Bool, nat_le, List, [], ◌∷◌, filter, map, take, decimal, Option, Some, None, option_map, option_to_list, IfSome}
use Rattle.std.specs.Fmt.{signed_decimal}
use Rattle.brk_model.specs.Joins.{trade_rows_oldest_first, trade_rows_of_account}
use Rattle.brk_model.specs.Lists.{is_pair_less, sort_by}
use Rattle.brk_model.specs.LookupView.{trade_touches_lot, stamp_of_touching_trade}
use Rattle.brk_model.specs.Queries as model
use Rattle.brk_model.specs.Tables.{Tables, HoldingHistoryRow, TradeRow}
use Rattle.brk_money.specs.Spelling.{Text}
use Rattle.brk_view_rows.specs.declared.touched_lots.LotTouch.{LotTouch}
use Rattle.brk_view_rows.specs.declared.touched_lots.TouchedLots.{TouchedLots}

-- True if the lot change `a` is before `b` by stamp, then by the id of the lot.
abbrev pub is_earlier_lot_change : LotTouch → LotTouch → Bool
is_earlier_lot_change a b = is_pair_less a.stamp b.stamp a.change.lot b.change.lot

-- The record of a lot change: lot, trade, and shares before and after it, below 0 if sold short.
abbrev pub lot_change_record : LotTouch → List Text
lot_change_record touch = decimal touch.change.lot ∷ decimal touch.change.trade ∷ signed_decimal touch.change.before ∷ signed_decimal touch.change.after ∷ []

-- The records of a trade's touched lots: its id, then one for each lot change; none for `None`.
abbrev pub touched_lot_records : Option TouchedLots → model.View
touched_lot_records None = []
touched_lot_records (Some lots) = (decimal lots.trade ∷ []) ∷ map lot_change_record lots.changes.items

-- The lot change of a HOLDING_HISTORY row, with the stamp of its trade's TRADE row, or 0 if none.
abbrev pub stamped_lot_change : Tables → HoldingHistoryRow → LotTouch
stamped_lot_change t row =
    record { change = record { lot = row.lot; trade = row.trade; before = row.before; after = row.after }; stamp = stamp_of_touching_trade t row }

-- All changes, by any trade, of the lots that `trade` touched, in the order of HOLDING_HISTORY.
abbrev pub changes_of_touched_lots : Tables → ℕ → List LotTouch
changes_of_touched_lots t trade = map (stamped_lot_change t) (filter (λ row. trade_touches_lot t trade row.lot) t.holding_history)

-- The first trade of `account` from the stamp `first` on, by stamp, then by id, in a list, if any.
abbrev pub first_trade_since_as_list : Tables → ℕ → ℕ → List TradeRow
first_trade_since_as_list t account first = take 1 (trade_rows_oldest_first (filter (λ row. nat_le first row.stamp) (trade_rows_of_account t account)))

-- `lots` has the id of the first trade of `account` from the stamp `first` on, by stamp, then by
-- id, and the first 20 changes, or fewer, by any trade, of the lots that it touched, by stamp, then
-- by lot (stable). `None` if and only if the account has no such trade.
pub record AreTouchedLots (t : Tables) (account first : ℕ) (lots : Option TouchedLots) : Type 0 where
  pub found : map (λ row. row.id) (first_trade_since_as_list t account first) ≡ option_to_list (option_map (λ l. l.trade) lots)
  pub changes : IfSome lots (λ l. l.changes.items ≡ take 20 (sort_by is_earlier_lot_change (changes_of_touched_lots t l.trade)))
