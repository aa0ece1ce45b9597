-- The facts that the explanation of a holding reads from the tables, and the amounts from them.
use Rattle.std.specs.Prelude.{ℕ, Bool, not, ◌&&◌, ◌==◌, List, map, filter, find, flat_map, length, None, is_some, unwrap_or, ℤ, pos, ◌-ℤ◌, ◌*ℤ◌, int_lt}
use Rattle.std.specs.Prelude.{bytes_eq}
use Rattle.std.specs.List.{last_or}
use Rattle.std.specs.Option.{option_map_or}
use Rattle.brk_money.specs.Spelling.{Text}
use Rattle.brk_money.specs.Kinds.{side_of_trade_type}
use Rattle.brk_model.specs.Lists.{sort_by_key, total_by, is_zero}
use Rattle.brk_model.specs.Shares.{signed_by_side}
use Rattle.brk_model.specs.Tables.{Tables, TradeRow, HoldingHistoryRow}
use Rattle.brk_model_explain.specs.Trades.{has_completed_status, trade_price_or_zero, trade_stamp_or_zero, opened_lot_row, completion_price_or_zero}

-- The completed trades of `account` in `symbol`, sorted by the stamp of completion, ascending.
abbrev pub completed_trades_in_symbol : Tables → ℕ → Text → List TradeRow
completed_trades_in_symbol tables account symbol =
    sort_by_key (λ u. u.stamp) (filter (λ u. has_completed_status u && (u.account == account) && bytes_eq u.symbol symbol) tables.trades)

-- The quantity of the trade `u`, negated if it is a sale.
abbrev pub signed_quantity_of_trade : TradeRow → ℤ
signed_quantity_of_trade u = signed_by_side (side_of_trade_type u.kind) u.qty

-- The quantity of `u` times its completion price (0 if none), in cents, negated for a sale.
abbrev pub signed_value_of_trade : TradeRow → ℤ
signed_value_of_trade u = signed_quantity_of_trade u *ℤ pos (completion_price_or_zero u)

-- A change of a lot by another trade than the one that opened it: id, stamp and price, in cents, of
-- that trade, and the lot's quantity before and after the change, below 0 if it was sold short.
pub record LotChange : Type 0 where
  pub trade : ℕ
  pub stamp : ℕ
  pub price : ℕ
  pub before : ℤ
  pub after : ℤ

-- The change of a lot that the row `row` records, with the stamp and the price of the changing
-- trade; both are 0 if this trade does not exist, and the price is 0 if it has none.
abbrev pub recorded_lot_change : Tables → HoldingHistoryRow → LotChange
recorded_lot_change tables row = record {
  trade = row.trade;
  stamp = trade_stamp_or_zero tables row.trade;
  price = trade_price_or_zero tables row.trade;
  before = row.before;
  after = row.after;
}

-- True if `row` records a change, by another trade, of the lot that the trade `lot` opened.
abbrev pub is_change_of_lot_by_other_trade : ℕ → HoldingHistoryRow → Bool
is_change_of_lot_by_other_trade lot row = (row.lot == lot) && not (row.trade == lot)

-- The changes, by other trades, of the lot of the trade `lot`, sorted by their stamps, ascending.
abbrev pub changes_of_lot_by_other_trades : Tables → ℕ → List LotChange
changes_of_lot_by_other_trades tables lot =
    sort_by_key (λ c. c.stamp) (map (recorded_lot_change tables) (filter (is_change_of_lot_by_other_trade lot) tables.holding_history))

-- The realised gain, in cents, of the change `c` of a lot opened at `price` cents: its decrease of
-- the quantity, below 0 if it closes shares that were sold short, times its price less `price`.
abbrev pub realised_gain_of_change : ℕ → LotChange → ℤ
realised_gain_of_change price c = (c.before -ℤ c.after) *ℤ (pos c.price -ℤ pos price)

-- A lot that a completed trade opened: the trade, the quantity that it opened, below 0 if it sold
-- short, and the changes of the lot by other trades, the oldest first.
pub record LotDetails : Type 0 where
  pub trade : TradeRow
  pub opened : ℤ
  pub changes : List LotChange

-- The quantity of the lot that the trade `trade` opened, below 0 if it sold short; 0 without a lot.
abbrev pub quantity_opened_by_trade : Tables → ℕ → ℤ
quantity_opened_by_trade tables trade = option_map_or (λ row. row.after) (opened_lot_row tables trade) (pos 0)

-- The lot that the trade `u` opened: the trade, the opened quantity (0 if the trade opened no lot),
-- and the changes of the lot by other trades, sorted by the stamps of these trades, ascending.
abbrev pub lot_with_changes_by_others : Tables → TradeRow → LotDetails
lot_with_changes_by_others tables u = record { trade = u; opened = quantity_opened_by_trade tables u.id; changes = changes_of_lot_by_other_trades tables u.id }

-- The lots that completed trades of `account` in `symbol` opened, by completion stamp, ascending.
abbrev pub lots_opened_in_symbol : Tables → ℕ → Text → List LotDetails
lots_opened_in_symbol tables account symbol =
    map (lot_with_changes_by_others tables) (filter (λ u. is_some (opened_lot_row tables u.id)) (completed_trades_in_symbol tables account symbol))

-- The quantity of `lot` after the last of `lot.changes`, or as opened; below 0 if sold short.
abbrev pub remaining_quantity : LotDetails → ℤ
remaining_quantity lot = unwrap_or (last_or None (map (λ c. c.after) lot.changes)) lot.opened

-- The cost basis of `lot`, in cents: its signed remaining quantity times its opening price.
abbrev pub remaining_cost_of_lot : LotDetails → ℤ
remaining_cost_of_lot lot = remaining_quantity lot *ℤ pos (completion_price_or_zero lot.trade)

-- The sum of the realised gains of the changes of `lot`, in cents.
abbrev pub realised_gain_of_lot : LotDetails → ℤ
realised_gain_of_lot lot = total_by (realised_gain_of_change (completion_price_or_zero lot.trade)) lot.changes

-- The sum of the realised gains of `lots`, in cents.
abbrev pub realised_gain_of_lots : List LotDetails → ℤ
realised_gain_of_lots lots = total_by realised_gain_of_lot lots

-- The realised gain, in cents, of all lots that completed trades of `account` opened in `symbol`.
abbrev pub realised_gain_in_symbol : Tables → ℕ → Text → ℤ
realised_gain_in_symbol tables account symbol = realised_gain_of_lots (lots_opened_in_symbol tables account symbol)

-- The cost basis of the remaining shares of `lots`, in cents: the sum of `remaining_cost_of_lot`.
abbrev pub remaining_cost_of_lots : List LotDetails → ℤ
remaining_cost_of_lots lots = total_by remaining_cost_of_lot lots

-- The number of the changes of all `lots` by other trades than those that opened them.
abbrev pub count_of_lot_changes : List LotDetails → ℕ
count_of_lot_changes lots = length (flat_map (λ lot. lot.changes) lots)

-- The lots in the list `lots` whose remaining quantity is not 0.
abbrev pub lots_not_fully_closed : List LotDetails → List LotDetails
lots_not_fully_closed lots = filter (λ lot. not (is_zero (remaining_quantity lot))) lots

-- The sum of the values of the purchases among the trades `done`, in cents.
abbrev pub total_purchase_value : List TradeRow → ℤ
total_purchase_value done = total_by signed_value_of_trade (filter (λ u. int_lt (pos 0) (signed_value_of_trade u)) done)

-- The sum of the values of the sales among the trades `done`, in cents and negated: never above 0.
abbrev pub negated_total_sale_value : List TradeRow → ℤ
negated_total_sale_value done = total_by signed_value_of_trade (filter (λ u. int_lt (signed_value_of_trade u) (pos 0)) done)

-- The net shares of `account` in `symbol` by HOLDING_SUMMARY, below 0 if sold short; 0 if no row.
abbrev pub summary_quantity_in_symbol : Tables → ℕ → Text → ℤ
summary_quantity_in_symbol tables account symbol =
    option_map_or (λ row. row.qty) (find (λ row. (row.account == account) && bytes_eq row.symbol symbol) tables.summaries) (pos 0)
