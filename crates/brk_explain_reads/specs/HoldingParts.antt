-- The parts of the facts that the explanation of a holding reads.
use Rattle.std.specs.Prelude.{◌≡◌, ℕ, ◌==◌, not, Option, Some, None, filter, map, option_map}
use Rattle.brk_money.specs.Spelling.{Text}
use Rattle.brk_ref.specs.Rows.{abstract_trade_row}
use Rattle.brk_ref.specs.Rows as rows
use Rattle.brk_model.specs.Joins.{last_price_in_tables, trade_row_with_id}
use Rattle.brk_model.specs.Tables.{HoldingHistoryRow, Tables}
use Rattle.brk_model_explain.specs.Holdings.{LotDetails, completed_trades_in_symbol, recorded_lot_change, changes_of_lot_by_other_trades}
use Rattle.brk_model_explain.specs.Holdings.{lot_with_changes_by_others, lots_opened_in_symbol, summary_quantity_in_symbol}
use Rattle.brk_model_explain.specs.Trades.{opened_lot_row}
use Rattle.brk_explain_rows.specs.Details.{abstract_priced_lot_change, abstract_lot_details}
use Rattle.brk_explain_reads.specs.declared.holding_trades.TradesAndLots.{TradesAndLots}
use Rattle.brk_explain_reads.specs.declared.holding_trades.TradeAndLot.{TradeAndLot}
use Rattle.brk_explain_reads.specs.declared.holdings.QuantityAndPrice.{QuantityAndPrice}
use Rattle.brk_explain_reads.specs.declared.lot_changes.OpeningAndLaterChanges.{OpeningAndLaterChanges}

-- `all` has the change with which the lot was opened, or `None`, and exactly its changes by other
-- trades than the one that opened it, in the order of HOLDING_HISTORY in the tables `t`.
abbrev pub AreLotChangesByTradeId : Tables → ℕ → OpeningAndLaterChanges → Type 0
AreLotChangesByTradeId t lot all =
    (option_map rows.abstract_lot_change_row all.opening ≡ opened_lot_row t lot)
    × (map abstract_priced_lot_change all.changes_by_others.items
    ≡ map (recorded_lot_change t) (filter (λ h. not (h.trade == lot)) (filter (λ h. h.lot == lot) t.holding_history)))

-- `all` has the change with which the lot was opened, or `None`, and exactly its changes by other
-- trades than the one that opened it, sorted by the stamps of these trades, as in the tables `t`.
abbrev pub AreLotChangesByCompletion : Tables → ℕ → OpeningAndLaterChanges → Type 0
AreLotChangesByCompletion t lot all =
    (option_map rows.abstract_lot_change_row all.opening ≡ opened_lot_row t lot)
    × (map abstract_priced_lot_change all.changes_by_others.items ≡ changes_of_lot_by_other_trades t lot)

-- `lot` if the first argument is a row (of an opening in HOLDING_HISTORY), otherwise `None`.
abbrev pub lot_if_opened : Option HoldingHistoryRow → Option LotDetails → Option LotDetails
lot_if_opened None lot = None
lot_if_opened (Some row) lot = lot

-- The lot that the trade opened, with its changes by other trades, sorted by the stamps of these
-- trades, as the tables `t` record them, or `None` if the trade opened none or does not exist.
abbrev pub lot_opened_by_trade : Tables → ℕ → Option LotDetails
lot_opened_by_trade t trade = lot_if_opened (opened_lot_row t trade) (option_map (lot_with_changes_by_others t) (trade_row_with_id t trade))

-- `one` has the row of the trade with the id `trade`, which exists in the tables `t`, and the lot
-- that it opened with its changes by other trades (`lot_opened_by_trade`), or `None`.
abbrev pub IsTradeWithLot : Tables → ℕ → TradeAndLot → Type 0
IsTradeWithLot t trade one =
    (trade_row_with_id t trade ≡ Some (abstract_trade_row one.trade)) × (option_map abstract_lot_details one.lot ≡ lot_opened_by_trade t trade)

-- `held` has the completed trades of `account` in `symbol`, and the lots that they opened with
-- their changes by other trades, both sorted by completion stamp, as the tables `t` record them.
abbrev pub AreTradesAndLotsOfHolding : Tables → ℕ → Text → TradesAndLots → Type 0
AreTradesAndLotsOfHolding t account symbol held =
    (map abstract_trade_row held.done.items ≡ completed_trades_in_symbol t account symbol)
    × (map abstract_lot_details held.lots.items ≡ lots_opened_in_symbol t account symbol)

-- `held` has the account's holding of the security `symbol`, in shares, below 0 if sold short (0 if
-- there is no summary), and its last price in cents (0 if none), as the tables `t` record them.
abbrev pub AreQuantityAndPrice : Tables → ℕ → Text → QuantityAndPrice → Type 0
AreQuantityAndPrice t account symbol held = (held.shares ≡ summary_quantity_in_symbol t account symbol) × (held.price ≡ last_price_in_tables t symbol)
