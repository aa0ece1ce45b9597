-- The effect of orders, cancels and feeds on the tables.
use Rattle.std.specs.Prelude.{ℕ, ◌+◌, Bool, ◌&&◌, if◌then◌else◌, List, [], ◌∷◌, ◌++◌, map, filter, find, fold, bytes_eq}
use Rattle.std.specs.Option.{option_map_or}
use Rattle.brk_money.specs.declared.status.Status.{Status}
use Rattle.brk_money.specs.declared.status.Status.TheVariants.{Submitted, Canceled}
use Rattle.brk_model.specs.Tables.{Tables, HistoryRow, LastTradeRow, RequestRow, TradeRow}
use Rattle.brk_model.specs.Commands.{Tick}
use Rattle.brk_model.specs.Feed.{is_triggering_price}
use Rattle.brk_trade_rows.specs.Changes.{tables_with_trade, tables_with_history_row, tables_with_request, tables_without_request}
use Rattle.brk_trade_rows.specs.Changes.{tables_with_last_trade_replaced, tables_with_trade_status}

-- The row of TRADE_HISTORY with the status `status` of the trade `trade` at the stamp `stamp`.
abbrev pub history_row_of_status : ℕ → Status → ℕ → HistoryRow
history_row_of_status trade status stamp = record { trade = trade; status = status; stamp = stamp }

-- ---- an order

-- The row of TRADE_REQUEST of the pending trade `r`, with the broker `broker` of its account.
abbrev pub request_row_of_pending_trade : TradeRow → ℕ → RequestRow
request_row_of_pending_trade r broker = record { trade = r.id; kind = r.kind; symbol = r.symbol; qty = r.qty; bid = r.bid; broker = broker }

-- The tables with the row `r` of TRADE_REQUEST added if `waits` is true, otherwise unchanged.
abbrev pub tables_with_request_if_pending : (waits : Bool) → RequestRow → Tables → Tables
tables_with_request_if_pending waits r t = if waits then tables_with_request r t else t

-- The tables with the row `r` of TRADE and its first status in TRADE_HISTORY added. If the trade is
-- pending (`waits`), its row of TRADE_REQUEST with the broker `broker` is added too.
abbrev pub tables_after_order : TradeRow → (waits : Bool) → (broker : ℕ) → Tables → Tables
tables_after_order r waits broker t =
    tables_with_request_if_pending waits (request_row_of_pending_trade r broker)
    (tables_with_history_row (history_row_of_status r.id r.status r.stamp) (tables_with_trade r t))

-- ---- a trade that is no longer pending

-- The tables with status and stamp of the trade `id` set, a row of TRADE_HISTORY added for them,
-- even if there is no such trade, and the trade's row of TRADE_REQUEST, if any, deleted.
abbrev pub tables_after_change_from_pending : ℕ → Status → ℕ → Tables → Tables
tables_after_change_from_pending id status stamp t =
    tables_without_request id (tables_with_history_row (history_row_of_status id status stamp) (tables_with_trade_status id status stamp t))

-- The tables with the trade `id` canceled at the stamp `stamp`
-- (`tables_after_change_from_pending`).
abbrev pub tables_after_cancel : ℕ → ℕ → Tables → Tables
tables_after_cancel stamp id t = tables_after_change_from_pending id Canceled stamp t

-- ---- a feed

-- The row `l` of LAST_TRADE with a tick's price, the stamp `stamp`, and the tick's quantity added.
abbrev pub last_trade_row_after_tick : ℕ → Tick → LastTradeRow → LastTradeRow
last_trade_row_after_tick stamp tick l = record l { stamp = stamp; price = tick.price; volume = l.volume + tick.qty }

-- The tables with the row of LAST_TRADE of the tick's symbol, if any, updated at the stamp `stamp`.
abbrev pub tables_with_last_trade_after_tick : ℕ → Tick → Tables → Tables
tables_with_last_trade_after_tick stamp tick t =
    option_map_or (λ l. tables_with_last_trade_replaced (last_trade_row_after_tick stamp tick l) t) (find (λ l. bytes_eq l.symbol tick.symbol) t.last_trades) t

-- True if the request `r` has the symbol of the tick, and the tick's price triggers it.
abbrev pub is_triggered_request : Tick → RequestRow → Bool
is_triggered_request tick r = bytes_eq r.symbol tick.symbol && is_triggering_price r.kind r.bid tick.price

-- The ids of the trades whose requests the tick triggers, in the order of the requests.
abbrev pub trade_ids_triggered_by_tick : Tick → Tables → List ℕ
trade_ids_triggered_by_tick tick t = map (λ r. r.trade) (filter (is_triggered_request tick) t.requests)

-- The tables with the trades `trades` submitted at `stamp` (`tables_after_change_from_pending`).
abbrev pub tables_with_trades_submitted : ℕ → List ℕ → Tables → Tables
tables_with_trades_submitted stamp trades t = fold (λ t id. tables_after_change_from_pending id Submitted stamp t) t trades

-- The tables after the tick at the stamp `stamp`: the row of LAST_TRADE of its symbol, if there is
-- one, is updated, and the trades whose requests the tick triggers are submitted.
abbrev pub tables_after_tick : ℕ → Tick → Tables → Tables
tables_after_tick stamp tick t = tables_with_trades_submitted stamp (trade_ids_triggered_by_tick tick t) (tables_with_last_trade_after_tick stamp tick t)

-- The tables after the ticks `ticks` of a feed, executed one after the other at the stamp `stamp`.
abbrev pub tables_after_feed : ℕ → List Tick → Tables → Tables
tables_after_feed stamp ticks t = fold (λ t tick. tables_after_tick stamp tick t) t ticks

-- The ids of the trades that the ticks trigger at `stamp`, each over the tables after earlier ones.
abbrev pub trade_ids_triggered_by_feed : ℕ → List Tick → Tables → List ℕ
trade_ids_triggered_by_feed stamp [] t = []
trade_ids_triggered_by_feed stamp (tick ∷ ticks) t =
    trade_ids_triggered_by_tick tick t ++ trade_ids_triggered_by_feed stamp ticks (tables_after_tick stamp tick t)
