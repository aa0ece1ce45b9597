-- The four lookup views, which have only their name from Trade-Lookup.
use Rattle.std.specs.Prelude.{ℕ, Bool, ◌&&◌, ◌==◌, nat_le, nat_lt, List, [], ◌∷◌, ◌++◌, map, filter, flat_map, take, codes, decimal}
use Rattle.std.specs.List.{list_any}
use Rattle.std.specs.Option.{option_map_or}
use Rattle.std.specs.Fmt.{signed_decimal}
use Rattle.brk_money.specs.Spelling.{Text, cents_text, day_text}
use Rattle.brk_money.specs.Kinds.{trade_type_code, trade_status_code}
use Rattle.brk_model.specs.Limits.{is_in_range}
use Rattle.brk_model.specs.Lists.{sort_by, is_pair_less}
use Rattle.brk_model.specs.Tables.{Tables, TradeRow, HoldingHistoryRow, SettlementRow, CashRow}
use Rattle.brk_model.specs.Rows.{nonnegative_cents_text, cash_or_margin_word, lifo_or_fifo_word}
use Rattle.brk_model.specs.Queries.{View}
use Rattle.brk_model.specs.Joins.{trade_row_with_id, trade_rows_of_account, history_rows_with_trade_id, trade_rows_oldest_first, is_id_of_trade}

-- The lookup record of a settlement: the word `settlement`, cash type, due day and amount.
abbrev pub settlement_record : SettlementRow → List Text
settlement_record s = codes "settlement" ∷ s.cash_type ∷ day_text s.due_day ∷ cents_text s.amount ∷ []

-- The lookup record of a cash row: the word `cash`, stamp, amount and name.
abbrev pub cash_record : CashRow → List Text
cash_record c = codes "cash" ∷ decimal c.stamp ∷ cents_text c.amount ∷ c.name ∷ []

-- The lookup record of a trade: `trade`, id, stamp, status code, type code, symbol, quantity, bid,
-- executor, price (empty if none), charge, commission, tax, `cash` or `margin`, `lifo` or `fifo`.
abbrev pub trade_record : TradeRow → List Text
trade_record t =
    codes "trade" ∷ decimal t.id ∷ decimal t.stamp ∷ trade_status_code t.status ∷ trade_type_code t.kind
    ∷ t.symbol ∷ decimal t.qty ∷ nonnegative_cents_text t.bid ∷ t.executor
    ∷ option_map_or nonnegative_cents_text t.price [] ∷ nonnegative_cents_text t.charge ∷ nonnegative_cents_text t.commission ∷ nonnegative_cents_text t.tax
    ∷ cash_or_margin_word t.is_cash ∷ lifo_or_fifo_word t.is_lifo ∷ []

-- True if the CASH_MOVE row belongs to the trade with the id `trade`.
abbrev pub is_cash_row_of_trade : ℕ → CashRow → Bool
is_cash_row_of_trade trade row = is_id_of_trade trade row.trade

-- The records of the TRADE row `t`: the trade, its SETTLEMENT rows, its CASH_MOVE rows, and, stably
-- sorted by stamp, ascending, its TRADE_HISTORY rows (`history`, stamp, status code).
abbrev pub trade_lookup_records : Tables → TradeRow → View
trade_lookup_records tables t =
    trade_record t
    ∷ map settlement_record (filter (λ s. s.trade == t.id) tables.settlements)
    ++ map cash_record (filter (is_cash_row_of_trade t.id) tables.moves)
    ++ map (λ h. codes "history" ∷ decimal h.stamp ∷ trade_status_code h.status
    ∷ []) (sort_by (λ a b. nat_lt a.stamp b.stamp) (history_rows_with_trade_id tables t.id))

-- The `trade_lookup_records` of the first 20 trades that pass `test`, by stamp, then id, ascending.
unfoldable pub trade_lookup_view : Tables → (TradeRow → Bool) → View
trade_lookup_view tables test = flat_map (trade_lookup_records tables) (take 20 (trade_rows_oldest_first (filter test tables.trades)))

-- True if the stamp of the TRADE row is between `first` and `last`, both included.
abbrev pub row_stamp_is_between : ℕ → ℕ → TradeRow → Bool
row_stamp_is_between first last t = is_in_range first last t.stamp

-- True if a HOLDING_HISTORY row has the trade `trade` and the lot `lot`: the trade touched the lot.
abbrev pub trade_touches_lot : Tables → ℕ → ℕ → Bool
trade_touches_lot tables trade lot = list_any (λ row. (row.trade == trade) && (row.lot == lot)) tables.holding_history

-- The stamp of the trade of a HOLDING_HISTORY row; 0 if this trade does not exist.
abbrev pub stamp_of_touching_trade : Tables → HoldingHistoryRow → ℕ
stamp_of_touching_trade tables row = option_map_or (λ t. t.stamp) (trade_row_with_id tables row.trade) 0

-- One record with the id of the trade, then one (lot, changing trade, quantity before, quantity
-- after) for each of the first 20 HOLDING_HISTORY rows of the lots that it touched, sorted by
-- `stamp_of_touching_trade`, then by lot, both ascending.
abbrev pub touched_lots_view : Tables → TradeRow → View
touched_lots_view tables t =
    (decimal t.id ∷ [])
    ∷ map (λ row. decimal row.lot ∷ decimal row.trade ∷ signed_decimal row.before ∷ signed_decimal row.after ∷ [])
    (take 20 (sort_by (λ a b. is_pair_less (stamp_of_touching_trade tables a) (stamp_of_touching_trade tables b) a.lot b.lot)
    (filter (λ row. trade_touches_lot tables t.id row.lot) tables.holding_history)))

-- The `touched_lots_view` of the oldest trade of the account `account` with a stamp (T_DTS) of at
-- least `first`, of several the one with the least id; empty if there is none.
unfoldable pub touched_lots_of_oldest_trade : Tables → ℕ → ℕ → View
touched_lots_of_oldest_trade tables account first =
    flat_map (touched_lots_view tables) (take 1 (trade_rows_oldest_first (filter (λ t. nat_le first t.stamp) (trade_rows_of_account tables account))))
