-- The records of trades that are looked up.
use Rattle.std.specs.Prelude.{◌≡◌, Bool, ◌==◌, nat_lt, List, [], ◌∷◌, ◌++◌, filter, map, codes, decimal, Option, option_map, option_to_list}
use Rattle.std.specs.Option.{option_map_or}
use Rattle.brk_ref.specs.Rows.{abstract_history_row, abstract_cash_row, abstract_settlement_row, abstract_trade_row}
use Rattle.brk_ref.specs.declared.history_row.HistoryRow.{HistoryRow}
use Rattle.brk_ref.specs.declared.cash_row.CashRow.{CashRow}
use Rattle.brk_ref.specs.declared.settlement_row.SettlementRow.{SettlementRow}
use Rattle.brk_ref.specs.declared.trade_row.TradeRow.{TradeRow}
use Rattle.brk_model.specs.Joins.{history_rows_with_trade_id}
use Rattle.brk_model.specs.Lists.{is_pair_less, sort_by}
use Rattle.brk_model.specs.LookupView as model
use Rattle.brk_model.specs.Queries.{View}
use Rattle.brk_model.specs.Rows.{cash_or_margin_word, lifo_or_fifo_word, nonnegative_cents_text}
use Rattle.brk_model.specs.Tables as tables
use Rattle.brk_model.specs.Tables.{Tables}
use Rattle.brk_money.specs.Kinds.{trade_status_code, trade_type_code}
use Rattle.brk_money.specs.Spelling.{Text}
use Rattle.brk_view_rows.specs.declared.lookups.LookedUp.{LookedUp}
use Rattle.brk_view_rows.specs.declared.lookups.StampedStatus.{StampedStatus}

-- True if the status `a` has a smaller stamp than the status `b`.
abbrev pub is_older_status : StampedStatus → StampedStatus → Bool
is_older_status a b = nat_lt a.stamp b.stamp

-- True if the trade `a` has a smaller stamp than the trade `b`, or an equal stamp and a smaller id.
abbrev pub is_older_trade : TradeRow → TradeRow → Bool
is_older_trade a b = is_pair_less a.stamp b.stamp a.id b.id

-- The stamp and the status of the typed TRADE_HISTORY row `r`.
abbrev pub stamped_status_of_typed_history_row : HistoryRow → StampedStatus
stamped_status_of_typed_history_row r = record { stamp = r.stamp; status = r.status }

-- The record of the status `m` of a trade: the word `history`, its stamp and its code.
abbrev pub history_status_record : StampedStatus → List Text
history_status_record m = codes "history" ∷ decimal m.stamp ∷ trade_status_code m.status ∷ []

-- The first five of fifteen fields of a looked-up trade: `trade`, id, stamp, status and type code.
abbrev pub first_five_trade_fields : tables.TradeRow → List Text
first_five_trade_fields t = codes "trade" ∷ decimal t.id ∷ decimal t.stamp ∷ trade_status_code t.status ∷ trade_type_code t.kind ∷ []

-- The fields 6 to 9 of the looked-up trade `t`: symbol, quantity, bid price and executor.
abbrev pub order_fields_of_trade : tables.TradeRow → List Text
order_fields_of_trade t = t.symbol ∷ decimal t.qty ∷ nonnegative_cents_text t.bid ∷ t.executor ∷ []

-- The fields 10 to 13 of the looked-up trade `t`: price, or empty, charge, commission and tax.
abbrev pub price_and_cost_fields : tables.TradeRow → List Text
price_and_cost_fields t =
    option_map_or nonnegative_cents_text t.price [] ∷ nonnegative_cents_text t.charge ∷ nonnegative_cents_text t.commission ∷ nonnegative_cents_text t.tax ∷ []

-- The last two of fifteen fields of a looked-up trade: `cash` or `margin`, and `lifo` or `fifo`.
abbrev pub cash_and_lifo_fields : tables.TradeRow → List Text
cash_and_lifo_fields t = cash_or_margin_word t.is_cash ∷ lifo_or_fifo_word t.is_lifo ∷ []

-- The records of the looked-up trade `l`: trade, settlement and cash row, if any, and its statuses.
abbrev pub records_of_looked_up_trade : LookedUp → View
records_of_looked_up_trade l =
    model.trade_record (abstract_trade_row l.trade)
    ∷ map model.settlement_record (option_to_list (option_map abstract_settlement_row l.settlement))
    ++ map model.cash_record (option_to_list (option_map abstract_cash_row l.cash))
    ++ map history_status_record l.history.items

-- The TRADE row of a trade, its SETTLEMENT and CASH_MOVE rows, and its statuses with their stamps.
pub record LookedUpRows : Type 0 where
  pub trade : tables.TradeRow
  pub settlements : List tables.SettlementRow
  pub moves : List tables.CashRow
  pub history : List StampedStatus

-- The looked-up trade `l` as rows of the model's tables, its statuses in their order in `l`. The
-- list of a settlement or a cash row that does not exist is empty.
abbrev pub rows_of_looked_up_trade : LookedUp → LookedUpRows
rows_of_looked_up_trade l = record {
  trade = abstract_trade_row l.trade;
  settlements = option_to_list (option_map abstract_settlement_row l.settlement);
  moves = option_to_list (option_map abstract_cash_row l.cash);
  history = l.history.items;
}

-- The stamp and the status of the TRADE_HISTORY row `r`.
abbrev pub stamped_status_of_history_row : tables.HistoryRow → StampedStatus
stamped_status_of_history_row r = record { stamp = r.stamp; status = r.status }

-- The TRADE row `row` with its settlements, its cash rows and its statuses in the tables `t`, in
-- the sequence of the tables. The statuses are sorted by stamp, ascending; the sort is stable.
abbrev pub table_rows_of_trade : Tables → tables.TradeRow → LookedUpRows
table_rows_of_trade t row = record {
  trade = row;
  settlements = filter (λ s. s.trade == row.id) t.settlements;
  moves = filter (model.is_cash_row_of_trade row.id) t.moves;
  history = map stamped_status_of_history_row (sort_by (λ a b. nat_lt a.stamp b.stamp) (history_rows_with_trade_id t row.id));
}

-- `settlement`, `cash` and `history` are exactly the SETTLEMENT, CASH_MOVE and TRADE_HISTORY rows
-- of `trade` in the tables `t`, `history` in table order. So there is at most one settlement and
-- one cash row; `None`: there is none.
pub record AreRowsOfTrade (t : Tables) (trade : TradeRow) (settlement : Option SettlementRow) (cash : Option CashRow) (history : List HistoryRow) : Type 0 where
  pub settlement_rows : option_to_list (option_map abstract_settlement_row settlement) ≡ filter (λ s. s.trade == trade.id) t.settlements
  pub cash_rows : option_to_list (option_map abstract_cash_row cash) ≡ filter (model.is_cash_row_of_trade trade.id) t.moves
  pub history_rows : map abstract_history_row history ≡ history_rows_with_trade_id t trade.id
