-- The two position views, which have only their name from Customer-Position: the accounts of a
-- customer, and the last trades of an account.
use Rattle.std.specs.Prelude.{ℕ, Bool, not, ◌&&◌, ◌||◌, ◌==◌, nat_lt, List, [], ◌∷◌, ◌++◌, map, filter, flat_map, take, ℤ, pos, ◌*ℤ◌, int_lt, codes, decimal}
use Rattle.std.specs.List.{list_any}
use Rattle.brk_money.specs.Spelling.{cents_text}
use Rattle.brk_money.specs.Kinds.{trade_status_name}
use Rattle.brk_model.specs.Records.{Customer}
use Rattle.brk_model.specs.Lists.{sort_by, is_pair_less, total_by}
use Rattle.brk_model.specs.Tables.{Tables, AccountRow, TradeRow}
use Rattle.brk_model.specs.Queries.{View}
use Rattle.brk_model.specs.Joins.{last_price_in_tables, trade_rows_of_account, history_rows_with_trade_id, trade_rows_recent_first}

-- The market value of the account `a`, in cents: the sum over its HOLDING_SUMMARY rows of quantity
-- times last price, which counts as 0 if the symbol has no LAST_TRADE row.
abbrev pub market_value_of_account_row : Tables → AccountRow → ℤ
market_value_of_account_row tables a =
    total_by (λ row. row.qty *ℤ pos (last_price_in_tables tables row.symbol)) (filter (λ row. row.account == a.id) tables.summaries)

-- True if account `a` has a smaller market value than `b`, or an equal one and a smaller id.
abbrev pub is_before_by_market_value : Tables → AccountRow → AccountRow → Bool
is_before_by_market_value tables a b =
    int_lt (market_value_of_account_row tables a) (market_value_of_account_row tables b)
    || (not (int_lt (market_value_of_account_row tables b) (market_value_of_account_row tables a)) && nat_lt a.id b.id)

-- One record (id, balance, market value) for each account of the customers that pass `test`, sorted
-- by market value, then by id, both ascending.
unfoldable pub customer_position_view : Tables → (Customer → Bool) → View
customer_position_view tables test =
    map (λ a. decimal a.id ∷ cents_text a.balance ∷ cents_text (market_value_of_account_row tables a) ∷ [])
    (sort_by (is_before_by_market_value tables) (filter (λ a. list_any (λ c. test c && (c.id == a.customer)) tables.customers) tables.accounts))

-- The 10 most recent TRADE rows of the account `account`, sorted by stamp, then id, descending.
abbrev pub last_ten_trade_rows : Tables → ℕ → List TradeRow
last_ten_trade_rows tables account = take 10 (trade_rows_recent_first (trade_rows_of_account tables account))

-- A record (`trade`, id, symbol, quantity) for each of `last_ten_trade_rows`, then one (`history`,
-- trade, status name, stamp) for each of their history rows, by stamp, then by id, descending.
unfoldable pub recent_trades_view : Tables → ℕ → View
recent_trades_view tables account =
    map (λ t. codes "trade" ∷ decimal t.id ∷ t.symbol ∷ decimal t.qty ∷ []) (last_ten_trade_rows tables account)
    ++ map (λ h. codes "history" ∷ decimal h.trade ∷ trade_status_name h.status ∷ decimal h.stamp ∷ [])
    (sort_by (λ a b. is_pair_less b.stamp a.stamp b.trade a.trade)
    (flat_map (λ t. history_rows_with_trade_id tables t.id) (last_ten_trade_rows tables account)))
