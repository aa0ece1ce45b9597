-- The status view of an account, which has only its name from Trade-Status, and the view of
-- submitted trades.
use Rattle.std.specs.Prelude.{ℕ, ◌==◌, nat_lt, List, [], ◌∷◌, ◌++◌, map, filter, flat_map, find, take, decimal}
use Rattle.std.specs.Option.{option_map_or}
use Rattle.brk_money.specs.Spelling.{Text}
use Rattle.brk_money.specs.Kinds.{trade_type_code, trade_type_name, trade_status_name, is_same_trade_status}
use Rattle.brk_money.specs.declared.status.Status.TheVariants.{Submitted}
use Rattle.brk_model.specs.Lists.{sort_by}
use Rattle.brk_model.specs.Tables.{Tables, AccountRow, TradeRow}
use Rattle.brk_model.specs.Rows.{nonnegative_cents_text}
use Rattle.brk_model.specs.Queries.{View}
use Rattle.brk_model.specs.Joins.{security_row_with_symbol, trade_rows_of_account, trade_rows_recent_first}

-- The name of the first BROKER row with the id `id`; empty if there is no such row.
abbrev pub broker_name_with_id : Tables → ℕ → Text
broker_name_with_id tables id = option_map_or (λ row. row.name) (find (λ row. row.id == id) tables.brokers) []

-- One record for each CUSTOMER row with the id of the customer of the account `a`: last name, first
-- name, and the name of the account's broker, which is empty if the broker does not exist.
abbrev pub customer_and_broker_names : Tables → AccountRow → View
customer_and_broker_names tables a =
    map (λ c. c.last_name ∷ c.first_name ∷ broker_name_with_id tables a.broker ∷ []) (filter (λ c. c.id == a.customer) tables.customers)

-- The record of a trade in the view `status`: id, stamp, status name, type name, symbol, quantity,
-- executor, charge, and the name and the exchange of its security, empty if it does not exist.
abbrev pub record_of_trade_status : Tables → TradeRow → List Text
record_of_trade_status tables t =
    decimal t.id ∷ decimal t.stamp ∷ trade_status_name t.status ∷ trade_type_name t.kind ∷ t.symbol ∷ decimal t.qty ∷ t.executor
    ∷ nonnegative_cents_text t.charge
    ∷ option_map_or (λ s. s.name) (security_row_with_symbol tables t.symbol) [] ∷ option_map_or (λ s. s.exchange) (security_row_with_symbol tables t.symbol) []
    ∷ []

-- One record with the names of the customer and the broker of the account, if it and its customer
-- exist, then one for each of its 50 most recent trades, by stamp, then by id, both descending.
unfoldable pub trade_status_view : Tables → ℕ → View
trade_status_view tables account =
    flat_map (customer_and_broker_names tables) (filter (λ a. a.id == account) tables.accounts)
    ++ map (record_of_trade_status tables) (take 50 (trade_rows_recent_first (trade_rows_of_account tables account)))

-- One record (id, type code, symbol, quantity, bid) for each submitted trade, by id, ascending.
unfoldable pub submitted_trades_view : Tables → View
submitted_trades_view tables =
    map (λ t. decimal t.id ∷ trade_type_code t.kind ∷ t.symbol ∷ decimal t.qty ∷ nonnegative_cents_text t.bid ∷ [])
    (sort_by (λ a b. nat_lt a.id b.id) (filter (λ t. is_same_trade_status t.status Submitted) tables.trades))
