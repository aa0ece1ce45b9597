-- Sorting the tables by key changes neither the names of an account's customer and broker nor its
-- recent trades.
use Rattle.std.proofs.Common.{◌≡◌, ℕ, ◌==◌, [], ◌∷◌, ◌++◌, ap, map, filter, take}
use Rattle.std.specs.Prelude.{bytes_eq, decimal, flat_map}
use Rattle.std.specs.Option.{option_map_or}
use Rattle.std.proofs.lemmas.Bool.{eqb-true}
use Rattle.brk_money.specs.Kinds.{trade_status_name, trade_type_name}
use Rattle.brk_money.specs.Spelling.{Text}
use Rattle.brk_model.specs.Base.{Base}
use Rattle.brk_model.specs.Joins.{trade_rows_recent_first, security_row_with_symbol}
use Rattle.brk_model.specs.Keys.{account_key, customer_key, number, security_key, word}
use Rattle.brk_model.specs.Rows.{nonnegative_cents_text}
use Rattle.brk_model.specs.Sheets.{sheets, tables_sorted_by_key}
use Rattle.brk_model.specs.StatusView.{broker_name_with_id, customer_and_broker_names, record_of_trade_status, trade_status_view}
use Rattle.brk_model.specs.Tables.{AccountRow, BrokerRow, TradeRow, tables_of_base}
use Rattle.brk_trade_books.specs.Books.{BooksInvariant}
use Rattle.brk_trade_books.proofs.Bools.{same_text}
use Rattle.brk_trade_books.proofs.Reading.{find-id, find-key}
use Rattle.brk_view_theorems.proofs.OneRow.{rows_of_key}
use Rattle.brk_view_theorems.proofs.Trades.{same_trades}

same_accounts : (base : Base) (id : ℕ) → filter (λ a. a.id == id) (sheets base).accounts ≡ filter (λ a. a.id == id) (tables_of_base base).accounts
unfolding tables_sorted_by_key
same_accounts base id = rows_of_key account_key (λ a. a.id == id) (number id ∷ []) (tables_of_base base).accounts (λ a e. ap (λ n. number n ∷ []) (eqb-true a.id id e))

same_customers : (base : Base) (id : ℕ) → filter (λ c. c.id == id) (sheets base).customers ≡ filter (λ c. c.id == id) (tables_of_base base).customers
unfolding tables_sorted_by_key
same_customers base id = rows_of_key customer_key (λ c. c.id == id) (number id ∷ []) (tables_of_base base).customers (λ c e. ap (λ n. number n ∷ []) (eqb-true c.id id e))

same_broker : (base : Base) (id : ℕ) → broker_name_with_id (sheets base) id ≡ broker_name_with_id (tables_of_base base) id
unfolding tables_sorted_by_key
same_broker base id = ap (λ o. option_map_or (λ (row : BrokerRow). row.name) o []) (find-id (λ (row : BrokerRow). row.id) id (tables_of_base base).brokers)

pub same_security : (base : Base) (symbol : Text) → security_row_with_symbol (sheets base) symbol ≡ security_row_with_symbol (tables_of_base base) symbol
unfolding tables_sorted_by_key
same_security base symbol =
    find-key security_key (λ row. bytes_eq row.symbol symbol) (word symbol ∷ []) (tables_of_base base).securities (λ row e. ap (λ s. word s ∷ []) (same_text row.symbol symbol e))

same_head : (base : Base) (a : AccountRow) → customer_and_broker_names (sheets base) a ≡ customer_and_broker_names (tables_of_base base) a
same_head base a i = map (λ c. c.last_name ∷ c.first_name ∷ same_broker base a.broker i ∷ []) (same_customers base a.customer i)

same_record : (base : Base) (t : TradeRow) → record_of_trade_status (sheets base) t ≡ record_of_trade_status (tables_of_base base) t
same_record base t i =
    decimal t.id ∷ decimal t.stamp ∷ trade_status_name t.status ∷ trade_type_name t.kind ∷ t.symbol ∷ decimal t.qty ∷ t.executor ∷ nonnegative_cents_text t.charge
    ∷ option_map_or (λ s. s.name) (same_security base t.symbol i) [] ∷ option_map_or (λ s. s.exchange) (same_security base t.symbol i) [] ∷ []

pub same_status_view : (base : Base) (account : ℕ) → BooksInvariant base → trade_status_view (sheets base) account ≡ trade_status_view (tables_of_base base) account
unfolding trade_status_view
same_status_view base account books i =
    flat_map (λ a. same_head base a i) (same_accounts base account i)
    ++ map (λ t. same_record base t i) (take 50 (trade_rows_recent_first (filter (λ (r : TradeRow). r.account == account) (same_trades base books i))))
