-- The tables after a broker, a customer or an account is added.
use Rattle.std.proofs.Common.{◌≡◌, ℕ, ◌==◌, Bool, true, false, List, [], ◌∷◌, ◌++◌, refl, ◌∙◌, ap, subst, map, filter, length, pos, ◌+ℤ◌, Option, Some, None}
use Rattle.std.specs.Prelude.{flat_map, is_some, sum_by, bytes_eq}
use Rattle.std.specs.Option.{option_map_or}
use Rattle.std.specs.List.{AllByRecursion}
use Rattle.std.proofs.lemmas.Bool.{eqb-true, eqb-false, eq-eqb}
use lib.IntN.{+ℤ_idr}
use Rattle.brk_money.specs.Spelling.{Text}
use Rattle.brk_money.specs.declared.status.Status.TheVariants.{Pending}
use Rattle.brk_model.specs.Lists.{total_by}
use Rattle.brk_model.specs.Records.{Broker, Customer, Account, Trade}
use Rattle.brk_model.specs.Base.{Base, account_with_id_in_list, account_with_id, broker_with_id, broker_id_in_accounts, completed_trades, is_completed, has_last_status, last_status_stamp_of_trade}
use Rattle.brk_model.specs.Derived.{trades_of_account, trades_of_position, trades_of_broker, shares_of_position, holding_summary_quantity, settlement_amount}
use Rattle.brk_model.specs.Derived.{due_day, posting_of_trade, posting_of_movement, postings, postings_to_account, postings_sorted_by_stamp, balance_of_account}
use Rattle.brk_model.specs.Derived.{trade_count_of_broker, commission_total_of_broker, cash_trades, pending_trades}
use Rattle.brk_model.specs.Tables.{BrokerRow, AccountRow, tables_of_base_in_schema, broker_row, account_row, request_row, summary_rows, settlement_row, numbered_cash_move_rows}
use Rattle.brk_model.specs.Keys.{KeyPart, number, rows_sorted_by_key, insert_row_by_key, broker_key, customer_key, account_key, request_key, summary_key, settlement_key, cash_move_key}
use Rattle.brk_model.specs.Sheets.{sheets, tables_sorted_by_key}
use Rattle.brk_model.specs.Commands.{AddBroker, AddCustomer, AddAccount}
use Rattle.brk_model.specs.Step.{base_after_command_unstamped, base_after_accepted_command}
use Rattle.brk_trade_rows.specs.Changes.{tables_with_broker, tables_with_customer, tables_with_account, tables_with_last_stamp}
use Rattle.brk_model.specs.Names.{AccountOfTradeExists, BrokerOfAccountExists}
use Rattle.brk_trade_books.specs.Books.{BooksInvariant}
use Rattle.brk_trade_books.proofs.Order.{NewKey, by_key-append}
use Rattle.brk_trade_books.proofs.Same.{NonePass, All-append, All-map, All-of, All-mapped, All-filter, map-same, map-last, filter-same, filter-none}
use Rattle.brk_trade_books.proofs.Same.{flat_map-append, flat_map-empty, find-more, find-new, find-none, find-each, find-All}

-- ---- rows whose key is new

-- a map of rows with one more
pub row_last : {X Row : Type 0} (key : Row → List KeyPart) (row : X → Row) (xs : List X) (x : X) → NewKey key (row x) (map row xs)
    → rows_sorted_by_key key (map row (xs ++ x ∷ [])) ≡ insert_row_by_key key (row x) (rows_sorted_by_key key (map row xs))
row_last key row xs x h = ap (rows_sorted_by_key key) (map-last row xs x) ∙ by_key-append key (map row xs) (row x) h

pub new_number : {X : Type 0} (id : X → ℕ) (y : X) (xs : List X) → NonePass (λ x. id x == id y) xs → NewKey (λ r. number (id r) ∷ []) y xs
new_number id y xs h = All-map xs (λ x k e. eqb-false (id x) (id y) k (number_of_key (id x) (id y) e)) h
  where
    number_of_key : (m n : ℕ) → number m ∷ [] ≡ number n ∷ [] → m ≡ n
    number_of_key m n e = cc

-- what is found is not what is not found
other_id : {X : Type 0} (found : ℕ → Option X) (id other : ℕ) → is_some (found id) ≡ false → is_some (found other) ≡ true → (other == id) ≡ false
other_id found id other h k = by_test (other == id) refl
  where
    by_test : (b : Bool) → (other == id) ≡ b → (other == id) ≡ false
    by_test false e = e
    by_test true e = let i : other ≡ id = eqb-true other id e in let j : is_some (found id) ≡ true = subst (λ n. is_some (found n) ≡ true) i k in absurd (cc)

-- ---- a customer

pub customer_rows : (base : Base) (stamp : ℕ) (c : Customer) → NonePass (λ d. d.id == c.id) base.customers
    → sheets (base_after_accepted_command base stamp (AddCustomer c)) ≡ tables_with_last_stamp stamp (tables_with_customer c (sheets base))
unfolding tables_of_base_in_schema tables_sorted_by_key base_after_command_unstamped shares_of_position holding_summary_quantity balance_of_account trade_count_of_broker commission_total_of_broker
customer_rows base stamp c h =
    ap (λ rows. record (tables_with_last_stamp stamp (sheets base)) { customers = rows }) (by_key-append customer_key base.customers c (new_number (λ d. d.id) c base.customers h))

-- ---- a broker: no account is the broker's yet

pub broker_found : (base : Base) (id : ℕ) (o : Option Account) → account_with_id base id ≡ o → is_some o ≡ true → AllByRecursion (BrokerOfAccountExists base) base.accounts
    → is_some (broker_with_id base (option_map_or (λ a. a.broker) o 0)) ≡ true
broker_found base id None e h known = absurd (cc)
broker_found base id (Some a) e h known = find-All (BrokerOfAccountExists base) (λ a. a.id == id) base.accounts a known e

pub known_completed : (base : Base) → BooksInvariant base → AllByRecursion (AccountOfTradeExists base) (completed_trades base)
known_completed base books = All-filter (AccountOfTradeExists base) is_completed base.trades books.accounts

pub no_broker_trades : (base : Base) (id : ℕ) → BooksInvariant base → is_some (broker_with_id base id) ≡ false → trades_of_broker base.accounts (completed_trades base) id ≡ []
no_broker_trades base id books h =
    filter-none (λ t. broker_id_in_accounts base.accounts t.account == id) (completed_trades base)
    (All-map (completed_trades base)
    (λ t k. other_id (broker_with_id base) id (broker_id_in_accounts base.accounts t.account) h (broker_found base t.account (account_with_id base t.account) refl k books.brokers))
    (known_completed base books))

-- the row of a new broker
first_broker_row : Broker → BrokerRow
first_broker_row b = record { id = b.id; name = b.name; trades = pos 0; commissions = 0 }

pub broker_rows : (base : Base) (stamp : ℕ) (b : Broker) → BooksInvariant base → is_some (broker_with_id base b.id) ≡ false
    → sheets (base_after_accepted_command base stamp (AddBroker b)) ≡ tables_with_last_stamp stamp (tables_with_broker b (sheets base))
unfolding tables_of_base_in_schema tables_sorted_by_key base_after_command_unstamped shares_of_position holding_summary_quantity balance_of_account
    trade_count_of_broker commission_total_of_broker first_broker_row
broker_rows base stamp b books h =
    let done : List Trade = completed_trades base in
    let none : trades_of_broker base.accounts done b.id ≡ [] = no_broker_trades base b.id books h in
    let row : broker_row base.accounts done b ≡ first_broker_row b =
    λ i. record { id = b.id; name = b.name; trades = pos (length (none i)); commissions = sum_by (λ t. t.commission) (none i) } in
    let new : NonePass (λ x. x.id == b.id) base.brokers = find-none (λ x. x.id == b.id) base.brokers h in
    let rows = row_last broker_key (broker_row base.accounts done) base.brokers b
    (All-mapped _ (broker_row base.accounts done) base.brokers (new_number (λ x. x.id) b base.brokers new)) in
    λ i. record (tables_with_last_stamp stamp (sheets base)) {
      brokers = (rows ∙ ap (λ r. insert_row_by_key broker_key r (rows_sorted_by_key broker_key (map (broker_row base.accounts done) base.brokers))) row) i;
    }

-- ---- an account: no trade is of it yet, and the other accounts are found as before

abbrev pub more : Base → Account → List Account
more base a = base.accounts ++ a ∷ []

pub as_before : (base : Base) (a : Account) (id : ℕ) → is_some (account_with_id base id) ≡ true → account_with_id_in_list (more base a) id ≡ account_with_id base id
as_before base a id h = find-more (λ b. b.id == id) base.accounts (a ∷ []) h

pub no_trades_of : (base : Base) (id : ℕ) → BooksInvariant base → is_some (account_with_id base id) ≡ false → trades_of_account (completed_trades base) id ≡ []
no_trades_of base id books h =
    filter-none (λ t. t.account == id) (completed_trades base)
    (All-map (completed_trades base) (λ t k. other_id (account_with_id base) id t.account h k) (known_completed base books))

-- an account that no completed trade of a symbol is of has no summary
pub no_summary : (done : List Trade) (account : ℕ) (symbol : Text) → trades_of_position done account symbol ≡ [] → summary_rows done account symbol ≡ []
unfolding holding_summary_quantity total_by
no_summary done account symbol e = rw e refl

pub append_nil : {X : Type 0} (xs : List X) → xs ++ [] ≡ xs
append_nil [] = refl
append_nil (x ∷ xs) = ap (λ ys. x ∷ ys) (append_nil xs)

pub amount_as_before : (base : Base) (a : Account) (t : Trade) → AccountOfTradeExists base t → settlement_amount (more base a) t ≡ settlement_amount base.accounts t
amount_as_before base a t k = rw (as_before base a t.account k) refl

-- what is posted stays
pub postings_as_before : (base : Base) (a : Account) → BooksInvariant base
    → postings (more base a) (completed_trades base) base.movements ≡ postings base.accounts (completed_trades base) base.movements
postings_as_before base a books =
    ap (λ ps. ps ++ map posting_of_movement base.movements)
    (map-same (posting_of_trade (more base a)) (posting_of_trade base.accounts) (cash_trades (completed_trades base)) (All-map (cash_trades (completed_trades base))
    (λ t k. λ i. record { account = t.account; trade = Some t.id; stamp = last_status_stamp_of_trade t; amount = amount_as_before base a t k i; name = t.cash_name })
    (All-filter (AccountOfTradeExists base) (λ t. t.is_cash) (completed_trades base) (known_completed base books))))

pub balance_as_before : (base : Base) (a : Account) (id : ℕ) → BooksInvariant base → is_some (account_with_id base id) ≡ true
    → balance_of_account (more base a) (postings (more base a) (completed_trades base) base.movements) id
    ≡ balance_of_account base.accounts (postings base.accounts (completed_trades base) base.movements) id
unfolding balance_of_account
balance_as_before base a id books h =
    λ i. option_map_or (λ a. a.opening) (as_before base a id h i) (pos 0) +ℤ total_by (λ p. p.amount) (postings_to_account (postings_as_before base a books i) id)

-- nothing is posted to an account that is not there
pub nothing_posted : (base : Base) (id : ℕ) → BooksInvariant base → is_some (account_with_id base id) ≡ false
    → postings_to_account (postings base.accounts (completed_trades base) base.movements) id ≡ []
nothing_posted base id books h =
    filter-none (λ p. p.account == id) (postings base.accounts (completed_trades base) base.movements)
    (All-append (λ p. (p.account == id) ≡ false) (map (posting_of_trade base.accounts) (cash_trades (completed_trades base))) (map posting_of_movement base.movements)
    (All-mapped (λ p. (p.account == id) ≡ false) (posting_of_trade base.accounts) (cash_trades (completed_trades base))
    (All-map (cash_trades (completed_trades base)) (λ t k. other_id (account_with_id base) id t.account h k)
    (All-filter (AccountOfTradeExists base) (λ t. t.is_cash) (completed_trades base) (known_completed base books))))
    (All-mapped (λ p. (p.account == id) ≡ false) posting_of_movement base.movements
    (All-map base.movements (λ m k. other_id (account_with_id base) id m.account h k) books.movements.holders)))

pub new_balance : (base : Base) (a : Account) → BooksInvariant base → is_some (account_with_id base a.id) ≡ false
    → balance_of_account (more base a) (postings (more base a) (completed_trades base) base.movements) a.id ≡ a.opening
unfolding balance_of_account total_by
new_balance base a books h =
    let found : account_with_id_in_list (more base a) a.id ≡ Some a = find-new (λ b. b.id == a.id) base.accounts a h (eq-eqb a.id a.id refl) in
    let none : postings_to_account (postings (more base a) (completed_trades base) base.movements) a.id ≡ [] =
    ap (λ ps. postings_to_account ps a.id) (postings_as_before base a books) ∙ nothing_posted base a.id books h in
    (λ i. option_map_or (λ a. a.opening) (found i) (pos 0) +ℤ total_by (λ p. p.amount) (none i)) ∙ +ℤ_idr a.opening

-- the row of a new account
first_account_row : Account → AccountRow
first_account_row a = record { id = a.id; customer = a.customer; broker = a.broker; name = a.name; tax_status = a.tax_status; opening = a.opening; balance = a.opening }

pub account_rows : (base : Base) (stamp : ℕ) (a : Account) → BooksInvariant base → is_some (account_with_id base a.id) ≡ false
    → sheets (base_after_accepted_command base stamp (AddAccount a)) ≡ tables_with_last_stamp stamp (tables_with_account a (sheets base))
unfolding tables_of_base_in_schema tables_sorted_by_key base_after_command_unstamped shares_of_position holding_summary_quantity balance_of_account
    trade_count_of_broker commission_total_of_broker first_account_row
account_rows base stamp a books h =
    let done : List Trade = completed_trades base in
    let after : List Account = more base a in
    let posted = postings base.accounts done base.movements in
    let posted_then = postings after done base.movements in
    let known : AllByRecursion (AccountOfTradeExists base) done = known_completed base books in
    let new : NonePass (λ x. x.id == a.id) base.accounts = find-none (λ x. x.id == a.id) base.accounts h in
    -- a broker's trades are the same
    let trades : (id : ℕ) → trades_of_broker after done id ≡ trades_of_broker base.accounts done id = λ id.
    filter-same (λ t. broker_id_in_accounts after t.account == id) (λ t. broker_id_in_accounts base.accounts t.account == id) done
    (All-map done (λ t k. ap (λ o. option_map_or (λ a. a.broker) o 0 == id) (as_before base a t.account k)) known) in
    let brokers = map-same (broker_row after done) (broker_row base.accounts done) base.brokers (All-of base.brokers (λ b.
    λ i. record { id = b.id; name = b.name; trades = pos (length (trades b.id i)); commissions = sum_by (λ t. t.commission) (trades b.id i) })) in
    -- the accounts' rows
    let old = map-same (account_row after posted_then) (account_row base.accounts posted) base.accounts (All-map base.accounts
    (λ b k. λ i. record { id = b.id; customer = b.customer; broker = b.broker; name = b.name; tax_status = b.tax_status; opening = b.opening; balance = balance_as_before base a b.id books k i })
    (find-each (λ b c. c.id == b.id) base.accounts (λ b. eq-eqb b.id b.id refl))) in
    let last : account_row after posted_then a ≡ first_account_row a =
    λ i. record { id = a.id; customer = a.customer; broker = a.broker; name = a.name; tax_status = a.tax_status; opening = a.opening; balance = new_balance base a books h i } in
    let rows = row_last account_key (account_row after posted_then) base.accounts a (All-mapped _ (account_row after posted_then) base.accounts (new_number (λ x. x.id) a base.accounts new)) in
    let accounts : rows_sorted_by_key account_key (map (account_row after posted_then) (base.accounts ++ a ∷ []))
    ≡ insert_row_by_key account_key (first_account_row a) (rows_sorted_by_key account_key (map (account_row base.accounts posted) base.accounts)) =
    rows ∙ (λ i. insert_row_by_key account_key (last i) (rows_sorted_by_key account_key (old i))) in
    -- requests and settlements
    let requests = map-same (request_row after) (request_row base.accounts) (pending_trades base.trades) (All-map (pending_trades base.trades)
    (λ t k. λ i. record { trade = t.id; kind = t.kind; symbol = t.symbol; qty = t.qty; bid = t.bid; broker = option_map_or (λ a. a.broker) (as_before base a t.account k i) 0 })
    (All-filter (AccountOfTradeExists base) (has_last_status Pending) base.trades books.accounts)) in
    let settlements = map-same (settlement_row after base.rule) (settlement_row base.accounts base.rule) done (All-map done
    (λ t k. λ i. record { trade = t.id; cash_type = t.cash_type; due_day = due_day base.rule t; amount = amount_as_before base a t k i }) known) in
    -- no summary of the new account
    let sums : flat_map (λ b. flat_map (λ s. summary_rows done b.id s.symbol) base.securities) (base.accounts ++ a ∷ [])
    ≡ flat_map (λ b. flat_map (λ s. summary_rows done b.id s.symbol) base.securities) base.accounts =
    flat_map-append (λ b. flat_map (λ s. summary_rows done b.id s.symbol) base.securities) base.accounts (a ∷ [])
    ∙ ap (λ rest. flat_map (λ b. flat_map (λ s. summary_rows done b.id s.symbol) base.securities) base.accounts ++ (rest ++ []))
    (flat_map-empty (λ s. summary_rows done a.id s.symbol) base.securities (All-of base.securities (λ s.
    no_summary done a.id s.symbol (ap (λ ts. filter (λ t. bytes_eq t.symbol s.symbol) ts) (no_trades_of base a.id books h)))))
    ∙ append_nil (flat_map (λ b. flat_map (λ s. summary_rows done b.id s.symbol) base.securities) base.accounts) in
    λ i. record (tables_with_last_stamp stamp (sheets base)) {
      brokers = rows_sorted_by_key broker_key (brokers i);
      accounts = accounts i;
      requests = rows_sorted_by_key request_key (requests i);
      summaries = rows_sorted_by_key summary_key (sums i);
      settlements = rows_sorted_by_key settlement_key (settlements i);
      moves = rows_sorted_by_key cash_move_key (numbered_cash_move_rows 1 (postings_sorted_by_stamp (postings_as_before base a books i)));
    }
