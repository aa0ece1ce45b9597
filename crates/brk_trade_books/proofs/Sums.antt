-- Brokers, accounts, settlements and cash after a result.
use Rattle.std.proofs.Common.{◌≡◌, ◌<◌, ℕ, ◌+◌, ◌==◌, Bool, true, false, cond, List, [], ◌∷◌, ◌++◌, refl, sym, ◌∙◌, ap, subst, map, filter, length, ℤ, pos, ◌+ℤ◌}
use Rattle.std.specs.Prelude.{sum_by}
use Rattle.std.specs.List.{AllByRecursion}
use Rattle.std.proofs.lemmas.Bool.{eqb-false, eqb-true}
use Rattle.brk_model.specs.Lists.{total_by}
use Rattle.brk_model.specs.Records.{Account, Broker, Movement, SettleRule, Trade}
use Rattle.brk_model.specs.Base.{broker_id_in_accounts, last_status_stamp_of_trade, opening_balance_in_accounts}
use Rattle.brk_model.specs.Derived.{Posting, balance_of_account, cash_trades, commission_total_of_broker, postings_sorted_by_stamp, trades_of_broker}
use Rattle.brk_model.specs.Derived.{postings_to_account, posting_of_movement, posting_of_trade, postings, trade_count_of_broker}
use Rattle.brk_model.specs.Keys.{KeyPart, number, account_key, broker_key, rows_sorted_by_key, insert_row_by_key, cash_move_key, settlement_key}
use Rattle.brk_model.specs.Tables.{AccountRow, BrokerRow, account_row, broker_row, cash_move_row, numbered_cash_move_rows, settlement_row}
use Rattle.brk_trade_books.proofs.Bools.{numbers_back}
use Rattle.brk_trade_books.proofs.Order.{by_key-map, by_key-middle}
use Rattle.brk_trade_books.proofs.Same.{NonePass, All-append, All-filter, All-map, All-mapped, map-same}
use Rattle.brk_trade_books.proofs.Postings.{postings_both, postings_none, postings_one, rows_last}
use Rattle.brk_trade_books.proofs.Places.{filter-append, filter-not_one, map-append}

map-twice : {X Y Z : Type 0} (f : Y → Z) (g : X → Y) (xs : List X) → map f (map g xs) ≡ map (λ x. f (g x)) xs
map-twice f g [] = refl
map-twice f g (x ∷ xs) = ap (λ zs. f (g x) ∷ zs) (map-twice f g xs)

-- ---- brokers

-- a broker's row with other numbers
abbrev pub with_numbers : ℕ → ℤ → ℕ → BrokerRow → BrokerRow
with_numbers broker trades commissions r = cond (r.id == broker) (record r { trades = trades; commissions = commissions }) r

pub other_broker : (accounts : List Account) (xs : List Trade) (t : Trade) (ys : List Trade) (id : ℕ) → (id == broker_id_in_accounts accounts t.account) ≡ false
    → trades_of_broker accounts (xs ++ t ∷ ys) id ≡ trades_of_broker accounts (xs ++ ys) id
other_broker accounts xs t ys id e =
    filter-not_one (λ u. broker_id_in_accounts accounts u.account == id) xs t ys (numbers_back (broker_id_in_accounts accounts t.account) id ∙ e)
    ∙ sym (filter-append (λ u. broker_id_in_accounts accounts u.account == id) xs ys)

broker_after : (accounts : List Account) (xs : List Trade) (t : Trade) (ys : List Trade) (b : Broker)
    → broker_row accounts (xs ++ t ∷ ys) b
    ≡ with_numbers (broker_id_in_accounts accounts t.account) (pos (trade_count_of_broker accounts (xs ++ t ∷ ys) (broker_id_in_accounts accounts t.account)))
    (commission_total_of_broker accounts (xs ++ t ∷ ys) (broker_id_in_accounts accounts t.account))
    (broker_row accounts (xs ++ ys) b)
unfolding trade_count_of_broker commission_total_of_broker
broker_after accounts xs t ys b = by_test (b.id == id) refl
  where
    id : ℕ
    id = broker_id_in_accounts accounts t.account

    old : BrokerRow
    old = broker_row accounts (xs ++ ys) b

    new : BrokerRow
    new = record old { trades = pos (trade_count_of_broker accounts (xs ++ t ∷ ys) id); commissions = commission_total_of_broker accounts (xs ++ t ∷ ys) id }

    by_test : (c : Bool) → (b.id == id) ≡ c → broker_row accounts (xs ++ t ∷ ys) b ≡ cond (b.id == id) new old
    by_test true e =
        let same : b.id ≡ id = eqb-true b.id id e in
        (λ i. record old { trades = pos (trade_count_of_broker accounts (xs ++ t ∷ ys) (same i)); commissions = commission_total_of_broker accounts (xs ++ t ∷ ys) (same i) })
        ∙ sym (ap (λ c. cond c new old) e)
    by_test false e =
        (λ i. record old { trades = pos (length (other_broker accounts xs t ys b.id e i)); commissions = sum_by (λ u. u.commission) (other_broker accounts xs t ys b.id e i) })
        ∙ sym (ap (λ c. cond c new old) e)

pub brokers_after : (accounts : List Account) (brokers : List Broker) (xs : List Trade) (t : Trade) (ys : List Trade)
    → rows_sorted_by_key broker_key (map (broker_row accounts (xs ++ t ∷ ys)) brokers)
    ≡ map (with_numbers (broker_id_in_accounts accounts t.account)
    (pos (trade_count_of_broker accounts (xs ++ t ∷ ys) (broker_id_in_accounts accounts t.account)))
    (commission_total_of_broker accounts (xs ++ t ∷ ys) (broker_id_in_accounts accounts t.account)))
    (rows_sorted_by_key broker_key (map (broker_row accounts (xs ++ ys)) brokers))
brokers_after accounts brokers xs t ys =
    let f : BrokerRow → BrokerRow =
    with_numbers (broker_id_in_accounts accounts t.account) (pos (trade_count_of_broker accounts (xs ++ t ∷ ys) (broker_id_in_accounts accounts t.account)))
    (commission_total_of_broker accounts (xs ++ t ∷ ys) (broker_id_in_accounts accounts t.account)) in
    ap (rows_sorted_by_key broker_key) (map-same (broker_row accounts (xs ++ t ∷ ys)) (λ b. f (broker_row accounts (xs ++ ys) b)) brokers (every brokers)
    ∙ sym (map-twice f (broker_row accounts (xs ++ ys)) brokers))
    ∙ by_key-map broker_key broker_key f (map (broker_row accounts (xs ++ ys)) brokers) (λ r. same_key r (r.id == broker_id_in_accounts accounts t.account) _ _)
  where
    same_key : (r : BrokerRow) (c : Bool) (m : ℤ) (n : ℕ) → broker_key (cond c (record r { trades = m; commissions = n }) r) ≡ broker_key r
    same_key r true m n = refl
    same_key r false m n = refl

    every : (bs : List Broker) → AllByRecursion (λ b. broker_row accounts (xs ++ t ∷ ys) b
        ≡ with_numbers (broker_id_in_accounts accounts t.account)
        (pos (trade_count_of_broker accounts (xs ++ t ∷ ys) (broker_id_in_accounts accounts t.account)))
        (commission_total_of_broker accounts (xs ++ t ∷ ys) (broker_id_in_accounts accounts t.account))
        (broker_row accounts (xs ++ ys) b)) bs
    every [] = tt
    every (b ∷ bs) = (broker_after accounts xs t ys b, every bs)

-- ---- accounts

abbrev pub with_other_balance : ℕ → ℤ → AccountRow → AccountRow
with_other_balance account balance r = cond (r.id == account) (record r { balance = balance }) r

pub other_account : (accounts : List Account) (xs : List Trade) (t : Trade) (ys : List Trade) (ms : List Movement) (id : ℕ) → (id == t.account) ≡ false
    → balance_of_account accounts (postings accounts (xs ++ t ∷ ys) ms) id ≡ balance_of_account accounts (postings accounts (xs ++ ys) ms) id
unfolding balance_of_account
other_account accounts xs t ys ms id e = by_test t.is_cash refl
  where
    X : List Posting
    X = map (posting_of_trade accounts) (cash_trades xs)

    Y : List Posting
    Y = map (posting_of_trade accounts) (cash_trades ys) ++ map posting_of_movement ms

    of_it : (b : Bool) → t.is_cash ≡ b → postings_to_account (postings accounts (xs ++ t ∷ ys) ms) id ≡ postings_to_account (postings accounts (xs ++ ys) ms) id
    of_it true c =
        ap (λ ps. postings_to_account ps id) (postings_one accounts xs t ys ms c)
        ∙ filter-not_one (λ p. p.account == id) X (posting_of_trade accounts t) Y (numbers_back t.account id ∙ e)
        ∙ sym (filter-append (λ p. p.account == id) X Y) ∙ ap (λ ps. postings_to_account ps id) (sym (postings_both accounts xs ys ms))
    of_it false c = ap (λ ps. postings_to_account ps id) (postings_none accounts xs t ys ms c)

    by_test : (b : Bool) → t.is_cash ≡ b → balance_of_account accounts (postings accounts (xs ++ t ∷ ys) ms) id ≡ balance_of_account accounts (postings accounts (xs ++ ys) ms) id
    by_test b c = ap (λ ps. opening_balance_in_accounts accounts id +ℤ total_by (λ p. p.amount) ps) (of_it b c)

-- where the balances of all other accounts stay
pub accounts_posted : (all accounts : List Account) (before then : List Posting) (account : ℕ)
    → ((id : ℕ) → (id == account) ≡ false → balance_of_account all then id ≡ balance_of_account all before id)
    → rows_sorted_by_key account_key (map (account_row all then) accounts) ≡ map (with_other_balance account (balance_of_account all then account))
    (rows_sorted_by_key account_key (map (account_row all before) accounts))
accounts_posted all accounts before then account others =
    let f : AccountRow → AccountRow = with_other_balance account (balance_of_account all then account) in
    ap (rows_sorted_by_key account_key) (map-same (account_row all then) (λ a. f (account_row all before a)) accounts (every accounts) ∙ sym (map-twice f (account_row all before) accounts))
    ∙ by_key-map account_key account_key f (map (account_row all before) accounts) (λ r. same_key r (r.id == account))
  where
    same_key : (r : AccountRow) (c : Bool) → account_key (cond c (record r { balance = balance_of_account all then account }) r) ≡ account_key r
    same_key r true = refl
    same_key r false = refl

    after : (a : Account) (c : Bool) → (a.id == account) ≡ c → account_row all then a ≡ with_other_balance account (balance_of_account all then account) (account_row all before a)
    after a true e =
        (λ i. record (account_row all before a) { balance = balance_of_account all then (eqb-true a.id account e i) })
        ∙ sym (ap (λ c. cond c (record (account_row all before a) { balance = balance_of_account all then account }) (account_row all before a)) e)
    after a false e =
        (λ i. record (account_row all before a) { balance = others a.id e i })
        ∙ sym (ap (λ c. cond c (record (account_row all before a) { balance = balance_of_account all then account }) (account_row all before a)) e)

    every : (bs : List Account) → AllByRecursion (λ a. account_row all then a ≡ with_other_balance account (balance_of_account all then account) (account_row all before a)) bs
    every [] = tt
    every (a ∷ bs) = (after a (a.id == account) refl, every bs)

pub accounts_after : (all accounts : List Account) (xs : List Trade) (t : Trade) (ys : List Trade) (ms : List Movement)
    → rows_sorted_by_key account_key (map (account_row all (postings all (xs ++ t ∷ ys) ms)) accounts)
    ≡ map (with_other_balance t.account (balance_of_account all (postings all (xs ++ t ∷ ys) ms) t.account))
    (rows_sorted_by_key account_key (map (account_row all (postings all (xs ++ ys) ms)) accounts))
accounts_after all accounts xs t ys ms =
    accounts_posted all accounts (postings all (xs ++ ys) ms) (postings all (xs ++ t ∷ ys) ms) t.account (λ id e. other_account all xs t ys ms id e)

-- a trade on margin moves no balance
pub margin_balance : (accounts : List Account) (xs : List Trade) (t : Trade) (ys : List Trade) (ms : List Movement) (id : ℕ) → t.is_cash ≡ false
    → balance_of_account accounts (postings accounts (xs ++ t ∷ ys) ms) id ≡ balance_of_account accounts (postings accounts (xs ++ ys) ms) id
margin_balance accounts xs t ys ms id e = ap (λ ps. balance_of_account accounts ps id) (postings_none accounts xs t ys ms e)

pub margin_accounts : (all accounts : List Account) (xs : List Trade) (t : Trade) (ys : List Trade) (ms : List Movement) → t.is_cash ≡ false
    → rows_sorted_by_key account_key (map (account_row all (postings all (xs ++ t ∷ ys) ms)) accounts) ≡ rows_sorted_by_key account_key (map (account_row all (postings all (xs ++ ys) ms)) accounts)
margin_accounts all accounts xs t ys ms e =
    ap (rows_sorted_by_key account_key)
    (map-same (account_row all (postings all (xs ++ t ∷ ys) ms)) (account_row all (postings all (xs ++ ys) ms)) accounts (every accounts))
  where
    every : (bs : List Account) → AllByRecursion (λ a. account_row all (postings all (xs ++ t ∷ ys) ms) a ≡ account_row all (postings all (xs ++ ys) ms) a) bs
    every [] = tt
    every (a ∷ bs) = ((λ i. record (account_row all (postings all (xs ++ ys) ms) a) { balance = margin_balance all xs t ys ms a.id e i }), every bs)

-- ---- settlements and cash

-- the row of a trade more, among those of others
row_among : {Row : Type 0} (key : Row → List KeyPart) (row : Trade → Row) (xs : List Trade) (t : Trade) (ys : List Trade)
    → ((u : Trade) → key (row u) ≡ number u.id ∷ []) → NonePass (λ u. u.id == t.id) xs
    → rows_sorted_by_key key (map row (xs ++ t ∷ ys)) ≡ insert_row_by_key key (row t) (rows_sorted_by_key key (map row (xs ++ ys)))
row_among key row xs t ys k h =
    ap (rows_sorted_by_key key) (map-append row xs (t ∷ ys))
    ∙ by_key-middle key (map row xs) (row t) (map row ys)
    (All-mapped (λ r. key r ≡ key (row t) → ⊥) row xs (All-map xs (λ u e i. eqb-false u.id t.id e (number_of u.id t.id (sym (k u) ∙ i ∙ k t))) h))
    ∙ ap (λ rows. insert_row_by_key key (row t) (rows_sorted_by_key key rows)) (sym (map-append row xs ys))
  where
    number_of : (m n : ℕ) → number m ∷ [] ≡ number n ∷ [] → m ≡ n
    number_of m n e = cc

pub settlements_after : (accounts : List Account) (rule : SettleRule) (xs : List Trade) (t : Trade) (ys : List Trade) → NonePass (λ u. u.id == t.id) xs
    → rows_sorted_by_key settlement_key (map (settlement_row accounts rule) (xs ++ t ∷ ys))
    ≡ insert_row_by_key settlement_key (settlement_row accounts rule t) (rows_sorted_by_key settlement_key (map (settlement_row accounts rule) (xs ++ ys)))
settlements_after accounts rule xs t ys h = row_among settlement_key (settlement_row accounts rule) xs t ys (λ u. refl) h

-- what was posted before a trade is completed: all at earlier stamps
pub posted_before : (accounts : List Account) (ts : List Trade) (ms : List Movement) (stamp : ℕ) → AllByRecursion (λ t. last_status_stamp_of_trade t < stamp) ts
    → AllByRecursion (λ m. m.stamp < stamp) ms
    → AllByRecursion (λ p. p.stamp < stamp) (postings accounts ts ms)
posted_before accounts ts ms stamp h k =
    All-append (λ p. p.stamp < stamp) (map (posting_of_trade accounts) (cash_trades ts)) (map posting_of_movement ms)
    (All-mapped (λ p. p.stamp < stamp) (posting_of_trade accounts) (cash_trades ts) (All-filter (λ t. last_status_stamp_of_trade t < stamp) (λ t. t.is_cash) ts h))
    (All-mapped (λ p. p.stamp < stamp) posting_of_movement ms k)

-- the row of a cash trade that is completed after all that was posted
pub cash_after : (accounts : List Account) (xs : List Trade) (t : Trade) (ys : List Trade) (ms : List Movement) → t.is_cash ≡ true
    → AllByRecursion (λ p. p.stamp < last_status_stamp_of_trade t) (postings accounts (xs ++ ys) ms)
    → rows_sorted_by_key cash_move_key (numbered_cash_move_rows 1 (postings_sorted_by_stamp (postings accounts (xs ++ t ∷ ys) ms)))
    ≡ insert_row_by_key cash_move_key (cash_move_row (length (postings accounts (xs ++ ys) ms) + 1) (posting_of_trade accounts t))
    (rows_sorted_by_key cash_move_key (numbered_cash_move_rows 1 (postings_sorted_by_stamp (postings accounts (xs ++ ys) ms))))
cash_after accounts xs t ys ms e h =
    let X : List Posting = map (posting_of_trade accounts) (cash_trades xs) in
    let Y : List Posting = map (posting_of_trade accounts) (cash_trades ys) ++ map posting_of_movement ms in
    let both : postings accounts (xs ++ ys) ms ≡ X ++ Y = postings_both accounts xs ys ms in
    ap (λ ps. rows_sorted_by_key cash_move_key (numbered_cash_move_rows 1 (postings_sorted_by_stamp ps))) (postings_one accounts xs t ys ms e)
    ∙ rows_last X (posting_of_trade accounts t) Y (subst (AllByRecursion (λ p. p.stamp < last_status_stamp_of_trade t)) both h)
    ∙ ap (λ ps. insert_row_by_key cash_move_key (cash_move_row (length ps + 1) (posting_of_trade accounts t))
    (rows_sorted_by_key cash_move_key (numbered_cash_move_rows 1 (postings_sorted_by_stamp ps)))) (sym both)

pub margin_cash : (accounts : List Account) (xs : List Trade) (t : Trade) (ys : List Trade) (ms : List Movement) → t.is_cash ≡ false
    → rows_sorted_by_key cash_move_key (numbered_cash_move_rows 1 (postings_sorted_by_stamp (postings accounts (xs ++ t ∷ ys) ms)))
    ≡ rows_sorted_by_key cash_move_key (numbered_cash_move_rows 1 (postings_sorted_by_stamp (postings accounts (xs ++ ys) ms)))
margin_cash accounts xs t ys ms e = ap (λ ps. rows_sorted_by_key cash_move_key (numbered_cash_move_rows 1 (postings_sorted_by_stamp ps))) (postings_none accounts xs t ys ms e)
