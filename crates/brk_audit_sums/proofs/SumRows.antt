-- The conditions `Count`, `Commission` and `Balance`, row by row, as sums over rows.
use Rattle.std.proofs.Common.{◌≡◌, ℕ, ◌+◌, ◌==◌, Bool, true, false, List, [], ◌∷◌, refl, sym, ◌∙◌, ap, map, filter, length, ℤ, pos, arith, Some}
use Rattle.std.specs.Prelude.{◌&&◌, ◌+ℤ◌, find, is_none, is_some, option_map, sum_by}
use Rattle.std.specs.List.{AllByRecursion}
use Rattle.std.specs.Option.{option_map_or}
use Rattle.std.proofs.lemmas.Bool.{eqb-true, eq-eqb}
use Rattle.std.proofs.lemmas.List.Sums.{sum_by-cons}
use Rattle.brk_money.specs.declared.fault.Condition.TheVariants as condition
use Rattle.brk_model.specs.Lists.{total_by}
use Rattle.brk_model.specs.Records.{Trade}
use Rattle.brk_model.specs.Base.{broker_id_in_accounts, completed_trades, is_completed, opening_balance_in_accounts}
use Rattle.brk_model.specs.Derived.{Posting, settlement_amount, balance_of_account, cash_trades, commission_total_of_broker, trades_of_broker}
use Rattle.brk_model.specs.Derived.{postings_to_account, posting_of_movement, postings_of_base, trade_count_of_broker}
use Rattle.brk_model.specs.Joins.{account_row_with_id}
use Rattle.brk_model.specs.Tables.{Tables, AccountRow, BrokerRow, TradeRow, account_row, broker_row, tables_of_base_in_schema}
use Rattle.brk_model.specs.Sheets.{tables_sorted_by_key}
use Rattle.brk_model.specs.Keys.{account_key, broker_key, rows_sorted_by_key, number}
use Rattle.brk_model.specs.Adopted.{account_of_row, base_of_tables, movement_of_row, trade_of_row}
use Rattle.brk_model.specs.Ways.{satisfies_status_condition}
use Rattle.brk_model.specs.Audit.{ConditionHolds, expected_tables}
use Rattle.brk_trade_books.proofs.Postings.{balance_parts}
use Rattle.brk_trade_books.proofs.Same.{All-map, All-of, filter-same, find-each, map-same, total_by-same}
use Rattle.brk_audit_theorems.proofs.Climbs.{Climbs, In, climbs_map, each_in, stays}
use Rattle.brk_audit_theorems.proofs.Members.{FoundIn, found_in, map-map, one_of_key}
use Rattle.brk_audit_theorems.proofs.AdoptedTables.{brokers_there}
use Rattle.brk_audit_sums.specs.Completed.{is_completed_trade_row}
use Rattle.brk_audit_sums.specs.Settling.{settlement_amount_at_tax_status, is_completed_cash_trade}
use Rattle.brk_audit_sums.proofs.Sums.{completed_trade_rows, account_broker_or_zero, account_tax_status_or_untaxed, sum_over_account_cash_trades, sum_over_broker_trades, movement_sum_of_account}
use Rattle.brk_audit_sums.proofs.Completed.{completed_rows}
use Rattle.brk_audit_sums.proofs.Postings.{total_mapped}
use Rattle.brk_audit_sums.proofs.Settling.{accounts_in, filter-filter, same_account, same_amount, same_broker}
use Rattle.brk_model.specs.Schemas.{Schema}

-- ---- sums

pos_length : {X : Type 0} (xs : List X) → pos (length xs) ≡ total_by (λ x. pos 1) xs
unfolding total_by
pos_length [] = refl
pos_length (x ∷ xs) = let e : length (x ∷ xs) ≡ 1 + length xs = omega arith in ap pos e ∙ ap (λ z. pos 1 +ℤ z) (pos_length xs)

pos_sum : {X : Type 0} (f : X → ℕ) (xs : List X) → pos (sum_by f xs) ≡ total_by (λ x. pos (f x)) xs
unfolding total_by
pos_sum f [] = refl
pos_sum f (x ∷ xs) = ap pos (sum_by-cons f x xs) ∙ ap (λ z. pos (f x) +ℤ z) (pos_sum f xs)

of_broker_sum : (t : Tables) (f : Trade → ℤ) (g : TradeRow → ℤ) (broker : ℕ) → satisfies_status_condition t ≡ true → ((r : TradeRow) → f (trade_of_row t r) ≡ g r)
    → total_by f (trades_of_broker (base_of_tables t).accounts (completed_trades (base_of_tables t)) broker) ≡ sum_over_broker_trades t g broker
unfolding base_of_tables
of_broker_sum t f g broker s e =
    ap (λ ts. total_by f (filter (λ u. broker_id_in_accounts (accounts_in t) u.account == broker) ts)) (completed_rows t s)
    ∙ total_mapped f (λ u. broker_id_in_accounts (accounts_in t) u.account == broker) (trade_of_row t) (completed_trade_rows t)
    ∙ total_by-same (λ r. f (trade_of_row t r)) g (filter (λ r. broker_id_in_accounts (accounts_in t) r.account == broker) (completed_trade_rows t))
    (All-of (filter (λ r. broker_id_in_accounts (accounts_in t) r.account == broker) (completed_trade_rows t)) e)
    ∙ ap (total_by g) (filter-filter (λ r. broker_id_in_accounts (accounts_in t) r.account == broker) is_completed_trade_row t.trades
    ∙ filter-same (λ r. is_completed_trade_row r && (broker_id_in_accounts (accounts_in t) r.account == broker))
    (λ r. is_completed_trade_row r && (account_broker_or_zero t r.account == broker)) t.trades
    (All-of t.trades (λ r i. is_completed_trade_row r && (same_broker t r.account i == broker))))

of_account_sum : (t : Tables) (account : ℕ) → satisfies_status_condition t ≡ true
    → total_by (settlement_amount (base_of_tables t).accounts) (filter (λ u. u.account == account) (cash_trades (completed_trades (base_of_tables t))))
    ≡ sum_over_account_cash_trades t (λ r. settlement_amount_at_tax_status (account_tax_status_or_untaxed t r.account) r) account
unfolding base_of_tables
of_account_sum t account s =
    let f : Trade → ℤ = settlement_amount (accounts_in t) in
    let g : TradeRow → ℤ = λ r. settlement_amount_at_tax_status (account_tax_status_or_untaxed t r.account) r in
    ap (λ ts. total_by f (filter (λ u. u.account == account) (cash_trades ts))) (completed_rows t s)
    ∙ ap (total_by f) (filter-filter (λ u. u.account == account) (λ u. u.is_cash) (map (trade_of_row t) (completed_trade_rows t)))
    ∙ total_mapped f (λ u. u.is_cash && (u.account == account)) (trade_of_row t) (completed_trade_rows t)
    ∙ total_by-same (λ r. f (trade_of_row t r)) g (filter (λ r. r.is_cash && (r.account == account)) (completed_trade_rows t))
    (All-of (filter (λ r. r.is_cash && (r.account == account)) (completed_trade_rows t)) (same_amount t))
    ∙ ap (total_by g) (filter-filter (λ r. r.is_cash && (r.account == account)) is_completed_trade_row t.trades
    ∙ filter-same (λ r. is_completed_trade_row r && (r.is_cash && (r.account == account))) (λ r. is_completed_cash_trade r && (r.account == account)) t.trades
    (All-of t.trades (λ r. regrouped (is_completed_trade_row r) r.is_cash (r.account == account))))
  where
    regrouped : (a b c : Bool) → a && (b && c) ≡ (a && b) && c
    regrouped true b c = refl
    regrouped false b c = refl

of_movements_sum : (t : Tables) (account : ℕ) → total_by (λ p. p.amount) (postings_to_account (map posting_of_movement (base_of_tables t).movements) account) ≡ movement_sum_of_account t account
unfolding base_of_tables
of_movements_sum t account =
    ap (λ ps. total_by (λ p. p.amount) (postings_to_account ps account)) (map-map posting_of_movement movement_of_row (filter (λ r. is_none r.trade) t.moves))
    ∙ total_mapped (λ p. p.amount) (λ p. p.account == account) (λ r. posting_of_movement (movement_of_row r)) (filter (λ r. is_none r.trade) t.moves)
    ∙ ap (total_by (λ r. r.amount)) (filter-filter (λ r. r.account == account) (λ r. is_none r.trade) t.moves)

-- ---- row by row

each_same : {Row B : Type 0} (f g : Row → B) (rows : List Row) → map f rows ≡ map g rows → AllByRecursion (λ b. f b ≡ g b) rows
each_same f g [] e = tt
each_same f g (b ∷ bs) e = let h : f b ≡ g b = cc in let t : map f bs ≡ map g bs = cc in (h, each_same f g bs t)

-- what is expected of a column is what follows of each row
wanted_counts : (schema : Schema) (t : Tables) → Climbs broker_key t.brokers
    → map (λ b. b.trades) (expected_tables schema t).brokers ≡ map (λ b. pos (trade_count_of_broker (base_of_tables t).accounts (completed_trades (base_of_tables t)) b.id)) t.brokers
unfolding base_of_tables tables_sorted_by_key tables_of_base_in_schema
wanted_counts schema t c =
    let done : List Trade = filter is_completed (map (trade_of_row t) t.trades) in
    ap (map (λ b. b.trades)) (brokers_there (accounts_in t) done t.brokers c) ∙ map-map (λ b. b.trades) (λ b. broker_row (accounts_in t) done (record { id = b.id; name = b.name })) t.brokers

wanted_commissions : (schema : Schema) (t : Tables) → Climbs broker_key t.brokers
    → map (λ b. b.commissions) (expected_tables schema t).brokers ≡ map (λ b. commission_total_of_broker (base_of_tables t).accounts (completed_trades (base_of_tables t)) b.id) t.brokers
unfolding base_of_tables tables_sorted_by_key tables_of_base_in_schema
wanted_commissions schema t c =
    let done : List Trade = filter is_completed (map (trade_of_row t) t.trades) in
    ap (map (λ b. b.commissions)) (brokers_there (accounts_in t) done t.brokers c) ∙ map-map (λ b. b.commissions) (λ b. broker_row (accounts_in t) done (record { id = b.id; name = b.name })) t.brokers

wanted_balances : (schema : Schema) (t : Tables) → Climbs account_key t.accounts
    → map (λ a. a.balance) (expected_tables schema t).accounts ≡ map (λ a. balance_of_account (base_of_tables t).accounts (postings_of_base (base_of_tables t)) a.id) t.accounts
unfolding base_of_tables tables_sorted_by_key tables_of_base_in_schema
wanted_balances schema t c =
    let done : List Trade = filter is_completed (map (trade_of_row t) t.trades) in
    let posted : List Posting = postings_of_base (base_of_tables t) in
    let row : AccountRow → AccountRow = λ a. account_row (accounts_in t) posted (account_of_row a) in
    ap (λ rows. map (λ a. a.balance) (rows_sorted_by_key account_key rows)) (map-map (account_row (accounts_in t) posted) account_of_row t.accounts)
    ∙ ap (map (λ a. a.balance)) (stays account_key (map row t.accounts) (climbs_map account_key account_key row t.accounts (λ a. refl) c))
    ∙ map-map (λ a. a.balance) row t.accounts

abbrev pub CountsHold : Tables → Type 0
CountsHold t = AllByRecursion (λ b. b.trades ≡ sum_over_broker_trades t (λ r. pos 1) b.id) t.brokers

abbrev pub CommissionsHold : Tables → Type 0
CommissionsHold t = AllByRecursion (λ b. pos b.commissions ≡ sum_over_broker_trades t (λ r. pos r.commission) b.id) t.brokers

-- what its cash trades and its movements moved on an account
abbrev pub moved_on : Tables → ℕ → ℤ
moved_on t account = sum_over_account_cash_trades t (λ r. settlement_amount_at_tax_status (account_tax_status_or_untaxed t r.account) r) account +ℤ movement_sum_of_account t account

abbrev pub BalancesHold : Tables → Type 0
BalancesHold t = AllByRecursion (λ a. a.balance ≡ a.opening +ℤ moved_on t a.id) t.accounts

count_is : (t : Tables) (broker : ℕ) → satisfies_status_condition t ≡ true
    → pos (trade_count_of_broker (base_of_tables t).accounts (completed_trades (base_of_tables t)) broker) ≡ sum_over_broker_trades t (λ r. pos 1) broker
unfolding trade_count_of_broker
count_is t broker s = pos_length (trades_of_broker (base_of_tables t).accounts (completed_trades (base_of_tables t)) broker) ∙ of_broker_sum t (λ u. pos 1) (λ r. pos 1) broker s (λ r. refl)

commission_is : (t : Tables) (broker : ℕ) → satisfies_status_condition t ≡ true
    → pos (commission_total_of_broker (base_of_tables t).accounts (completed_trades (base_of_tables t)) broker) ≡ sum_over_broker_trades t (λ r. pos r.commission) broker
unfolding commission_total_of_broker
commission_is t broker s =
    pos_sum (λ u. u.commission) (trades_of_broker (base_of_tables t).accounts (completed_trades (base_of_tables t)) broker)
    ∙ of_broker_sum t (λ u. pos u.commission) (λ r. pos r.commission) broker s (λ r. refl)

pub counts_by_rows : (schema : Schema) (t : Tables) → Climbs broker_key t.brokers → satisfies_status_condition t ≡ true
    → (ConditionHolds schema condition.Count t → CountsHold t) × (CountsHold t → ConditionHolds schema condition.Count t)
unfolding ConditionHolds
counts_by_rows schema t c s =
    let n : BrokerRow → ℤ = λ b. pos (trade_count_of_broker (base_of_tables t).accounts (completed_trades (base_of_tables t)) b.id) in (
      (λ e. All-map t.brokers (λ b k. k ∙ count_is t b.id s) (each_same (λ b. b.trades) n t.brokers (e ∙ wanted_counts schema t c))),
      (λ a. map-same (λ b. b.trades) n t.brokers (All-map t.brokers (λ b k. k ∙ sym (count_is t b.id s)) a) ∙ sym (wanted_counts schema t c)),
    )

same_number : (m n : ℕ) → pos m ≡ pos n → m ≡ n
same_number m n e = cc

pub commissions_by_rows : (schema : Schema) (t : Tables) → Climbs broker_key t.brokers → satisfies_status_condition t ≡ true
    → (ConditionHolds schema condition.Commission t → CommissionsHold t) × (CommissionsHold t → ConditionHolds schema condition.Commission t)
unfolding ConditionHolds
commissions_by_rows schema t c s =
    let n : BrokerRow → ℕ = λ b. commission_total_of_broker (base_of_tables t).accounts (completed_trades (base_of_tables t)) b.id in (
      (λ e. All-map t.brokers (λ b k. ap pos k ∙ commission_is t b.id s) (each_same (λ b. b.commissions) n t.brokers (e ∙ wanted_commissions schema t c))),
      (λ a. map-same (λ b. b.commissions) n t.brokers (All-map t.brokers (λ b k. same_number b.commissions (n b) (k ∙ sym (commission_is t b.id s))) a) ∙ sym (wanted_commissions schema t c)),
    )

-- a row is found by its own id
account_found : (rows : List AccountRow) → Climbs account_key rows → AllByRecursion (λ a. find (λ x. x.id == a.id) rows ≡ Some a) rows
account_found rows c = both rows (each_in rows) (find-each (λ a x. x.id == a.id) rows (λ a. eq-eqb a.id a.id refl))
  where
    one : (a : AccountRow) → In a rows → is_some (find (λ x. x.id == a.id) rows) ≡ true → find (λ x. x.id == a.id) rows ≡ Some a
    one a m e =
        let f : FoundIn AccountRow (λ x. x.id == a.id) rows = found_in (λ x. x.id == a.id) rows e in
        let k : f.item.id ≡ a.id = eqb-true f.item.id a.id f.passes in
        f.is ∙ ap Some (one_of_key account_key rows f.item a c f.there m (λ i. number (k i) ∷ []))

    both : (xs : List AccountRow) → AllByRecursion (λ a. In a rows) xs → AllByRecursion (λ a. is_some (find (λ x. x.id == a.id) rows) ≡ true) xs
        → AllByRecursion (λ a. find (λ x. x.id == a.id) rows ≡ Some a) xs
    both [] m e = tt
    both (a ∷ xs) m e = (one a m.0 e.0, both xs m.1 e.1)

balance_is : (t : Tables) (a : AccountRow) → satisfies_status_condition t ≡ true → account_row_with_id t a.id ≡ Some a
    → balance_of_account (base_of_tables t).accounts (postings_of_base (base_of_tables t)) a.id ≡ a.opening +ℤ moved_on t a.id
unfolding base_of_tables
balance_is t a s f =
    let o : opening_balance_in_accounts (accounts_in t) a.id ≡ a.opening = ap (λ o. option_map_or (λ x. x.opening) o (pos 0)) (same_account t a.id ∙ ap (option_map account_of_row) f) in
    let n = of_account_sum t a.id s in
    let m = of_movements_sum t a.id in
    balance_parts (base_of_tables t).accounts (completed_trades (base_of_tables t)) (base_of_tables t).movements a.id ∙ (λ i. o i +ℤ (n i +ℤ m i))

both_all : {X : Type 0} (P Q : X → Type 0) (xs : List X) → AllByRecursion P xs → AllByRecursion Q xs → AllByRecursion (λ x. P x × Q x) xs
both_all P Q [] g h = tt
both_all P Q (x ∷ xs) g h = ((g.0, h.0), both_all P Q xs g.1 h.1)

pub balances_by_rows : (schema : Schema) (t : Tables) → Climbs account_key t.accounts → satisfies_status_condition t ≡ true
    → (ConditionHolds schema condition.Balance t → BalancesHold t) × (BalancesHold t → ConditionHolds schema condition.Balance t)
unfolding ConditionHolds
balances_by_rows schema t c s =
    let n : AccountRow → ℤ = λ a. balance_of_account (base_of_tables t).accounts (postings_of_base (base_of_tables t)) a.id in
    let found : AllByRecursion (λ a. account_row_with_id t a.id ≡ Some a) t.accounts = account_found t.accounts c in
    let Right : AccountRow → Type 0 = λ a. a.balance ≡ a.opening +ℤ moved_on t a.id in (
      (λ e. All-map t.accounts (λ a k. k.0 ∙ balance_is t a s k.1)
          (both_all (λ a. a.balance ≡ n a) (λ a. account_row_with_id t a.id ≡ Some a) t.accounts (each_same (λ a. a.balance) n t.accounts (e ∙ wanted_balances schema t c)) found)),
      (λ h. map-same (λ a. a.balance) n t.accounts
          (All-map t.accounts (λ a k. k.0 ∙ sym (balance_is t a s k.1)) (both_all Right (λ a. account_row_with_id t a.id ≡ Some a) t.accounts h found)) ∙ sym (wanted_balances schema t c)),
    )
