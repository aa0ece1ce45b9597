-- The balance of an account and the totals of a broker, from the rows that they count.
use Rattle.std.proofs.Common.{◌≡◌, ℕ, ◌+◌, ◌==◌, ◌&&◌, false, cond, List, [], ◌∷◌, refl, sym, ◌∙◌, ap, length, map, filter, arith, ℤ, pos, ◌+ℤ◌, Option, Some, None}
use Rattle.std.specs.Prelude.{find, option_map, sum_by}
use Rattle.std.specs.Option.{option_map_or}
use Rattle.std.specs.List.{AllByRecursion}
use Rattle.std.proofs.lemmas.Bool.{eqb-true, eq-eqb}
use Rattle.std.proofs.lemmas.List.Sums.{sum_by-cons}
use Rattle.brk_money.specs.Kinds.{is_same_trade_status}
use Rattle.brk_money.specs.declared.status.Status.TheVariants.{Canceled, Completed}
use Rattle.brk_model.specs.Lists.{total_by}
use Rattle.brk_model.specs.Records.{Account, Broker, StatusChange, Trade}
use Rattle.brk_model.specs.Base.{Base, account_with_id, broker_id_in_accounts, broker_with_id, completed_trades, is_completed, last_status_change}
use Rattle.brk_model.specs.Derived.{Posting, balance_of_account, commission_total_of_broker, trades_of_broker, postings_to_account, postings_of_base, trade_count_of_broker}
use Rattle.brk_model.specs.Joins.{account_row_with_id, cash_move_rows_of_account}
use Rattle.brk_model.specs.Sheets.{sheets, tables_sorted_by_key}
use Rattle.brk_model.specs.Tables.{AccountRow, BrokerRow, account_row, broker_row, tables_of_base_in_schema, trade_row}
use Rattle.brk_trade_books.specs.Books.{BooksInvariant}
use Rattle.brk_trade_books.specs.Sums.{completed_trade_rows_of_broker, is_completed_trade_of_broker}
use Rattle.brk_trade_books.proofs.Bools.{numbers_back}
use Rattle.brk_trade_books.proofs.Same.{filter-same}
use Rattle.brk_trade_books.proofs.Places.{FoundAt, find-at}
use Rattle.brk_trade_books.proofs.Reading.{reads_account, reads_broker}
use Rattle.brk_trade_books.proofs.LotReading.{IdsApart, filter-both, filter-map}
use Rattle.brk_trade_books.proofs.TradeReading.{trades_in_order}
use Rattle.brk_trade_books.proofs.Postings.{rows_total}

-- ---- sums over rows

pub total-map : {X Y : Type 0} (f : Y → ℤ) (g : X → Y) (xs : List X) → total_by f (map g xs) ≡ total_by (λ x. f (g x)) xs
unfolding total_by
total-map f g [] = refl
total-map f g (x ∷ xs) = ap (λ n. f (g x) +ℤ n) (total-map f g xs)

pub sum-map : {X Y : Type 0} (f : Y → ℕ) (g : X → Y) (xs : List X) → sum_by f (map g xs) ≡ sum_by (λ x. f (g x)) xs
sum-map f g [] = refl
sum-map f g (x ∷ xs) = sum_by-cons f (g x) (map g xs) ∙ ap (λ n. f (g x) + n) (sum-map f g xs) ∙ sym (sum_by-cons (λ x. f (g x)) x xs)

pub length-map : {X Y : Type 0} (g : X → Y) (xs : List X) → length (map g xs) ≡ length xs
length-map g [] = refl
length-map g (x ∷ xs) = let h = length-map g xs in omega (arith, h)

-- ---- brokers

done_told : (o : Option StatusChange) → is_same_trade_status (option_map_or (λ m. m.status) o Canceled) Completed ≡ option_map_or (λ m. is_same_trade_status m.status Completed) o false
done_told None = refl
done_told (Some m) = refl

broker_or : (accounts : List Account) (posted : List Posting) (a : Option Account) → option_map_or (λ r. r.broker) (option_map (account_row accounts posted) a) 0 ≡ option_map_or (λ a. a.broker) a 0
broker_or accounts posted None = refl
broker_or accounts posted (Some a) = refl

broker_told : (base : Base) (account : ℕ) → option_map_or (λ r. r.broker) (account_row_with_id (sheets base) account) 0 ≡ broker_id_in_accounts base.accounts account
broker_told base account = ap (λ o. option_map_or (λ r. r.broker) o 0) (reads_account base account) ∙ broker_or base.accounts (postings_of_base base) (account_with_id base account)

pub broker_trades : (base : Base) (broker : ℕ) → BooksInvariant base
    → completed_trade_rows_of_broker (sheets base) broker ≡ map trade_row (trades_of_broker base.accounts (completed_trades base) broker)
broker_trades base broker books =
    ap (filter (is_completed_trade_of_broker (sheets base) broker)) (trades_in_order base books.numbered)
    ∙ filter-map (is_completed_trade_of_broker (sheets base) broker) trade_row base.trades
    ∙ ap (map trade_row) (filter-same (λ t. is_completed_trade_of_broker (sheets base) broker (trade_row t))
    (λ t. is_completed t && (broker_id_in_accounts base.accounts t.account == broker)) base.trades (every base.trades)
    ∙ filter-both is_completed (λ t. broker_id_in_accounts base.accounts t.account == broker) base.trades)
  where
    every : (ts : List Trade) → AllByRecursion (λ t. is_completed_trade_of_broker (sheets base) broker (trade_row t) ≡ is_completed t && (broker_id_in_accounts base.accounts t.account == broker)) ts
    every [] = tt
    every (t ∷ ts) = ((λ i. done_told (last_status_change t) i && (broker_told base t.account i == broker)), every ts)

row_of : (base : Base) (id : ℕ) (r : BrokerRow) → find (λ r. r.id == id) (sheets base).brokers ≡ Some r → (b : Broker) × (broker_with_id base id ≡ Some b)
    × (r ≡ broker_row base.accounts (completed_trades base) b)
row_of base id r e = by_broker (broker_with_id base id) refl
  where
    by_broker : (o : Option Broker) → broker_with_id base id ≡ o → (b : Broker) × (broker_with_id base id ≡ Some b) × (r ≡ broker_row base.accounts (completed_trades base) b)
    by_broker None f = let k : Some r ≡ None = sym e ∙ reads_broker base id ∙ ap (option_map (broker_row base.accounts (completed_trades base))) f in absurd (cc)
    by_broker (Some b) f =
        let k : Some r ≡ Some (broker_row base.accounts (completed_trades base) b) = sym e ∙ reads_broker base id ∙ ap (option_map (broker_row base.accounts (completed_trades base))) f in
        let j : r ≡ broker_row base.accounts (completed_trades base) b = cc in (b, f, j)

broker_id : (base : Base) (id : ℕ) (b : Broker) → broker_with_id base id ≡ Some b → b.id ≡ id
broker_id base id b e = let f : FoundAt Broker (λ b. b.id == id) b base.brokers = find-at (λ b. b.id == id) base.brokers b e in eqb-true b.id id f.passes

pub broker_counts : (base : Base) (id : ℕ) (r : BrokerRow) → BooksInvariant base → find (λ r. r.id == id) (sheets base).brokers ≡ Some r
    → r.trades ≡ pos (length (completed_trade_rows_of_broker (sheets base) id))
unfolding trade_count_of_broker
broker_counts base id r books e =
    let k = row_of base id r e in
    ap (λ r. r.trades) k.2 ∙ ap (λ (m : ℕ). pos (trade_count_of_broker base.accounts (completed_trades base) m)) (broker_id base id k.0 k.1)
    ∙ ap pos (sym (ap length (broker_trades base id books) ∙ length-map trade_row (trades_of_broker base.accounts (completed_trades base) id)))

pub broker_sums : (base : Base) (id : ℕ) (r : BrokerRow) → BooksInvariant base → find (λ r. r.id == id) (sheets base).brokers ≡ Some r
    → r.commissions ≡ sum_by (λ t. t.commission) (completed_trade_rows_of_broker (sheets base) id)
unfolding commission_total_of_broker
broker_sums base id r books e =
    let k = row_of base id r e in
    ap (λ r. r.commissions) k.2 ∙ ap (λ (m : ℕ). commission_total_of_broker base.accounts (completed_trades base) m) (broker_id base id k.0 k.1)
    ∙ sym (ap (sum_by (λ t. t.commission)) (broker_trades base id books) ∙ sum-map (λ t. t.commission) trade_row (trades_of_broker base.accounts (completed_trades base) id))

-- ---- balances

-- each trade is found by its id
pub found_each : (ts : List Trade) → IdsApart ts → AllByRecursion (λ t. find (λ u. u.id == t.id) ts ≡ Some t) ts
found_each [] d = tt
found_each (t ∷ ts) d = (
  ap (λ b. cond b (Some t) (find (λ u. u.id == t.id) ts)) (eq-eqb t.id t.id refl),
  behind ts d.0 (found_each ts d.1),
)
  where
    behind : (us : List Trade) → AllByRecursion (λ u. (u.id == t.id) ≡ false) us → AllByRecursion (λ u. find (λ v. v.id == u.id) ts ≡ Some u) us
        → AllByRecursion (λ u. find (λ v. v.id == u.id) (t ∷ ts) ≡ Some u) us
    behind [] h k = tt
    behind (u ∷ us) h k = (ap (λ b. cond b (Some t) (find (λ v. v.id == u.id) ts)) (numbers_back t.id u.id ∙ h.0) ∙ k.0, behind us h.1 k.1)

pub cash_moves : (base : Base) (account : ℕ)
    → total_by (λ r. r.amount) (cash_move_rows_of_account (sheets base) account)
    ≡ total_by (λ p. p.amount) (postings_to_account (postings_of_base base) account)
unfolding tables_of_base_in_schema tables_sorted_by_key
cash_moves base account = rows_total account (postings_of_base base)

account_of_row : (base : Base) (id : ℕ) (r : AccountRow) → account_row_with_id (sheets base) id ≡ Some r → (a : Account) × (account_with_id base id ≡ Some a)
    × (r ≡ account_row base.accounts (postings_of_base base) a)
account_of_row base id r e = by_account (account_with_id base id) refl
  where
    by_account : (o : Option Account) → account_with_id base id ≡ o → (a : Account) × (account_with_id base id ≡ Some a) × (r ≡ account_row base.accounts (postings_of_base base) a)
    by_account None f = let k : Some r ≡ None = sym e ∙ reads_account base id ∙ ap (option_map (account_row base.accounts (postings_of_base base))) f in absurd (cc)
    by_account (Some a) f =
        let k : Some r ≡ Some (account_row base.accounts (postings_of_base base) a) = sym e ∙ reads_account base id ∙ ap (option_map (account_row base.accounts (postings_of_base base))) f in
        let j : r ≡ account_row base.accounts (postings_of_base base) a = cc in (a, f, j)

pub balance_sums : (base : Base) (id : ℕ) (r : AccountRow) → BooksInvariant base → account_row_with_id (sheets base) id ≡ Some r
    → r.balance ≡ r.opening +ℤ total_by (λ r. r.amount) (cash_move_rows_of_account (sheets base) id)
unfolding balance_of_account
balance_sums base id r books e =
    let k = account_of_row base id r e in
    let g : FoundAt Account (λ a. a.id == id) k.0 base.accounts = find-at (λ a. a.id == id) base.accounts k.0 k.1 in
    ap (λ r. r.balance) k.2 ∙ ap (λ (m : ℕ). balance_of_account base.accounts (postings_of_base base) m) (eqb-true k.0.id id g.passes)
    ∙ (λ i. option_map_or (λ a. a.opening) (k.1 i) (pos 0) +ℤ sym (cash_moves base id) i)
    ∙ sym (ap (λ r. r.opening +ℤ total_by (λ r. r.amount) (cash_move_rows_of_account (sheets base) id)) k.2)
