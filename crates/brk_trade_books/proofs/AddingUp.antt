-- In a base that satisfies the books invariant each sum in the tables is the sum of its rows.
use Rattle.std.proofs.Common.{◌≡◌, ◌≢◌, ℕ, ◌+◌, ◌==◌, zero, suc, Bool, true, false, not, cond, List, [], ◌∷◌, refl, sym, ◌∙◌, ap, subst, length, map, filter}
use Rattle.std.proofs.Common.{arith, ℤ, pos, negsuc, neg_ℤ, ◌+ℤ◌, Some, None}
use Rattle.std.specs.Prelude.{bytes_eq, find, flat_map, is_some, sum_by}
use Rattle.std.specs.Option.{option_map_or}
use Rattle.std.specs.List.{AllByRecursion}
use Rattle.std.proofs.lemmas.Bool.{eq-eqb}
use Rattle.std.proofs.lemmas.Int.{ints}
use Rattle.brk_lots.specs.Books.{lot_quantity_sum}
use Rattle.brk_lots.specs.Lots.{side_of_qty}
use Rattle.brk_lots.specs.Position.{IsPosition}
use Rattle.brk_lots.specs.declared.lot.Lot.{Lot}
use Rattle.brk_money.specs.Spelling.{Text}
use Rattle.brk_money.specs.declared.side.Side.TheVariants.{Buy, Sell}
use Rattle.brk_model.specs.Base.{Base, account_with_id, completed_trades, is_completed, security_with_symbol}
use Rattle.brk_model.specs.Derived.{balance_of_account, commission_total_of_broker, trades_of_broker, postings_of_base, holding_summary_quantity, trade_count_of_broker}
use Rattle.brk_model.specs.Keys.{account_key, broker_key, number, is_row_key_less, summary_key}
use Rattle.brk_model.specs.Lists.{insert_by, is_zero, sort_by, total_by}
use Rattle.brk_model.specs.Names.{AccountOfTradeExists, SecurityOfTradeExists}
use Rattle.brk_model.specs.Records.{Account, Broker}
use Rattle.brk_model.specs.Sheets.{sheets, tables_sorted_by_key}
use Rattle.brk_model.specs.Tables.{AccountRow, BrokerRow, HoldingRow, SummaryRow, account_row, broker_row, holding_row, summary_rows, tables_of_base_in_schema, trade_row}
use Rattle.brk_trade_books.specs.Books.{HasDistinctAccountIds, BooksInvariant}
use Rattle.brk_trade_books.specs.Sums.{TableSumsMatchTheirRows, BalanceMatchesCashRows, BrokerTotalsMatchTrades, SummaryMatchesLots, LotHasSummary}
use Rattle.brk_trade_books.specs.Sums.{lot_row_quantity_sum_of_position, is_lot_of_position}
use Rattle.brk_trade_books.specs.TradeReads.{holding_rows_of_position, lots_of_position, lot_of_row}
use Rattle.brk_trade_books.proofs.Bools.{numbers_back}
use Rattle.brk_trade_books.proofs.Holding.{total_is}
use Rattle.brk_trade_books.proofs.LotLives.{lots_live_on}
use Rattle.brk_trade_books.proofs.LotOrder.{position_read}
use Rattle.brk_trade_books.proofs.LotReading.{All-sort, holdings_in_order, is_left}
use Rattle.brk_trade_books.proofs.NewKeys.{and_both, same_bytes}
use Rattle.brk_trade_books.proofs.Same.{All-append, All-filter, All-map, All-mapped, All-of}
use Rattle.brk_trade_books.proofs.SumReading.{broker_trades, cash_moves, length-map, sum-map, total-map}
use Rattle.brk_trade_books.proofs.Summaries.{all_summaries, reads_summary_row}
use Rattle.brk_trade_books.proofs.Volumes.{All-both}
use Rattle.brk_trade_books.proofs.Worth.{total-sorted}

-- ---- brokers

broker_adds : (base : Base) → BooksInvariant base → (b : Broker) → BrokerTotalsMatchTrades (sheets base) (broker_row base.accounts (completed_trades base) b)
unfolding trade_count_of_broker commission_total_of_broker
broker_adds base books b = record {
  trades = ap pos (sym (ap length (broker_trades base b.id books) ∙ length-map trade_row (trades_of_broker base.accounts (completed_trades base) b.id)));
  commissions = sym (ap (sum_by (λ t. t.commission)) (broker_trades base b.id books) ∙ sum-map (λ t. t.commission) trade_row (trades_of_broker base.accounts (completed_trades base) b.id));
}

brokers_are : (base : Base) → (sheets base).brokers ≡ sort_by (is_row_key_less broker_key) (map (broker_row base.accounts (completed_trades base)) base.brokers)
unfolding tables_of_base_in_schema tables_sorted_by_key
brokers_are base = refl

brokers_add : (base : Base) → BooksInvariant base → AllByRecursion (BrokerTotalsMatchTrades (sheets base)) (sheets base).brokers
brokers_add base books =
    let rows : List BrokerRow = map (broker_row base.accounts (completed_trades base)) base.brokers in
    subst (AllByRecursion (BrokerTotalsMatchTrades (sheets base))) (sym (brokers_are base))
    (All-sort (BrokerTotalsMatchTrades (sheets base)) (is_row_key_less broker_key) rows
    (All-mapped (BrokerTotalsMatchTrades (sheets base)) (broker_row base.accounts (completed_trades base)) base.brokers (All-of base.brokers (broker_adds base books))))

-- ---- balances

-- each account is found by its id
accounts_found : (accounts : List Account) → HasDistinctAccountIds accounts → AllByRecursion (λ a. find (λ b. b.id == a.id) accounts ≡ Some a) accounts
accounts_found [] d = tt
accounts_found (a ∷ accounts) d = (
  ap (λ b. cond b (Some a) (find (λ b. b.id == a.id) accounts)) (eq-eqb a.id a.id refl),
  behind accounts d.0 (accounts_found accounts d.1),
)
  where
    behind : (bs : List Account) → AllByRecursion (λ b. (b.id == a.id) ≡ false) bs → AllByRecursion (λ b. find (λ c. c.id == b.id) accounts ≡ Some b) bs
        → AllByRecursion (λ b. find (λ c. c.id == b.id) (a ∷ accounts) ≡ Some b) bs
    behind [] h k = tt
    behind (b ∷ bs) h k = (ap (λ x. cond x (Some a) (find (λ c. c.id == b.id) accounts)) (numbers_back a.id b.id ∙ h.0) ∙ k.0, behind bs h.1 k.1)

balance_adds : (base : Base) → BooksInvariant base → (a : Account) → account_with_id base a.id ≡ Some a → BalanceMatchesCashRows (sheets base) (account_row base.accounts (postings_of_base base) a)
unfolding balance_of_account
balance_adds base books a e = λ i. option_map_or (λ a. a.opening) (e i) (pos 0) +ℤ sym (cash_moves base a.id) i

accounts_are : (base : Base) → (sheets base).accounts ≡ sort_by (is_row_key_less account_key) (map (account_row base.accounts (postings_of_base base)) base.accounts)
unfolding tables_of_base_in_schema tables_sorted_by_key
accounts_are base = refl

balances_add : (base : Base) → BooksInvariant base → AllByRecursion (BalanceMatchesCashRows (sheets base)) (sheets base).accounts
balances_add base books =
    let rows : List AccountRow = map (account_row base.accounts (postings_of_base base)) base.accounts in
    subst (AllByRecursion (BalanceMatchesCashRows (sheets base))) (sym (accounts_are base))
    (All-sort (BalanceMatchesCashRows (sheets base)) (is_row_key_less account_key) rows
    (All-mapped (BalanceMatchesCashRows (sheets base)) (account_row base.accounts (postings_of_base base)) base.accounts
    (All-map base.accounts (balance_adds base books) (accounts_found base.accounts books.owners))))

-- ---- what is held

lots_held : (base : Base) (account : ℕ) (symbol : Text) → lot_quantity_sum (lots_of_position (sheets base) account symbol) ≡ lot_row_quantity_sum_of_position (sheets base) account symbol
lots_held base account symbol =
    let own : List HoldingRow = filter (is_lot_of_position account symbol) (sheets base).holdings in
    total-map (λ l. l.qty) lot_of_row (holding_rows_of_position (sheets base) account symbol)
    ∙ total-sorted (λ r. number r.stamp ∷ number r.trade ∷ []) (λ h. h.qty) own

pub held_is : (base : Base) (account : ℕ) (symbol : Text) → BooksInvariant base
    → lot_row_quantity_sum_of_position (sheets base) account symbol ≡ holding_summary_quantity (completed_trades base) account symbol
held_is base account symbol books =
    sym (lots_held base account symbol) ∙ total_is base account symbol books

-- ---- summaries

not_zero : (q : ℤ) → is_zero q ≡ false → q ≢ pos 0
not_zero q e k = let h : true ≡ false = sym (ap is_zero k) ∙ e in absurd (cc)

summary_adds : (base : Base) → BooksInvariant base → (account : ℕ) (symbol : Text) → AllByRecursion (SummaryMatchesLots (sheets base)) (summary_rows (completed_trades base) account symbol)
summary_adds base books account symbol = by_test (is_zero (holding_summary_quantity (completed_trades base) account symbol)) refl
  where
    row : SummaryRow
    row = record { account = account; symbol = symbol; qty = holding_summary_quantity (completed_trades base) account symbol }

    by_test : (b : Bool) → is_zero (holding_summary_quantity (completed_trades base) account symbol) ≡ b → AllByRecursion (SummaryMatchesLots (sheets base)) (cond (not b) (row ∷ []) [])
    by_test true e = tt
    by_test false e = (record { sum = sym (held_is base account symbol books); some = not_zero (holding_summary_quantity (completed_trades base) account symbol) e }, tt)

All-flat : {X Y : Type 0} (P : Y → Type 0) (f : X → List Y) (xs : List X) → ((x : X) → AllByRecursion P (f x)) → AllByRecursion P (flat_map f xs)
All-flat P f [] h = tt
All-flat P f (x ∷ xs) h = All-append P (f x) (flat_map f xs) (h x) (All-flat P f xs h)

summaries_are : (base : Base) → (sheets base).summaries ≡ sort_by (is_row_key_less summary_key) (all_summaries base (completed_trades base))
unfolding tables_of_base_in_schema tables_sorted_by_key
summaries_are base = refl

summaries_add : (base : Base) → BooksInvariant base → AllByRecursion (SummaryMatchesLots (sheets base)) (sheets base).summaries
summaries_add base books =
    let P : SummaryRow → Type 0 = SummaryMatchesLots (sheets base) in
    subst (AllByRecursion P) (sym (summaries_are base))
    (All-sort P (is_row_key_less summary_key) (all_summaries base (completed_trades base))
    (All-flat P _ base.accounts (λ a. All-flat P _ base.securities (λ s. summary_adds base books a.id s.symbol))))

-- ---- lots of one side add up to something

bought : (ls : List Lot) → AllByRecursion (λ m. side_of_qty m.qty ≡ Buy) ls → (n : ℕ) × (lot_quantity_sum ls ≡ pos n)
unfolding total_by
bought [] h = (0, refl)
bought (m ∷ ls) h = by_qty m.qty refl (bought ls h.1)
  where
    by_qty : (q : ℤ) → m.qty ≡ q → (n : ℕ) × (lot_quantity_sum ls ≡ pos n) → (n : ℕ) × (m.qty +ℤ lot_quantity_sum ls ≡ pos n)
    by_qty (pos k) e r = (k + r.0, let t = r.1 in omega (arith, ints, e, t))
    by_qty (negsuc k) e r = let j : Sell ≡ Buy = sym (ap side_of_qty e) ∙ h.0 in absurd (cc)

sold : (ls : List Lot) → AllByRecursion (λ m. side_of_qty m.qty ≡ Sell) ls → (n : ℕ) × (lot_quantity_sum ls ≡ neg_ℤ (pos n))
unfolding total_by
sold [] h = (0, refl)
sold (m ∷ ls) h = by_qty m.qty refl (sold ls h.1)
  where
    by_qty : (q : ℤ) → m.qty ≡ q → (n : ℕ) × (lot_quantity_sum ls ≡ neg_ℤ (pos n)) → (n : ℕ) × (m.qty +ℤ lot_quantity_sum ls ≡ neg_ℤ (pos n))
    by_qty (pos k) e r = let j : Buy ≡ Sell = sym (ap side_of_qty e) ∙ h.0 in absurd (cc)
    by_qty (negsuc k) e r = (suc k + r.0, let t = r.1 in omega (arith, ints, e, t))

no_lots : (ls : List Lot) → IsPosition ls → lot_quantity_sum ls ≡ pos 0 → ls ≡ []
unfolding total_by
no_lots [] p e = refl
no_lots (l ∷ ls) p e = by_qty l.qty refl
  where
    by_qty : (q : ℤ) → l.qty ≡ q → l ∷ ls ≡ []
    by_qty (pos zero) k = absurd (p.0 k)
    by_qty (pos (suc n)) k =
        let r = bought ls (All-map ls (λ m h. h.0.0 ∙ ap side_of_qty k) p.1) in
        let t = r.1 in
        absurd (omega (arith, ints, k, t, e))
    by_qty (negsuc n) k =
        let r = sold ls (All-map ls (λ m h. h.0.0 ∙ ap side_of_qty k) p.1) in
        let t = r.1 in
        absurd (omega (arith, ints, k, t, e))

-- ---- no lots are without a summary

none_mapped : {X Y : Type 0} (f : X → Y) (xs : List X) → map f xs ≡ [] → xs ≡ []
none_mapped f [] e = refl
none_mapped f (x ∷ xs) e = absurd (cc)

some_inserted : {X : Type 0} (before : X → X → Bool) (x : X) (ys : List X) → insert_by before x ys ≡ [] → ⊥
some_inserted before x [] e = absurd (cc)
some_inserted {X = X} before x (y ∷ ys) e = by_test (before y x) e
  where
    by_test : (b : Bool) → cond b (y ∷ insert_by before x ys) (x ∷ y ∷ ys) ≡ [] → ⊥
    by_test true e = absurd (cc)
    by_test false e = absurd (cc)

none_sorted : {X : Type 0} (before : X → X → Bool) (xs : List X) → sort_by before xs ≡ [] → xs ≡ []
unfolding sort_by
none_sorted before [] e = refl
none_sorted before (x ∷ xs) e = absurd (some_inserted before x (sort_by before xs) e)

-- an element that passes a test of its own is left where the others are tested
each_left : {X : Type 0} (p : X → X → Bool) → ((x : X) → p x x ≡ true) → (xs : List X) → AllByRecursion (λ x. filter (p x) xs ≡ [] → ⊥) xs
each_left p own [] = tt
each_left {X = X} p own (x ∷ xs) = (
  (λ e. let k : x ∷ filter (p x) xs ≡ [] = sym (ap (λ b. cond b (x ∷ filter (p x) xs) (filter (p x) xs)) (own x)) ∙ e in absurd (cc)),
  All-map xs behind (each_left p own xs),
)
  where
    behind : (y : X) → (filter (p y) xs ≡ [] → ⊥) → filter (p y) (x ∷ xs) ≡ [] → ⊥
    behind y h e = by_test (p y x) e
      where
        by_test : (b : Bool) → cond b (x ∷ filter (p y) xs) (filter (p y) xs) ≡ [] → ⊥
        by_test true e = absurd (cc)
        by_test false e = h e

of_itself : (h : HoldingRow) → is_lot_of_position h.account h.symbol h ≡ true
of_itself h = and_both (h.account == h.account) (bytes_eq h.symbol h.symbol) (eq-eqb h.account h.account refl) (same_bytes h.symbol h.symbol refl)

-- the account and the security of a lot are there
abbrev IsKnown : Base → HoldingRow → Type 0
IsKnown base h = (is_some (account_with_id base h.account) ≡ true) × (is_some (security_with_symbol base h.symbol) ≡ true)

lots_known : (base : Base) → BooksInvariant base → AllByRecursion (IsKnown base) (sheets base).holdings
lots_known base books =
    subst (AllByRecursion (IsKnown base)) (sym (holdings_in_order base books.numbered))
    (All-filter (IsKnown base) is_left (map (holding_row (completed_trades base)) (completed_trades base))
    (All-mapped (IsKnown base) (holding_row (completed_trades base)) (completed_trades base)
    (All-filter (λ t. AccountOfTradeExists base t × SecurityOfTradeExists base t) is_completed base.trades
    (All-both (AccountOfTradeExists base) (SecurityOfTradeExists base) base.trades books.accounts books.securities))))

nothing_held : (base : Base) (account : ℕ) (symbol : Text) → BooksInvariant base → lot_row_quantity_sum_of_position (sheets base) account symbol ≡ pos 0
    → filter (is_lot_of_position account symbol) (sheets base).holdings ≡ []
nothing_held base account symbol books e =
    let position : lots_of_position (sheets base) account symbol ≡ [] =
    no_lots (lots_of_position (sheets base) account symbol) (position_read base account symbol books) (lots_held base account symbol ∙ e) in
    none_sorted _ (filter (is_lot_of_position account symbol) (sheets base).holdings) (none_mapped lot_of_row (holding_rows_of_position (sheets base) account symbol) position)

zero_is : (q : ℤ) → is_zero q ≡ true → q ≡ pos 0
zero_is (pos zero) e = refl
zero_is (pos (suc n)) e = absurd (cc)
zero_is (negsuc n) e = absurd (cc)

lot_summed : (base : Base) → BooksInvariant base → (h : HoldingRow) → IsKnown base h × (filter (is_lot_of_position h.account h.symbol) (sheets base).holdings ≡ [] → ⊥) → LotHasSummary (sheets base) h
lot_summed base books h k = by_test (is_zero (holding_summary_quantity (completed_trades base) h.account h.symbol)) refl
  where
    by_test : (b : Bool) → is_zero (holding_summary_quantity (completed_trades base) h.account h.symbol) ≡ b → LotHasSummary (sheets base) h
    by_test true e =
        absurd (k.1 (nothing_held base h.account h.symbol books
        (held_is base h.account h.symbol books ∙ zero_is (holding_summary_quantity (completed_trades base) h.account h.symbol) e)))
    by_test false e =
        ap is_some (reads_summary_row base h.account h.symbol books k.0.0 k.0.1)
        ∙ ap (λ b. is_some (cond b None
        (Some (let row : SummaryRow =
        record { account = h.account; symbol = h.symbol; qty = holding_summary_quantity (completed_trades base) h.account h.symbol } in row)))) e

all_summed : (base : Base) → BooksInvariant base → AllByRecursion (LotHasSummary (sheets base)) (sheets base).holdings
all_summed base books =
    let rows : List HoldingRow = (sheets base).holdings in
    All-map rows (lot_summed base books)
    (All-both (IsKnown base) (λ h. filter (is_lot_of_position h.account h.symbol) (sheets base).holdings ≡ [] → ⊥) rows (lots_known base books)
    (each_left (λ h. is_lot_of_position h.account h.symbol) of_itself rows))

-- ---- all of it

pub sums_add_up : (base : Base) → BooksInvariant base → TableSumsMatchTheirRows (sheets base)
sums_add_up base books = record {
  brokers = brokers_add base books;
  balances = balances_add base books;
  summaries = summaries_add base books;
  summed = all_summed base books;
  positions = λ account symbol. position_read base account symbol books;
  lot_histories = lots_live_on base books;
}
