-- A walk passes the rows of the definitions, in their order.
use Rattle.std.proofs.Common.{◌≡◌, ℕ, ◌==◌, Bool, true, false, not, ◌&&◌, ◌||◌, cond, List, [], ◌∷◌, refl, sym, ap, subst, ◌∙◌, filter, pos, Ordering, Less, Equal, int_cmp, arith, inl, inr, Result}
use Rattle.std.specs.Prelude.{⊤, bytes_eq, nat_le, nat_lt}
use Rattle.std.specs.List.{AllByRecursion}
use Rattle.std.specs.Ordering.{ordering_then}
use Rattle.std.specs.Cmp.Lexicographic.{slice_cmp}
use Rattle.std.proofs.lemmas.Bool.{cases_Bool, eqb-true}
use Rattle.std.proofs.lemmas.Bool.Decides.{nat_tests}
use Rattle.std.proofs.lemmas.Cmp.{tied_itself}
use Rattle.std.proofs.lemmas.Slice.Eq.{bytes_eq-Decides}
use Rattle.sqlite_value.specs.declared.value.Value.TheVariants.{Int}
use Rattle.sqlite_value.specs.Order.{value_cmp}
use Rattle.sqlite_value.proofs.OrderLemmas.{value_cmp-Int, value_cmp_total}
use Rattle.sqlite_trees.specs.declared.store.Store.{Ghosts}
use Rattle.sqlite.specs.Effect.{Database}
use Rattle.sqlite.specs.Held.{Held, state}
use Rattle.brk_ref.specs.Rows.{abstract_holding_row, abstract_cash_row, abstract_trade_row}
use Rattle.brk_ref.specs.declared.cash_row.CashRow as row
use Rattle.brk_ref.specs.declared.holding_row.HoldingRow as holding
use Rattle.brk_ref.specs.declared.trade_row.TradeRow as trade
use Rattle.brk_model.specs.Keys.{word, rows_sorted_by_key, is_row_key_less}
use Rattle.brk_model.specs.Joins.{trade_rows_oldest_first}
use Rattle.brk_model.specs.Lists.{insert_by, is_pair_less, sort_by, sort_by_key, is_text_less}
use Rattle.brk_model.specs.Records.{CustomerTax}
use Rattle.brk_model.specs.Statement.{holding_rows_of_account}
use Rattle.brk_model.specs.Tables.{AccountRow, HoldingHistoryRow, HoldingRow, CashRow, Tables, TradeRow}
use Rattle.brk_money.specs.Kinds.{is_same_trade_status}
use Rattle.brk_money.specs.declared.status.Status.TheVariants.{Completed}
use Rattle.brk_tables_sql.specs.Rows.{IsStrictlyAscending}
use Rattle.brk_tables_schema.specs.Desk.{Accounts, CashMoves, CustomerTaxes, HoldingHistory, Holdings, Trades, ordering_by_primary_key}
use Rattle.brk_tables_schema.specs.Made.{HasDeskTables}
use Rattle.brk_trade_books.proofs.Bools.{same_text, texts_back}
use Rattle.brk_trade_books.proofs.LotReading.{All-sort}
use Rattle.brk_trade_books.proofs.Order.{by_key-filter, key_total, nat_one_way, nat_splits, sort_filter}
use Rattle.brk_tables_views.specs.Lists.{account_cash_rows_between, completed_trades_by_stamp_and_id, account_lots_by_symbol, cash_sort_key, lot_sort_key, stamp_and_id_key}
use Rattle.brk_tables_views.specs.Walks.{TableWalkPost}
use Rattle.brk_tables_views.specs.declared.walking.WalkError.{WalkError}
use Rattle.brk_store.specs.Walked.{WalkPost, cash_rows_in_span, completed_trades_by_stamp}
use Rattle.brk_store.proofs.Walking.{is_walked}

-- ---- rows that stand by a number need no more of it in their order

-- The numbers `n` of the elements are strictly ascending.
abbrev pub IsStrictlyAscendingBy : {X : Type 0} → (X → ℕ) → List X → Type 0
IsStrictlyAscendingBy n [] = ⊤
IsStrictlyAscendingBy n (x ∷ xs) = AllByRecursion (λ y. nat_lt (n x) (n y) ≡ true) xs × IsStrictlyAscendingBy n xs

All-of : {X : Type 0} (P Q : X → Type 0) (xs : List X) → ((x : X) → P x → Q x) → AllByRecursion P xs → AllByRecursion Q xs
All-of P Q [] f h = tt
All-of P Q (x ∷ xs) f h = (f x h.0, All-of P Q xs f h.1)

climb_filter : {X : Type 0} (n : X → ℕ) (p : X → Bool) (xs : List X) → IsStrictlyAscendingBy n xs → IsStrictlyAscendingBy n (filter p xs)
climb_filter n p [] h = tt
climb_filter n p (x ∷ xs) h =
    elim (p x) as (λ b. IsStrictlyAscendingBy n (cond b (x ∷ filter p xs) (filter p xs))) [ true ↦ (All-kept xs h.0, climb_filter n p xs h.1) | false ↦ climb_filter n p xs h.1 ]
  where
    All-kept : (ys : List _) → AllByRecursion (λ y. nat_lt (n x) (n y) ≡ true) ys → AllByRecursion (λ y. nat_lt (n x) (n y) ≡ true) (filter p ys)
    All-kept [] k = tt
    All-kept (y ∷ ys) k = elim (p y) as (λ b. AllByRecursion (λ y. nat_lt (n x) (n y) ≡ true) (cond b (y ∷ filter p ys) (filter p ys))) [ true ↦ (k.0, All-kept ys k.1) | false ↦ All-kept ys k.1 ]

insert_same : {X : Type 0} (b c : X → X → Bool) (x : X) (ys : List X) → AllByRecursion (λ y. b y x ≡ c y x) ys → insert_by b x ys ≡ insert_by c x ys
insert_same b c x [] h = refl
insert_same b c x (y ∷ ys) h = λ i. cond (h.0 i) (y ∷ insert_same b c x ys h.1 i) (x ∷ y ∷ ys)

-- two orders that differ only in that number sort them alike
sort_same : {X : Type 0} (n : X → ℕ) (b c : X → X → Bool) (xs : List X) → ((x y : X) → nat_lt (n x) (n y) ≡ true → b y x ≡ c y x) → IsStrictlyAscendingBy n xs → sort_by b xs ≡ sort_by c xs
unfolding sort_by
sort_same n b c [] same h = refl
sort_same n b c (x ∷ xs) same h =
    insert_same b c x (sort_by b xs) (All-of (λ y. nat_lt (n x) (n y) ≡ true) (λ y. b y x ≡ c y x) (sort_by b xs) (λ y k. same x y k) (All-sort (λ y. nat_lt (n x) (n y) ≡ true) b xs h.0))
    ∙ ap (insert_by c x) (sort_same n b c xs same h.1)

-- ---- texts

alone : (a b : Bool) → a || (not b && false) ≡ a
alone true b = refl
alone false true = refl
alone false false = refl

text_self : (s : List ℕ) → is_text_less s s ≡ false
text_self [] = refl
text_self (x ∷ s) = self (nat_lt x x) (is_text_less s s) (grind (arith, nat_tests)) (text_self s)
  where
    self : (a b : Bool) → a ≡ false → b ≡ false → a || (not a && b) ≡ false
    self a b g h = rw (g, h) refl

text_total : (s t : List ℕ) → is_text_less s t ≡ false → is_text_less t s ≡ false → s ≡ t
text_total s t g h =
    let e : word s ∷ [] ≡ word t ∷ [] = key_total (word s ∷ []) (word t ∷ []) (alone (is_text_less s t) (is_text_less t s) ∙ g) (alone (is_text_less t s) (is_text_less s t) ∙ h) in cc

-- ---- lots

lots_tie : (a b e l m p q : Bool) → (a ≡ false → b ≡ false → e ≡ true) → (a ≡ true → e ≡ false) → (b ≡ true → e ≡ false) → p ≡ false
    → a || (not b && (l || (not m && (p || (not q && false))))) ≡ a || (e && l)
lots_tie true b e l m p q f g h k = refl
lots_tie false true e l m p q f g h k = rw (h refl) refl
lots_tie false false e true m p q f g h k = rw (f refl refl) refl
lots_tie false false e false true p q f g h k = rw (f refl refl) refl
lots_tie false false e false false p q f g h k = rw (f refl refl, k) (alone false q)

unlike : (s t : List ℕ) → is_text_less s t ≡ true → bytes_eq s t ≡ false
unlike s t a = go (bytes_eq s t) refl
  where
    go : (b : Bool) → bytes_eq s t ≡ b → bytes_eq s t ≡ false
    go false e = e
    go true e = let same : s ≡ t = same_text s t e in let none : is_text_less s t ≡ false = subst (λ x. is_text_less s x ≡ false) same (text_self s) in
        absurd (let f : true ≡ false = sym a ∙ none in cc)

not_above : (m n : ℕ) → nat_lt m n ≡ true → nat_lt n m ≡ false
not_above m n h = grind (arith, nat_tests)

pub lots_same : (account : ℕ) (t : Tables) → IsStrictlyAscendingBy (λ r. r.trade) t.holdings → account_lots_by_symbol account t ≡ holding_rows_of_account t account
lots_same account t climb =
    sort_same (λ (r : HoldingRow). r.trade) (is_row_key_less lot_sort_key) (λ a b. is_text_less a.symbol b.symbol || (bytes_eq a.symbol b.symbol && nat_lt a.stamp b.stamp))
    (filter (λ (r : HoldingRow). r.account == account) t.holdings)
    (λ x y k. lots_tie (is_text_less y.symbol x.symbol) (is_text_less x.symbol y.symbol) (bytes_eq y.symbol x.symbol) (nat_lt y.stamp x.stamp)
    (nat_lt x.stamp y.stamp) (nat_lt y.trade x.trade) (nat_lt x.trade y.trade)
    (λ a b. (bytes_eq-Decides y.symbol x.symbol).1 (text_total y.symbol x.symbol a b)) (unlike y.symbol x.symbol)
    (λ b. texts_back y.symbol x.symbol ∙ unlike x.symbol y.symbol b) (not_above x.trade y.trade k))
    (climb_filter (λ (r : HoldingRow). r.trade) (λ (r : HoldingRow). r.account == account) t.holdings climb)

-- ---- cash

filter_both : {X : Type 0} (p q : X → Bool) (xs : List X) → filter (λ x. p x && q x) xs ≡ filter q (filter p xs)
filter_both p q [] = refl
filter_both p q (x ∷ xs) = go (filter_both p q xs) (p x) (q x) refl refl
  where
    go : filter (λ x. p x && q x) xs ≡ filter q (filter p xs) → (a b : Bool) → p x ≡ a → q x ≡ b → filter (λ x. p x && q x) (x ∷ xs) ≡ filter q (filter p (x ∷ xs))
    go more true true e f = rw (e, f) (ap (λ l. x ∷ l) more)
    go more true false e f = rw (e, f) more
    go more false b e f = rw e more

cash_tie : (a b p q : Bool) → p ≡ false → a || (not b && (p || (not q && false))) ≡ a
cash_tie true b p q k = refl
cash_tie false true p q k = refl
cash_tie false false p q k = rw k (alone false q)

pub cash_same : (account from to : ℕ) (t : Tables) → IsStrictlyAscendingBy (λ r. r.id) t.moves → account_cash_rows_between account from to t ≡ cash_rows_in_span account from to t
cash_same account from to t climb =
    let mine = λ (r : CashRow). r.account == account in
    let within = λ (r : CashRow). nat_le from r.stamp && nat_le r.stamp to in
    ap (rows_sorted_by_key cash_sort_key) (filter_both mine within t.moves)
    ∙ by_key-filter cash_sort_key within (filter mine t.moves)
    ∙ ap (filter within) (sort_same (λ (r : CashRow). r.id) (is_row_key_less cash_sort_key) (λ a b. nat_lt a.stamp b.stamp) (filter mine t.moves)
    (λ x y k. cash_tie (nat_lt y.stamp x.stamp) (nat_lt x.stamp y.stamp) (nat_lt y.id x.id) (nat_lt x.id y.id) (not_above x.id y.id k))
    (climb_filter (λ (r : CashRow). r.id) mine t.moves climb))

-- ---- completed trades

pub completed_same : (t : Tables) → IsStrictlyAscendingBy (λ r. r.id) t.trades → completed_trades_by_stamp_and_id t ≡ completed_trades_by_stamp t
completed_same t climb =
    let done = λ (r : TradeRow). is_same_trade_status r.status Completed in
    sort_same (λ (r : TradeRow). r.id) (is_row_key_less stamp_and_id_key) (λ a b. nat_lt a.stamp b.stamp) (filter done t.trades)
    (λ x y k. cash_tie (nat_lt y.stamp x.stamp) (nat_lt x.stamp y.stamp) (nat_lt y.id x.id) (nat_lt x.id y.id) (not_above x.id y.id k))
    (climb_filter (λ (r : TradeRow). r.id) done t.trades climb)

-- the first stamp decides, as numbers climb
old_tie : (a e p : Bool) → p ≡ false → a || (e && p) ≡ a
old_tie true e p k = refl
old_tie false true p k = k
old_tie false false p k = refl

pub oldest_same : (q : TradeRow → Bool) (t : Tables) → IsStrictlyAscendingBy (λ r. r.id) t.trades
    → trade_rows_oldest_first (filter q t.trades) ≡ sort_by_key (λ (r : TradeRow). r.stamp) (filter q t.trades)
oldest_same q t climb =
    sort_same (λ (r : TradeRow). r.id) (λ a b. is_pair_less a.stamp b.stamp a.id b.id) (λ a b. nat_lt a.stamp b.stamp) (filter q t.trades)
    (λ x y k. old_tie (nat_lt y.stamp x.stamp) (y.stamp == x.stamp) (nat_lt y.id x.id) (not_above x.id y.id k))
    (climb_filter (λ (r : TradeRow). r.id) q t.trades climb)

-- completed trades that pass a test
pub completed_filter : (q : TradeRow → Bool) (t : Tables)
    → filter q (completed_trades_by_stamp t) ≡ sort_by_key (λ (r : TradeRow). r.stamp) (filter (λ r. is_same_trade_status r.status Completed && q r) t.trades)
completed_filter q t =
    let done = λ (r : TradeRow). is_same_trade_status r.status Completed in
    sym (sort_filter (λ (a b : TradeRow). nat_lt a.stamp b.stamp) q (filter done t.trades) (λ x y z. nat_splits x.stamp y.stamp z.stamp) (λ x y. nat_one_way x.stamp y.stamp))
    ∙ ap (sort_by_key (λ (r : TradeRow). r.stamp)) (sym (filter_both done q t.trades))

-- ---- tables of a database climb

less_number : (m n : ℕ) → slice_cmp value_cmp (Int (pos m) ∷ []) (Int (pos n) ∷ []) ≡ Less → nat_lt m n ≡ true
less_number m n h = go (nat_lt m n) refl
  where
    go : (b : Bool) → nat_lt m n ≡ b → nat_lt m n ≡ true
    go true e = e
    go false e =
        let k : ordering_then (int_cmp (pos m) (pos n)) Equal ≡ Less = rw (value_cmp-Int (pos m) (pos n)) at h in
        elim (cases_Bool (nat_lt n m)) [ inl b ↦ absurd (let f = rw (e, b) at k in cc) | inr b ↦ absurd (let f = rw (e, b) at k in cc) ]

climbs : {X : Type 0} (n : X → ℕ) (order : X → X → Ordering) → ((x y : X) → order x y ≡ Less → nat_lt (n x) (n y) ≡ true) → (xs : List X) → IsStrictlyAscending order xs → IsStrictlyAscendingBy n xs
climbs n order less [] h = tt
climbs n order less (x ∷ xs) h = (All-of (λ y. order x y ≡ Less) (λ y. nat_lt (n x) (n y) ≡ true) xs (λ y k. less x y k) h.0, climbs n order less xs h.1)

pub holdings_climb : (t : Tables) (db : Database) → HasDeskTables t db → IsStrictlyAscendingBy (λ r. r.trade) t.holdings
holdings_climb t db has = climbs (λ (r : HoldingRow). r.trade) (ordering_by_primary_key Holdings) (λ x y k. less_number x.trade y.trade k) t.holdings (has.1.rows Holdings).rising

pub moves_climb : (t : Tables) (db : Database) → HasDeskTables t db → IsStrictlyAscendingBy (λ r. r.id) t.moves
moves_climb t db has = climbs (λ (r : CashRow). r.id) (ordering_by_primary_key CashMoves) (λ x y k. less_number x.id y.id k) t.moves (has.1.rows CashMoves).rising

pub trades_climb : (t : Tables) (db : Database) → HasDeskTables t db → IsStrictlyAscendingBy (λ r. r.id) t.trades
trades_climb t db has = climbs (λ (r : TradeRow). r.id) (ordering_by_primary_key Trades) (λ x y k. less_number x.id y.id k) t.trades (has.1.rows Trades).rising

pub accounts_climb : (t : Tables) (db : Database) → HasDeskTables t db → IsStrictlyAscendingBy (λ r. r.id) t.accounts
accounts_climb t db has = climbs (λ (r : AccountRow). r.id) (ordering_by_primary_key Accounts) (λ x y k. less_number x.id y.id k) t.accounts (has.1.rows Accounts).rising

-- rows that pass a test climb by a number, if a key of them is less only where the number is
module _ {X : Type 0} (n : X → ℕ) (p : X → Bool) (order : X → X → Ordering) (less : (x y : X) → p x ≡ true → p y ≡ true → order x y ≡ Less → nat_lt (n x) (n y) ≡ true) where
  later : (x : X) → p x ≡ true → (ys : List X) → AllByRecursion (λ y. order x y ≡ Less) ys → AllByRecursion (λ y. nat_lt (n x) (n y) ≡ true) (filter p ys)
  later x e [] h = tt
  later x e (y ∷ ys) h = go (p y) refl (later x e ys h.1)
    where
      go : (b : Bool) → p y ≡ b → AllByRecursion (λ y. nat_lt (n x) (n y) ≡ true) (filter p ys) → AllByRecursion (λ y. nat_lt (n x) (n y) ≡ true) (cond b (y ∷ filter p ys) (filter p ys))
      go true q more = (less x y e q h.0, more)
      go false q more = more

  climbs_filtered : (xs : List X) → IsStrictlyAscending order xs → IsStrictlyAscendingBy n (filter p xs)
  climbs_filtered [] h = tt
  climbs_filtered (x ∷ xs) h = go (p x) refl (climbs_filtered xs h.1)
    where
      go : (b : Bool) → p x ≡ b → IsStrictlyAscendingBy n (filter p xs) → IsStrictlyAscendingBy n (cond b (x ∷ filter p xs) (filter p xs))
      go true e more = (later x e xs h.0, more)
      go false e more = more

tied : (a b c : ℕ) → (a == c) ≡ true → (b == c) ≡ true → value_cmp (Int (pos a)) (Int (pos b)) ≡ Equal
tied a b c p q = rw (eqb-true a c p, eqb-true b c q) (tied_itself value_cmp_total (Int (pos c)))

pub changes_climb : (trade : ℕ) (t : Tables) (db : Database) → HasDeskTables t db → IsStrictlyAscendingBy (λ r. r.lot) (filter (λ (r : HoldingHistoryRow). r.trade == trade) t.holding_history)
changes_climb trade t db has =
    climbs_filtered (λ (r : HoldingHistoryRow). r.lot) (λ r. r.trade == trade) (ordering_by_primary_key HoldingHistory) (λ x y p q k. less_number x.lot y.lot (rw (tied x.trade y.trade trade p q) at k)) t.holding_history (has.1.rows HoldingHistory).rising

pub customer_taxes_climb : (customer : ℕ) (t : Tables) (db : Database) → HasDeskTables t db → IsStrictlyAscendingBy (λ r. r.tax) (filter (λ (r : CustomerTax). r.customer == customer) t.customer_taxes)
customer_taxes_climb customer t db has =
    climbs_filtered (λ (r : CustomerTax). r.tax) (λ r. r.customer == customer) (ordering_by_primary_key CustomerTaxes) (λ x y p q k. less_number x.tax y.tax (rw (tied x.customer y.customer customer p q) at k)) t.customer_taxes (has.1.rows CustomerTaxes).rising

-- ---- walks of a store

pub lots_walked : {S V E : Type 0} (g : Ghosts S) (old new : Held S) (account : ℕ) (takes : V → holding.HoldingRow → V → Type 0)
    (stops : V → holding.HoldingRow → E → V → Type 0) (before after : V) (result : Result (Unit {0}) (WalkError E))
    → TableWalkPost g old new abstract_holding_row (account_lots_by_symbol account) takes stops before after result
    → WalkPost g old new abstract_holding_row (λ t. holding_rows_of_account t account) takes stops before after result
lots_walked g old new account takes stops before after result w =
    is_walked g old new abstract_holding_row (account_lots_by_symbol account) (λ t. holding_rows_of_account t account) takes stops before after
    (λ t has. lots_same account t (holdings_climb t (state g old).now has)) result w

pub cash_walked : {S V E : Type 0} (g : Ghosts S) (old new : Held S) (account from to : ℕ) (takes : V → row.CashRow → V → Type 0)
    (stops : V → row.CashRow → E → V → Type 0) (before after : V) (result : Result (Unit {0}) (WalkError E))
    → TableWalkPost g old new abstract_cash_row (account_cash_rows_between account from to) takes stops before after result
    → WalkPost g old new abstract_cash_row (cash_rows_in_span account from to) takes stops before after result
cash_walked g old new account from to takes stops before after result w =
    is_walked g old new abstract_cash_row (account_cash_rows_between account from to) (cash_rows_in_span account from to) takes stops before after
    (λ t has. cash_same account from to t (moves_climb t (state g old).now has)) result w

pub completed_walked : {S V E : Type 0} (g : Ghosts S) (old new : Held S) (takes : V → trade.TradeRow → V → Type 0)
    (stops : V → trade.TradeRow → E → V → Type 0) (before after : V) (result : Result (Unit {0}) (WalkError E))
    → TableWalkPost g old new abstract_trade_row completed_trades_by_stamp_and_id takes stops before after result
    → WalkPost g old new abstract_trade_row completed_trades_by_stamp takes stops before after result
completed_walked g old new takes stops before after result w =
    is_walked g old new abstract_trade_row completed_trades_by_stamp_and_id completed_trades_by_stamp takes stops before after
    (λ t has. completed_same t (trades_climb t (state g old).now has)) result w
