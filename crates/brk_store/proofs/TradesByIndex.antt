-- A read by the index returns the trades, accounts and lot changes of the tables.
use Rattle.std.proofs.Common.{◌≡◌, ◌∙◌, ◌==◌, ◌&&◌, ◌+◌, ◌-◌, ◌<◌, ◌≤◌, ℕ, zero, suc, Bool, true, false, List, [], ◌∷◌, Option, Some, None, Result, IsTrue}
use Rattle.std.proofs.Common.{drop, filter, find, length, map, min, option_map, refl, slice_get, sym, ap, subst, take, arith, inl, inr}
use Rattle.std.specs.Prelude.{nat_le, option_to_list}
use Rattle.std.specs.Global.{Vec}
use Rattle.std.proofs.Math.Nat.{min-eq_left, min-eq_right, min-le_left, zero-min}
use Rattle.std.proofs.lemmas.Bool.{cases_lt}
use Rattle.std.proofs.lemmas.List.{drop-take, drop_all, length-take, take-take, take_all}
use Rattle.sqlite_trees.specs.declared.store.Store.{Ghosts}
use Rattle.sqlite.specs.Held.{Held, state}
use Rattle.sqlite.specs.State.{HasCleanDisk}
use Rattle.brk_money.specs.Kinds.{is_same_trade_status}
use Rattle.brk_money.specs.declared.status.Status.TheVariants.{Submitted}
use Rattle.brk_model.specs.Joins.{trade_rows_of_account, trade_rows_oldest_first, trade_rows_recent_first}
use Rattle.brk_model.specs.LookupView.{row_stamp_is_between}
use Rattle.brk_model.specs.Tables.{AccountRow, HoldingHistoryRow, Tables, TradeRow}
use Rattle.brk_ref.specs.Records.{abstract_account_row}
use Rattle.brk_ref.specs.Rows.{abstract_lot_change_row, abstract_trade_row}
use Rattle.brk_ref.specs.declared.account.AccountRow as account
use Rattle.brk_ref.specs.declared.lot_change.LotChange as change
use Rattle.brk_ref.specs.declared.trade_row.TradeRow as trade
use Rattle.brk_tables.proofs.OneTables.{one_tables}
use Rattle.brk_store_index.specs.Ages.{AreAgesOf, in_order}
use Rattle.brk_store_index.specs.Index.{IsIndexOf, ages_at, row_of_age, trade_of_age}
use Rattle.brk_store_index.specs.Parts.{age_of_trade}
use Rattle.brk_store_index.specs.Index as group
use Rattle.brk_store_index.specs.declared.age.RowAge.{RowAge}
use Rattle.brk_store_index.specs.declared.index.RowIndex.{RowIndex}
use Rattle.brk_store_index.proofs.Elements.{has_filtered}
use Rattle.brk_store_index.proofs.Ordered.{age_finds, all_by_id, filtered_rises, finds}
use Rattle.brk_store_index.proofs.Spans.{filter_both}
use Rattle.brk_store_index.proofs.TradeLists.{oldest_trades_found, recent_trades_found, trades_between, trades_since}
use Rattle.brk_store_transactions.specs.Holds.{HoldsRows, ReadPost}
use Rattle.brk_store.specs.Indexed.{IndexIsTrue}
use Rattle.brk_store_reads.specs.RowsByAge.{AreRowsOfAges}
use Rattle.brk_store_reads.specs.ReadSequences.{disk_was_clean_before_reads, single_read_changes_nothing}
use Rattle.brk_store_reads.specs.RowsByAge.{AreFirstTwentyBetween, IsFirstAgeSince}
use Rattle.brk_store_index.specs.declared.store_index.StoreIndex.TheVariants.{Made}
use Rattle.brk_store_reads.proofs.ByAges.{found_of_ages, read_weaker}
use Rattle.brk_store.proofs.WalkedLists.{accounts_climb, changes_climb, trades_climb}

-- ---- lists

nothing_taken : {X : Type 0} (n : ℕ) (xs : List X) → xs ≡ [] → take n xs ≡ []
nothing_taken n xs none = take_all n xs (omega (arith, ap length none)) ∙ none

take_both : {X : Type 0} (m n : ℕ) (xs : List X) → take (min m n) xs ≡ take n (take m xs)
take_both m n xs = elim (cases_lt m n) [
  | inl few ↦ ap (λ l. take l xs) (min-eq_left (le_of m n few)) ∙ sym (take_all n (take m xs) (short few))
  | inr many ↦ ap (λ l. take l xs) (min-eq_right many) ∙ sym (take-take n m xs many)
]
  where
    le_of : (m n : ℕ) → m < n → m ≤ n
    le_of m n few = omega (arith, few)

    short : m < n → length (take m xs) ≤ n
    short few = omega (arith, few, length-take m xs, min-le_left m (length xs))

-- a part of a list by its places
span : {X : Type 0} (n k j : ℕ) (xs : List X) → take (min (j - k) n) (drop k xs) ≡ take n (drop k (take j xs))
span n k j xs = elim (cases_lt j k) [
  | inl before ↦ ap (λ m. take m (drop k xs)) (ap (λ m. min m n) (no_more before) ∙ zero-min n) ∙ sym (nothing_taken n (drop k (take j xs)) (drop_all k (take j xs) (short before)))
  | inr from ↦ take_both (j - k) n (drop k xs) ∙ ap (take n) (sym (drop-take k (j - k) xs) ∙ ap (λ m. drop k (take m xs)) (all_of from))
]
  where
    no_more : j < k → j - k ≡ 0
    no_more before = omega (arith, before)

    short : j < k → length (take j xs) ≤ k
    short before = omega (arith, before, length-take j xs, min-le_left j (length xs))

    all_of : k ≤ j → k + (j - k) ≡ j
    all_of from = omega (arith, from)

one_at : (k : ℕ) (ages : List RowAge) → option_to_list (slice_get ages k) ≡ take 1 (drop k ages)
one_at zero [] = refl
one_at zero (a ∷ ages) = refl
one_at (suc k) [] = refl
one_at (suc k) (a ∷ ages) = one_at k ages

listed : (row : Option trade.TradeRow) → option_to_list (option_map abstract_trade_row row) ≡ map abstract_trade_row (option_to_list row)
listed None = refl
listed (Some row) = refl

find_in_filter : {X : Type 0} (p q : X → Bool) (xs : List X) → find (λ x. p x && q x) xs ≡ find p (filter q xs)
find_in_filter p q [] = refl
find_in_filter {X} p q (x ∷ xs) = go (p x) (q x) refl refl (find_in_filter p q xs)
  where
    go : (a b : Bool) → p x ≡ a → q x ≡ b → find (λ x. p x && q x) xs ≡ find p (filter q xs) → find (λ x. p x && q x) (x ∷ xs) ≡ find p (filter q (x ∷ xs))
    go true true e f more = rw (e, f, e) refl
    go true false e f more = rw (e, f) more
    go false true e f more = rw (e, f, e) more
    go false false e f more = rw (e, f) more

pub swapped : (a b : Bool) → (a && b) ≡ (b && a)
swapped true true = refl
swapped true false = refl
swapped false true = refl
swapped false false = refl

pub three_tests : {X : Type 0} (p q r s : X → Bool) → ((x : X) → (q x && r x) ≡ s x) → (xs : List X) → filter r (filter q (filter p xs)) ≡ filter (λ x. p x && s x) xs
three_tests p q r s same xs = filter_both r q (filter p xs) ∙ filter_both (λ x. q x && r x) p xs ∙ (λ i. filter (λ x. p x && same x i) xs)

-- ---- rows by the index

-- what was read by the ages of an index tells this of the rows, of a store by another name
pub told_by_index : {S V E : Type 0} (g : Ghosts S) (conn end store : Held S) → conn ≡ store → (result : Result V E) (shows tells : V → Tables → Type 0)
    → (HasCleanDisk (state g conn) → IsTrue (state g conn).is_open → (t : Tables) → HoldsRows g conn t → (v : V) → shows v t → tells v t)
    → ReadPost g conn end result shows → ReadPost g store end result tells
told_by_index g conn end store same result shows tells tell read =
    subst (λ h. ReadPost g h end result tells) same
    (read_weaker g conn end result shows tells
    (λ clean on v t holds shown. tell (disk_was_clean_before_reads conn end (single_read_changes_nothing conn end result shows read) clean) on t holds v shown) read)

module _ {S : Type 0} (g : Ghosts S) (conn : Held S) (index : RowIndex) (is : IndexIsTrue g conn (Made index)) where
  pub index_of_rows : HasCleanDisk (state g conn) → IsTrue (state g conn).is_open → (t : Tables) → HoldsRows g conn t → IsIndexOf index t
  index_of_rows clean on t holds =
      let c = is.indexed clean on in
      subst (IsIndexOf index) (one_tables c.0 t (state g conn).now c.1 (holds clean on)) c.2

  module _ (end store : Held S) (same : conn ≡ store) {E : Type 0} where
    -- the newest trades of an account
    pub newest_read : (account most : ℕ) (result : Result (Vec trade.TradeRow) E)
        → ReadPost g conn end result (λ rows t. AreRowsOfAges (λ age row. Some (abstract_trade_row row) ≡ trade_of_age (λ (r : TradeRow). r.account == account) t.trades age)
        (take most (drop 0 (in_order true (ages_at index (group.TradesOfAccount account))))) rows.items)
        → ReadPost g store end result (λ rows t. map abstract_trade_row rows.items ≡ take most (trade_rows_recent_first (trade_rows_of_account t account)))
    newest_read account most result = told_by_index g conn end store same result _ _ (λ clean on t holds rows all.
        let mine = λ (r : TradeRow). r.account == account in
        let ages = ages_at index (group.TradesOfAccount account) in
        recent_trades_found t.trades (trades_climb t (state g conn).now (holds clean on)) mine ages ((index_of_rows clean on t holds).groups (group.TradesOfAccount account)) 0 most (map abstract_trade_row rows.items)
        (found_of_ages abstract_trade_row (trade_of_age mine t.trades) (take most (drop 0 (in_order true ages))) rows.items all))

    -- the oldest twenty trades of a group in a span
    pub twenty_read : (is_in : TradeRow → Bool) (named : group.Group) → ((t : Tables) → group.members named t ≡ map age_of_trade (filter is_in t.trades)) → (first last : ℕ) (result : Result (Vec trade.TradeRow) E)
        → ReadPost g conn end result (λ rows t. AreFirstTwentyBetween (λ age row. Some (abstract_trade_row row) ≡ trade_of_age is_in t.trades age) first last (ages_at index named) rows.items)
        → ReadPost g store end result (λ rows t. map abstract_trade_row rows.items ≡ take 20 (trade_rows_oldest_first (filter (λ r. is_in r && row_stamp_is_between first last r) t.trades)))
    twenty_read is_in named members first last result = told_by_index g conn end store same result _ _ (λ clean on t holds rows shown.
        let k = shown.0 in
        let j = shown.1 in
        let ages = ages_at index named in
        let are : AreAgesOf ages (map age_of_trade (filter is_in t.trades)) = subst (AreAgesOf ages) (members t) ((index_of_rows clean on t holds).groups named) in
        let up = trades_climb t (state g conn).now (holds clean on) in
        let sorted = trade_rows_oldest_first (filter is_in t.trades) in
        let late : TradeRow → Bool = λ r. nat_le first r.stamp in
        let early : TradeRow → Bool = λ r. nat_le r.stamp last in
        oldest_trades_found t.trades up is_in ages are k (min (j - k) 20) (map abstract_trade_row rows.items)
        (found_of_ages abstract_trade_row (trade_of_age is_in t.trades) (take (min (j - k) 20) (drop k ages)) rows.items shown.4)
        ∙ span 20 k j sorted ∙ ap (take 20) (trades_between t.trades up is_in ages are first last k j shown.2 shown.3)
        ∙ ap (λ l. take 20 (trade_rows_oldest_first l)) (three_tests is_in early late (row_stamp_is_between first last) (λ r. swapped (early r) (late r)) t.trades))

    -- the oldest trade of an account from a stamp on
    pub first_read : (account first : ℕ) (age : Option RowAge) → IsFirstAgeSince first (ages_at index (group.TradesOfAccount account)) age → (result : Result (Option trade.TradeRow) E)
        → ReadPost g conn end result (λ row t. AreRowsOfAges (λ age row. Some (abstract_trade_row row) ≡ trade_of_age (λ (r : TradeRow). r.account == account) t.trades age) (option_to_list age) (option_to_list row))
        → ReadPost g store end result (λ row t. option_to_list (option_map abstract_trade_row row) ≡ take 1 (trade_rows_oldest_first (filter (λ r. nat_le first r.stamp) (trade_rows_of_account t account))))
    first_read account first age since result = told_by_index g conn end store same result _ _ (λ clean on t holds row all.
        let k = since.0 in
        let mine = λ (r : TradeRow). r.account == account in
        let ages = ages_at index (group.TradesOfAccount account) in
        let are = (index_of_rows clean on t holds).groups (group.TradesOfAccount account) in
        let up = trades_climb t (state g conn).now (holds clean on) in
        let one : option_to_list age ≡ take 1 (drop k ages) = ap option_to_list since.2 ∙ one_at k ages in
        listed row
        ∙ oldest_trades_found t.trades up mine ages are k 1 (map abstract_trade_row (option_to_list row))
        (found_of_ages abstract_trade_row (trade_of_age mine t.trades) (option_to_list age) (option_to_list row) all ∙ ap (map (trade_of_age mine t.trades)) one)
        ∙ ap (take 1) (trades_since t.trades up mine ages are first k since.1))

    -- the submitted trades
    pub submitted_read : (result : Result (Vec trade.TradeRow) E)
        → ReadPost g conn end result (λ rows t. AreRowsOfAges (λ age row. Some (abstract_trade_row row) ≡ row_of_age (λ (r : TradeRow). r.id) (λ a r. is_same_trade_status r.status Submitted) t.trades age)
        (ages_at index group.SubmittedTrades) rows.items)
        → ReadPost g store end result (λ rows t. map abstract_trade_row rows.items ≡ filter (λ r. is_same_trade_status r.status Submitted) t.trades)
    submitted_read result = told_by_index g conn end store same result _ _ (λ clean on t holds rows all.
        let id_of = λ (r : TradeRow). r.id in
        let waits = λ (r : TradeRow). is_same_trade_status r.status Submitted in
        let test = λ (a : RowAge) (r : TradeRow). is_same_trade_status r.status Submitted in
        let found = row_of_age id_of test t.trades in
        let up = trades_climb t (state g conn).now (holds clean on) in
        all_by_id id_of (filter waits t.trades) (filtered_rises id_of waits t.trades up) (ages_at index group.SubmittedTrades) ((index_of_rows clean on t holds).groups group.SubmittedTrades) found
        (λ x h. let k = has_filtered waits t.trades x h in age_finds id_of t.trades up test (record { stamp = 0; id = x.id }) x k.0 refl k.1)
        (map abstract_trade_row rows.items) (found_of_ages abstract_trade_row found (ages_at index group.SubmittedTrades) rows.items all))

    -- the accounts of a customer
    pub accounts_read : (customer : ℕ) (result : Result (Vec account.AccountRow) E)
        → ReadPost g conn end result (λ rows t. AreRowsOfAges (λ age row. Some (abstract_account_row row) ≡ row_of_age (λ (r : AccountRow). r.id) (λ a r. r.customer == customer) t.accounts age)
        (ages_at index (group.AccountsOfCustomer customer)) rows.items)
        → ReadPost g store end result (λ rows t. map abstract_account_row rows.items ≡ filter (λ r. r.customer == customer) t.accounts)
    accounts_read customer result = told_by_index g conn end store same result _ _ (λ clean on t holds rows all.
        let id_of = λ (r : AccountRow). r.id in
        let mine = λ (r : AccountRow). r.customer == customer in
        let test = λ (a : RowAge) (r : AccountRow). r.customer == customer in
        let found = row_of_age id_of test t.accounts in
        let up = accounts_climb t (state g conn).now (holds clean on) in
        all_by_id id_of (filter mine t.accounts) (filtered_rises id_of mine t.accounts up) (ages_at index (group.AccountsOfCustomer customer))
        ((index_of_rows clean on t holds).groups (group.AccountsOfCustomer customer)) found
        (λ x h. let k = has_filtered mine t.accounts x h in age_finds id_of t.accounts up test (record { stamp = 0; id = x.id }) x k.0 refl k.1)
        (map abstract_account_row rows.items) (found_of_ages abstract_account_row found (ages_at index (group.AccountsOfCustomer customer)) rows.items all))

    -- the lot changes of a trade
    pub changes_read : (trade_id : ℕ) (result : Result (Vec change.LotChange) E)
        → ReadPost g conn end result (λ rows t. AreRowsOfAges (λ age row. Some (abstract_lot_change_row row) ≡ find (λ (r : HoldingHistoryRow). (r.lot == age.id) && (r.trade == trade_id)) t.holding_history)
        (ages_at index (group.LotChangesOfTrade trade_id)) rows.items)
        → ReadPost g store end result (λ rows t. map abstract_lot_change_row rows.items ≡ filter (λ r. r.trade == trade_id) t.holding_history)
    changes_read trade_id result = told_by_index g conn end store same result _ _ (λ clean on t holds rows all.
        let lot_of = λ (r : HoldingHistoryRow). r.lot in
        let by = λ (r : HoldingHistoryRow). r.trade == trade_id in
        let found = λ (a : RowAge). find (λ (r : HoldingHistoryRow). (r.lot == a.id) && (r.trade == trade_id)) t.holding_history in
        let up = changes_climb trade_id t (state g conn).now (holds clean on) in
        all_by_id lot_of (filter by t.holding_history) up (ages_at index (group.LotChangesOfTrade trade_id)) ((index_of_rows clean on t holds).groups (group.LotChangesOfTrade trade_id)) found
        (λ x h. find_in_filter (λ (r : HoldingHistoryRow). r.lot == x.lot) by t.holding_history ∙ finds lot_of (filter by t.holding_history) x up h)
        (map abstract_lot_change_row rows.items) (found_of_ages abstract_lot_change_row found (ages_at index (group.LotChangesOfTrade trade_id)) rows.items all))
