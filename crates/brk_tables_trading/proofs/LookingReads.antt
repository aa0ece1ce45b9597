-- The results of the reads of an account's last trades and of the history of a trade.
use Rattle.std.proofs.Common.{◌≡◌, ℕ, List, [], ◌∷◌, Bool, true, false, not, cond, ◌&&◌, ◌||◌, map, filter, take, ◌==◌, Ordering, Less, Equal, Greater, is_eq, Some, refl, sym, ap, ap₂, ◌∙◌, arith}
use Rattle.std.specs.Prelude.{if◌then◌else◌, nat_lt}
use Rattle.std.specs.Cmp.Lexicographic.{slice_cmp}
use Rattle.std.specs.Ordering.{is_gt, ordering_reverse, ordering_then}
use Rattle.std.proofs.lemmas.Bool.Decides.{nat_tests}
use Rattle.std.proofs.lemmas.Cmp.{back_total}
use Rattle.sqlite_value.specs.Order.{Row, value_cmp}
use Rattle.sqlite_keyed.specs.Lists.{insert_sorted, sort_by}
use Rattle.sqlite.specs.State.{State, Shown}
use Rattle.brk_model.specs.Joins.{trade_rows_recent_first, trade_rows_of_account}
use Rattle.brk_model.specs.Keys.{KeyPart, history_key, is_key_less, number, trade_key}
use Rattle.brk_model.specs.Lists as model
use Rattle.brk_model.specs.Tables.{HistoryRow, TradeRow}
use Rattle.brk_tables_sql.specs.Desk.{TablesSatisfy}
use Rattle.brk_tables_sql.proofs.Answer.{limited_map}
use Rattle.brk_tables_sql.proofs.Told.{told_rising, told_sorted}
use Rattle.brk_tables_schema.specs.Cells.{natural_as_value, history_cells, trade_cells}
use Rattle.brk_tables_schema.specs.Desk.{Trades, TradeHistory, desk_tables, ordering_by_primary_key}
use Rattle.brk_tables_schema.specs.Order.{ordering_by_key, key_values}
use Rattle.brk_tables_schema.proofs.Order.{inserted, key_total}
use Rattle.brk_tables_schema.proofs.Tests.{same_number}
use Rattle.brk_tables_trading.proofs.HistoryOf
use Rattle.brk_tables_trading.proofs.LastFiftyOfAccount
use Rattle.brk_tables_trading.proofs.LastTenOfAccount

pub tells_history : (old new : State) (trade : ℕ) (rows : List Row) → Shown HistoryOf.statement (natural_as_value trade ∷ []) old new rows
    → TablesSatisfy desk_tables (λ t. rows ≡ map history_cells (filter (λ r. r.trade == trade) t.history)) old.now
tells_history old new trade rows shown =
    told_rising desk_tables TradeHistory HistoryOf.statement HistoryOf.ask HistoryOf.paging HistoryOf.is_asked (natural_as_value trade ∷ [])
    (λ (r : HistoryRow). r.trade == trade) (λ tree x. same_number x.trade trade)
    history_cells (λ x. refl) (ordering_by_primary_key TradeHistory) (key_total history_key) (λ tree x y. refl) old new rows shown (λ x y. refl)

-- ---- the most recent trades first

-- the moment of a trade, and then its id
abbrev trade_age : TradeRow → List KeyPart
trade_age r = number r.stamp ∷ number r.id ∷ []

abbrev falling : TradeRow → TradeRow → Ordering
falling x y = ordering_by_key trade_age y x

-- the order of two keys is that of the database, as two rows that have them show
keys_tie : (j k : List KeyPart) → is_key_less j k ≡ is_gt (slice_cmp value_cmp (key_values k) (key_values j))
keys_tie j k = told _ _ (ap tag (inserted (λ (p : Bool × List KeyPart). p.1) (false, k) ((true, j) ∷ [])))
  where
    tag : List (Bool × List KeyPart) → Bool
    tag [] = false
    tag (p ∷ ps) = p.0

    told : (b c : Bool) → tag (cond b ((true, j) ∷ (false, k) ∷ []) ((false, k) ∷ (true, j) ∷ [])) ≡ tag (cond c ((true, j) ∷ (false, k) ∷ []) ((false, k) ∷ (true, j) ∷ [])) → b ≡ c
    told true true e = refl
    told false false e = refl
    told true false e = absurd (cc)
    told false true e = absurd (cc)

by_numbers : (m n j k : ℕ) → nat_lt m n || ((m == n) && nat_lt j k) ≡ nat_lt m n || (not (nat_lt n m) && (nat_lt j k || (not (nat_lt k j) && false)))
by_numbers m n j k = grind (arith, nat_tests)

recent_put : (x : TradeRow) (ys : List TradeRow) → model.insert_by (λ a b. model.is_pair_less b.stamp a.stamp b.id a.id) x ys ≡ insert_sorted falling x ys
recent_put x [] = refl
recent_put x (y ∷ ys) =
    ap₂ (λ b (l : List TradeRow). if b then y ∷ l else x ∷ y ∷ ys) (by_numbers x.stamp y.stamp x.id y.id ∙ keys_tie (trade_age x) (trade_age y)) (recent_put x ys)

recent_are : (rows : List TradeRow) → trade_rows_recent_first rows ≡ sort_by falling rows
unfolding Rattle.brk_model.specs.Lists.sort_by
recent_are [] = refl
recent_are (x ∷ rows) = ap (model.insert_by (λ (a b : TradeRow). model.is_pair_less b.stamp a.stamp b.id a.id) x) (recent_are rows) ∙ recent_put x (sort_by falling rows)

second : (a b : Ordering) → is_eq (ordering_then a b) ≡ true → is_eq b ≡ true
second Less b h = absurd (let f = h in cc)
second Equal b h = h
second Greater b h = absurd (let f = h in cc)

turned : (o : Ordering) → is_eq o ≡ true → is_eq (ordering_reverse o) ≡ true
turned Less h = absurd (let f = h in cc)
turned Equal h = refl
turned Greater h = absurd (let f = h in cc)

same_id : (x y : TradeRow) → is_eq (ordering_by_primary_key Trades y x) ≡ true → is_eq (ordering_by_primary_key Trades x y) ≡ true
same_id x y e = ap is_eq ((key_total trade_key).antisymm x y) ∙ turned (ordering_by_primary_key Trades y x) e

pub tells_last_ten : (old new : State) (account : ℕ) (rows : List Row) → Shown LastTenOfAccount.statement (natural_as_value account ∷ []) old new rows
    → TablesSatisfy desk_tables (λ t. rows ≡ map trade_cells (take 10 (trade_rows_recent_first (trade_rows_of_account t account)))) old.now
tells_last_ten old new account rows shown = λ t tree h.
    told_sorted desk_tables Trades LastTenOfAccount.statement LastTenOfAccount.ask LastTenOfAccount.paging LastTenOfAccount.is_asked (natural_as_value account ∷ [])
    (λ (r : TradeRow). r.account == account) (λ tree x. same_number x.account account)
    trade_cells (λ x. refl) falling (back_total (key_total trade_age)) (λ tree x y. refl) old new rows shown (λ x y e. same_id x y (second (value_cmp (natural_as_value y.stamp) (natural_as_value x.stamp)) _ e)) t tree h
    ∙ limited_map trade_cells (Some 10) (sort_by falling (trade_rows_of_account t account))
    ∙ ap (λ rs. map trade_cells (take 10 rs)) (sym (recent_are (trade_rows_of_account t account)))

pub tells_last_fifty : (old new : State) (account : ℕ) (rows : List Row) → Shown LastFiftyOfAccount.statement (natural_as_value account ∷ []) old new rows
    → TablesSatisfy desk_tables (λ t. rows ≡ map trade_cells (take 50 (trade_rows_recent_first (trade_rows_of_account t account)))) old.now
tells_last_fifty old new account rows shown = λ t tree h.
    told_sorted desk_tables Trades LastFiftyOfAccount.statement LastFiftyOfAccount.ask LastFiftyOfAccount.paging LastFiftyOfAccount.is_asked (natural_as_value account ∷ [])
    (λ (r : TradeRow). r.account == account) (λ tree x. same_number x.account account)
    trade_cells (λ x. refl) falling (back_total (key_total trade_age)) (λ tree x y. refl) old new rows shown (λ x y e. same_id x y (second (value_cmp (natural_as_value y.stamp) (natural_as_value x.stamp)) _ e)) t tree h
    ∙ limited_map trade_cells (Some 50) (sort_by falling (trade_rows_of_account t account))
    ∙ ap (λ rs. map trade_cells (take 50 rs)) (sym (recent_are (trade_rows_of_account t account)))
