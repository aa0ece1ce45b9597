-- The trades and the stamps of lot changes; no two changes of one lot have the same stamp.
use Rattle.std.proofs.Common.{◌≡◌, ℕ, ◌==◌, List, [], ◌∷◌, Bool, true, false, not, cond, Option, Some, None, refl, sym, ap, subst, ◌∙◌, filter, find, arith}
use Rattle.std.specs.Prelude.{◌&&◌, ◌||◌, nat_lt, is_some, option_map, flat_map}
use Rattle.std.specs.List.{AllByRecursion}
use Rattle.std.specs.Option.{option_map_or}
use Rattle.std.proofs.lemmas.Bool.{eq-eqb, eqb-true}
use Rattle.std.proofs.lemmas.Bool.Decides.{nat_tests}
use Rattle.brk_model.specs.Base.{Base, completed_trades, is_completed, last_status_stamp_of_trade}
use Rattle.brk_model.specs.Derived.{deal_of_trade, deals_of_position, trades_of_account, trades_of_position}
use Rattle.brk_model.specs.Joins.{trade_row_with_id}
use Rattle.brk_model.specs.Keys.{holding_history_key, rows_sorted_by_key}
use Rattle.brk_model.specs.Lists.{is_pair_less}
use Rattle.brk_model.specs.Records.{Trade}
use Rattle.brk_model.specs.Sheets.{sheets, tables_sorted_by_key}
use Rattle.brk_model.specs.Tables.{HoldingHistoryRow, tables_of_base, trade_row, tables_of_base_in_schema}
use Rattle.brk_lots.proofs.HistoryRows.{rows_of_lots_are}
use Rattle.brk_lots.specs.HistoryRows.{lot_rows_with_quantity_change}
use Rattle.brk_audit_theorems.proofs.Climbs.{Climbs}
use Rattle.brk_audit_theorems.proofs.Members.{All-flat_map}
use Rattle.brk_audit_theorems.proofs.Parts.{key_parts}
use Rattle.brk_audit_theorems.specs.Sound.{AuditInvariant}
use Rattle.brk_audit_theorems.proofs.FormKeys.{All-history, keys_of}
use Rattle.brk_trade_books.specs.Books.{BooksInvariant, HasDistinctLastStatusStamps}
use Rattle.brk_trade_books.proofs.LotReading.{IdsApart, numbered_rise, rise_apart}
use Rattle.brk_trade_books.proofs.Order.{Splits}
use Rattle.brk_trade_books.proofs.Reading.{find-map}
use Rattle.brk_trade_books.proofs.Same.{NonePass, All-map, All-mapped, find-All, find-each}
use Rattle.brk_view_theorems.proofs.Sorting.{AllApart, All-sort}
use Rattle.brk_view_theorems.proofs.Trades.{All-filter}

-- ---- completed trades

-- a trade with an id
abbrev pub with_id : ℕ → List Trade → Option Trade
with_id id ts = find (λ t. t.id == id) ts

-- among some trades one has an id
abbrev pub IsAmong : List Trade → ℕ → Type 0
IsAmong ts id = is_some (with_id id ts) ≡ true

abbrev moment_in : List Trade → ℕ → ℕ
moment_in ts id = option_map_or last_status_stamp_of_trade (with_id id ts) 0

none_found : (id : ℕ) (ts : List Trade) → NonePass (λ u. u.id == id) ts → with_id id ts ≡ None
none_found id [] h = refl
none_found id (t ∷ ts) h = ap (λ b. cond b (Some t) (with_id id ts)) h.0 ∙ none_found id ts h.1

All-filter_of : (id : ℕ) (p : Trade → Bool) (ts : List Trade) → NonePass (λ u. u.id == id) ts → NonePass (λ u. u.id == id) (filter p ts)
All-filter_of id p ts h = All-filter (λ u. (u.id == id) ≡ false) p ts h

-- what is found among some trades is what is found among all
found_of_all : (p : Trade → Bool) (id : ℕ) (ts : List Trade) → IdsApart ts → IsAmong (filter p ts) id → with_id id ts ≡ with_id id (filter p ts)
found_of_all p id [] d e = refl
found_of_all p id (t ∷ ts) d e = by_tests (found_of_all p id ts d.1) (p t) (t.id == id) refl refl e
  where
    by_tests : (IsAmong (filter p ts) id → with_id id ts ≡ with_id id (filter p ts)) → (b c : Bool) → p t ≡ b → (t.id == id) ≡ c → IsAmong (cond b (t ∷ filter p ts) (filter p ts)) id
        → cond c (Some t) (with_id id ts) ≡ with_id id (cond b (t ∷ filter p ts) (filter p ts))
    by_tests ih true true f g e = sym (ap (λ c. cond c (Some t) (with_id id (filter p ts))) g)
    by_tests ih true false f g e =
        let k : is_some (with_id id (filter p ts)) ≡ true = ap (λ c. is_some (cond c (Some t) (with_id id (filter p ts)))) (sym g) ∙ e in
        ih k ∙ sym (ap (λ c. cond c (Some t) (with_id id (filter p ts))) g)
    by_tests ih false true f g e =
        let none : with_id id (filter p ts) ≡ None = none_found id (filter p ts) (All-filter_of id p ts (All-map ts (λ u h. ap (λ n. u.id == n) (sym (eqb-true t.id id g)) ∙ h) d.0)) in
        absurd (let k : false ≡ true = sym (ap is_some none) ∙ e in cc)
    by_tests ih false false f g e = ih e

some_is : {X : Type 0} (o : Option X) → is_some o ≡ true → (x : X) × (o ≡ Some x)
some_is None e = absurd (cc)
some_is (Some x) e = (x, refl)

-- another moment than one that none of some has
other_moment : (moment id : ℕ) (ts : List Trade) → AllByRecursion (λ u. (last_status_stamp_of_trade u == moment) ≡ false) ts → IsAmong ts id → (moment_in ts id == moment) ≡ false
other_moment moment id ts h e =
    let found = some_is (with_id id ts) e in
    ap (λ o. option_map_or last_status_stamp_of_trade o 0 == moment) found.1 ∙ find-All (λ u. (last_status_stamp_of_trade u == moment) ≡ false) (λ t. t.id == id) ts found.0 h found.1

turned : (m n : ℕ) → (n == m) ≡ false → (m == n) ≡ false
turned m n h = grind (arith, nat_tests)

-- two of them got their last status at two moments
moments_differ : (ts : List Trade) (m n : ℕ) → HasDistinctLastStatusStamps ts → IsAmong ts m → IsAmong ts n → (m == n) ≡ false → (moment_in ts m == moment_in ts n) ≡ false
moments_differ [] m n d e f h = absurd (cc)
moments_differ (t ∷ ts) m n d e f h = by_tests (moments_differ ts m n d.1) (t.id == m) (t.id == n) refl refl e f
  where
    by_tests : (IsAmong ts m → IsAmong ts n → (m == n) ≡ false → (moment_in ts m == moment_in ts n) ≡ false) → (b c : Bool) → (t.id == m) ≡ b → (t.id == n) ≡ c
        → is_some (cond b (Some t) (with_id m ts)) ≡ true → is_some (cond c (Some t) (with_id n ts)) ≡ true
        → (option_map_or last_status_stamp_of_trade (cond b (Some t) (with_id m ts)) 0 == option_map_or last_status_stamp_of_trade (cond c (Some t) (with_id n ts)) 0) ≡ false
    by_tests ih true true g k e f = absurd (let i : true ≡ false = sym (eq-eqb m n (sym (eqb-true t.id m g) ∙ eqb-true t.id n k)) ∙ h in cc)
    by_tests ih true false g k e f = turned (last_status_stamp_of_trade t) (moment_in ts n) (other_moment (last_status_stamp_of_trade t) n ts d.0 f)
    by_tests ih false true g k e f = other_moment (last_status_stamp_of_trade t) m ts d.0 e
    by_tests ih false false g k e f = ih e f h

-- ---- the stamps of changes

-- the stamp of a trade
abbrev pub stamp_at : Base → ℕ → ℕ
stamp_at base id = option_map_or (λ t. t.stamp) (trade_row_with_id (tables_of_base base) id) 0

stamp_is : (base : Base) (id : ℕ) → BooksInvariant base → IsAmong (completed_trades base) id → stamp_at base id ≡ moment_in (completed_trades base) id
unfolding tables_of_base_in_schema
stamp_is base id books e =
    ap (λ o. option_map_or (λ t. t.stamp) o 0) (find-map (λ r. r.id == id) trade_row base.trades) ∙ of_row (with_id id base.trades)
    ∙ ap (λ o. option_map_or last_status_stamp_of_trade o 0) (found_of_all is_completed id base.trades (rise_apart base.trades (numbered_rise 1 base.trades books.numbered)) e)
  where
    of_row : (o : Option Trade) → option_map_or (λ t. t.stamp) (option_map trade_row o) 0 ≡ option_map_or last_status_stamp_of_trade o 0
    of_row None = refl
    of_row (Some t) = refl

stamps_differ : (base : Base) (m n : ℕ) → BooksInvariant base → IsAmong (completed_trades base) m → IsAmong (completed_trades base) n → (m == n) ≡ false → (stamp_at base m == stamp_at base n) ≡ false
stamps_differ base m n books e f h =
    (λ i. stamp_is base m books e i == stamp_is base n books f i) ∙ moments_differ (completed_trades base) m n books.moments e f h

-- ---- each change is of a completed trade

each_among : (ts : List Trade) → AllByRecursion (λ t. IsAmong ts t.id) ts
each_among ts = find-each (λ t u. u.id == t.id) ts (λ t. eq-eqb t.id t.id refl)

each_deal : (done : List Trade) (account : ℕ) (symbol : List ℕ) → AllByRecursion (λ d. IsAmong done d.trade) (deals_of_position done account symbol)
each_deal done account symbol =
    All-mapped (λ d. IsAmong done d.trade) deal_of_trade _
    (All-sort (λ (t : Trade). IsAmong done t.id) _ (trades_of_position done account symbol)
    (All-filter (λ (t : Trade). IsAmong done t.id) _ (trades_of_account done account) (All-filter (λ (t : Trade). IsAmong done t.id) _ done (each_among done))))

each_history : (done ts : List Trade) → AllByRecursion (λ t. AllByRecursion (λ r. IsAmong done r.trade) (lot_rows_with_quantity_change done t)) ts
each_history done [] = tt
each_history done (t ∷ ts) = (All-history (λ lot trade. IsAmong done trade) done t (each_deal done t.account t.symbol), each_history done ts)

pub each_made : (base : Base) → AllByRecursion (λ r. IsAmong (completed_trades base) r.trade) (sheets base).holding_history
unfolding tables_sorted_by_key tables_of_base_in_schema
each_made base =
    subst (λ (rows : List HoldingHistoryRow). AllByRecursion (λ (r : HoldingHistoryRow). IsAmong (completed_trades base) r.trade)
    (rows_sorted_by_key holding_history_key rows)) (sym (rows_of_lots_are (completed_trades base) (completed_trades base)))
    (All-sort (λ (r : HoldingHistoryRow). IsAmong (completed_trades base) r.trade) _ (flat_map (lot_rows_with_quantity_change (completed_trades base)) (completed_trades base))
    (All-flat_map (λ (r : HoldingHistoryRow). IsAmong (completed_trades base) r.trade) (lot_rows_with_quantity_change (completed_trades base)) (completed_trades base)
    (each_history (completed_trades base) (completed_trades base))))

-- ---- by the stamp of the change, then by lot

abbrev pub earlier_touch : Base → HoldingHistoryRow → HoldingHistoryRow → Bool
earlier_touch base a b = is_pair_less (stamp_at base a.trade) (stamp_at base b.trade) a.lot b.lot

rising_splits : (x y z x' y' z' : ℕ) → is_pair_less z x z' x' ≡ true → is_pair_less z y z' y' ≡ false → is_pair_less y x y' x' ≡ true
rising_splits x y z x' y' z' g h = grind (arith, nat_tests)

pub touches_split : (base : Base) → Splits (earlier_touch base)
touches_split base x y z g h = rising_splits (stamp_at base x.trade) (stamp_at base y.trade) (stamp_at base z.trade) x.lot y.lot z.lot g h

stamps_apart : (a b l k : ℕ) → (a == b) ≡ false → is_pair_less a b l k ≡ not (is_pair_less b a k l)
stamps_apart a b l k h = grind (arith, nat_tests)

lots_apart : (a b l k : ℕ) → (l == k) ≡ false → is_pair_less a b l k ≡ not (is_pair_less b a k l)
lots_apart a b l k h = grind (arith, nat_tests)

-- a row that goes before another of its lot is of another trade
other_trade : (l m k n : ℕ) → nat_lt l k || (not (nat_lt k l) && (nat_lt m n || (not (nat_lt n m) && false))) ≡ true → (l == k) ≡ true → (m == n) ≡ false
other_trade l m k n g h = grind (arith, nat_tests)

pair_apart : (base : Base) (x y : HoldingHistoryRow) → BooksInvariant base → IsAmong (completed_trades base) x.trade → IsAmong (completed_trades base) y.trade
    → nat_lt x.lot y.lot || (not (nat_lt y.lot x.lot) && (nat_lt x.trade y.trade || (not (nat_lt y.trade x.trade) && false))) ≡ true
    → earlier_touch base x y ≡ not (earlier_touch base y x)
pair_apart base x y books e f g = by_test (x.lot == y.lot) refl
  where
    by_test : (b : Bool) → (x.lot == y.lot) ≡ b → earlier_touch base x y ≡ not (earlier_touch base y x)
    by_test false h = lots_apart (stamp_at base x.trade) (stamp_at base y.trade) x.lot y.lot h
    by_test true h =
        stamps_apart (stamp_at base x.trade) (stamp_at base y.trade) x.lot y.lot (stamps_differ base x.trade y.trade books e f (other_trade x.lot x.trade y.lot y.trade g h))

apart_of : (base : Base) (rows : List HoldingHistoryRow) → BooksInvariant base → AllByRecursion (λ r. IsAmong (completed_trades base) r.trade) rows
    → Climbs holding_history_key rows → AllApart (earlier_touch base) rows
apart_of base [] books h c = tt
apart_of base (x ∷ rows) books h c = (others rows h.1 c.0, apart_of base rows books h.1 c.1)
  where
    others : (ys : List HoldingHistoryRow) → AllByRecursion (λ r. IsAmong (completed_trades base) r.trade) ys
        → AllByRecursion (λ y. nat_lt x.lot y.lot || (not (nat_lt y.lot x.lot) && (nat_lt x.trade y.trade || (not (nat_lt y.trade x.trade) && false))) ≡ true) ys
        → AllByRecursion (λ y. earlier_touch base x y ≡ not (earlier_touch base y x)) ys
    others [] k d = tt
    others (y ∷ ys) k d = (pair_apart base x y books h.0 k.0 d.0, others ys k.1 d.1)

-- no two changes of one lot came at one moment
pub touches_apart : (base : Base) → BooksInvariant base → AuditInvariant base → AllApart (earlier_touch base) (sheets base).holding_history
touches_apart base books sound =
    apart_of base (sheets base).holding_history books (each_made base) (key_parts (sheets base) (keys_of base books sound)).holding_history
