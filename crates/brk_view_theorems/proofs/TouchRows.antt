-- Sorting the tables by key does not change the lots that a trade touched, or their changes.
use Rattle.std.proofs.Common.{◌≡◌, ℕ, ◌==◌, List, [], ◌∷◌, ◌++◌, Bool, true, false, not, cond, refl, sym, ap, ◌∙◌, map, filter, arith, find, take}
use Rattle.std.specs.Prelude.{◌&&◌, ◌||◌, decimal, flat_map, nat_le, nat_lt}
use Rattle.std.specs.Fmt.{signed_decimal}
use Rattle.std.specs.List.{AllByRecursion, list_any}
use Rattle.std.specs.Option.{option_map_or}
use Rattle.std.proofs.lemmas.Bool.Decides.{nat_tests}
use Rattle.brk_model.specs.Base.{Base}
use Rattle.brk_model.specs.Joins.{trade_rows_oldest_first}
use Rattle.brk_model.specs.Keys.{holding_history_key}
use Rattle.brk_model.specs.Lists.{is_pair_less, sort_by}
use Rattle.brk_model.specs.LookupView.{trade_touches_lot, touched_lots_of_oldest_trade, stamp_of_touching_trade, touched_lots_view}
use Rattle.brk_model.specs.Sheets.{sheets, tables_sorted_by_key}
use Rattle.brk_model.specs.Tables.{HoldingHistoryRow, TradeRow, tables_of_base}
use Rattle.brk_audit_theorems.proofs.Climbs.{Climbs}
use Rattle.brk_audit_theorems.proofs.Parts.{key_parts}
use Rattle.brk_audit_theorems.specs.Sound.{AuditInvariant}
use Rattle.brk_audit_theorems.proofs.FormKeys.{keys_of}
use Rattle.brk_trade_books.specs.Books.{BooksInvariant}
use Rattle.brk_trade_books.proofs.Bools.{numbers_back}
use Rattle.brk_trade_books.proofs.Reading.{any-sorted}
use Rattle.brk_trade_books.proofs.Same.{All-map}
use Rattle.brk_view_theorems.proofs.Gathering.{none_pass}
use Rattle.brk_view_theorems.proofs.Sorting.{apart_filter, same_order, same_rows, sort_back}
use Rattle.brk_view_theorems.proofs.Touches.{earlier_touch, touches_apart, touches_split}
use Rattle.brk_view_theorems.proofs.Trades.{same_trades}

-- ---- one change

same_touched : (base : Base) (trade lot : ℕ) → trade_touches_lot (sheets base) trade lot ≡ trade_touches_lot (tables_of_base base) trade lot
unfolding tables_sorted_by_key
same_touched base trade lot = any-sorted holding_history_key (λ row. (row.trade == trade) && (row.lot == lot)) (tables_of_base base).holding_history

same_stamp : (base : Base) (row : HoldingHistoryRow) → BooksInvariant base → stamp_of_touching_trade (sheets base) row ≡ stamp_of_touching_trade (tables_of_base base) row
same_stamp base row books = ap (λ (ts : List TradeRow). option_map_or (λ t. t.stamp) (find (λ t. t.id == row.trade) ts) 0) (same_trades base books)

-- ---- in their order

-- the changes of the lots that a trade touched, in their order
same_changes : (base : Base) (trade : ℕ) → BooksInvariant base → AuditInvariant base
    → sort_by (earlier_touch base) (filter (λ row. trade_touches_lot (tables_of_base base) trade row.lot) (sheets base).holding_history)
    ≡ sort_by (earlier_touch base) (filter (λ row. trade_touches_lot (tables_of_base base) trade row.lot) (tables_of_base base).holding_history)
unfolding tables_sorted_by_key
same_changes base trade books sound =
    let p : HoldingHistoryRow → Bool = λ row. trade_touches_lot (tables_of_base base) trade row.lot in
    sort_back (earlier_touch base) holding_history_key p (tables_of_base base).holding_history (touches_split base)
    (apart_filter (earlier_touch base) p (sheets base).holding_history (touches_apart base books sound))

same_view : (base : Base) (t : TradeRow) → BooksInvariant base → AuditInvariant base → touched_lots_view (sheets base) t ≡ touched_lots_view (tables_of_base base) t
same_view base t books sound =
    ap (λ (rows : List HoldingHistoryRow). (decimal t.id ∷ []) ∷ map (λ row. decimal row.lot ∷ decimal row.trade ∷ signed_decimal row.before ∷ signed_decimal row.after ∷ []) (take 20 rows))
    (same_order (λ a b. is_pair_less (stamp_of_touching_trade (sheets base) a) (stamp_of_touching_trade (sheets base) b) a.lot b.lot) (earlier_touch base)
    (filter (λ row. trade_touches_lot (sheets base) t.id row.lot) (sheets base).holding_history)
    (λ a b i. is_pair_less (same_stamp base a books i) (same_stamp base b books i) a.lot b.lot)
    ∙ ap (sort_by (earlier_touch base))
    (same_rows (λ row. trade_touches_lot (sheets base) t.id row.lot) (λ row. trade_touches_lot (tables_of_base base) t.id row.lot)
    (sheets base).holding_history (λ row. same_touched base t.id row.lot))
    ∙ same_changes base t.id books sound)

pub same_lots : (base : Base) (account first : ℕ) → BooksInvariant base → AuditInvariant base
    → touched_lots_of_oldest_trade (sheets base) account first ≡ touched_lots_of_oldest_trade (tables_of_base base) account first
unfolding touched_lots_of_oldest_trade
same_lots base account first books sound i =
    flat_map (λ t. same_view base t books sound i)
    (take 1 (trade_rows_oldest_first (filter (λ t. nat_le first t.stamp) (filter (λ (r : TradeRow). r.account == account) (same_trades base books i)))))

-- ---- read lot by lot

-- lots that rise
abbrev LotsRise : List ℕ → Type 0
LotsRise [] = Unit {0}
LotsRise (l ∷ ls) = AllByRecursion (λ k. nat_lt l k ≡ true) ls × LotsRise ls

-- rows of which none is of a lower lot than those before it
abbrev LotsStand : List HoldingHistoryRow → Type 0
LotsStand [] = Unit {0}
LotsStand (r ∷ rows) = AllByRecursion (λ q. nat_lt q.lot r.lot ≡ false) rows × LotsStand rows

stand_so : (rows : List HoldingHistoryRow) → Climbs holding_history_key rows → LotsStand rows
stand_so [] c = tt
stand_so (r ∷ rows) c = (All-map rows (λ q h. no_lower r.lot r.trade q.lot q.trade h) c.0, stand_so rows c.1)
  where
    no_lower : (l m k n : ℕ) → nat_lt l k || (not (nat_lt k l) && (nat_lt m n || (not (nat_lt n m) && false))) ≡ true → nat_lt k l ≡ false
    no_lower l m k n h = grind (arith, nat_tests)

-- the lots that a trade touched
abbrev touched_lots : ℕ → List HoldingHistoryRow → List ℕ
touched_lots trade rows = map (λ r. r.lot) (filter (λ r. r.trade == trade) rows)

rise_so : (trade : ℕ) (rows : List HoldingHistoryRow) → Climbs holding_history_key rows → LotsRise (touched_lots trade rows)
rise_so trade [] c = tt
rise_so trade (r ∷ rows) c = by_test (rise_so trade rows c.1) (r.trade == trade) refl
  where
    above : (l m k n : ℕ) → nat_lt l k || (not (nat_lt k l) && (nat_lt m n || (not (nat_lt n m) && false))) ≡ true → (m == trade) ≡ true → (n == trade) ≡ true → nat_lt l k ≡ true
    above l m k n h f g = grind (arith, nat_tests)

    all_above : (qs : List HoldingHistoryRow) → (r.trade == trade) ≡ true
        → AllByRecursion (λ q. nat_lt r.lot q.lot || (not (nat_lt q.lot r.lot) && (nat_lt r.trade q.trade || (not (nat_lt q.trade r.trade) && false))) ≡ true) qs
        → AllByRecursion (λ k. nat_lt r.lot k ≡ true) (touched_lots trade qs)
    all_above [] e h = tt
    all_above (q ∷ qs) e h = one (q.trade == trade) refl (all_above qs e h.1)
      where
        one : (b : Bool) → (q.trade == trade) ≡ b → AllByRecursion (λ k. nat_lt r.lot k ≡ true) (touched_lots trade qs)
            → AllByRecursion (λ k. nat_lt r.lot k ≡ true) (map (λ r. r.lot) (cond b (q ∷ filter (λ r. r.trade == trade) qs) (filter (λ r. r.trade == trade) qs)))
        one true f k = (above r.lot r.trade q.lot q.trade h.0 e f, k)
        one false f k = k

    by_test : LotsRise (touched_lots trade rows) → (b : Bool) → (r.trade == trade) ≡ b
        → LotsRise (map (λ r. r.lot) (cond b (r ∷ filter (λ r. r.trade == trade) rows) (filter (λ r. r.trade == trade) rows)))
    by_test ih true e = (all_above rows e c.0, ih)
    by_test ih false e = ih

-- a lot is one of some
abbrev is_of : List ℕ → ℕ → Bool
is_of lots lot = list_any (λ l. lot == l) lots

not_of : (l lot : ℕ) (lots : List ℕ) → AllByRecursion (λ k. nat_lt l k ≡ true) lots → (lot == l) ≡ true → is_of lots lot ≡ false
not_of l lot [] h e = refl
not_of l lot (k ∷ lots) h e = ap (λ b. b || is_of lots lot) (other k h.0) ∙ not_of l lot lots h.1 e
  where
    other : (k : ℕ) → nat_lt l k ≡ true → (lot == k) ≡ false
    other k h = grind (arith, nat_tests)

above_all : (l lot : ℕ) (lots : List ℕ) → AllByRecursion (λ k. nat_lt l k ≡ true) lots → is_of lots lot ≡ true → nat_lt l lot ≡ true
above_all l lot [] h e = absurd (cc)
above_all l lot (k ∷ lots) h e = by_test (above_all l lot lots h.1) (lot == k) refl e
  where
    same : (k : ℕ) → nat_lt l k ≡ true → (lot == k) ≡ true → nat_lt l lot ≡ true
    same k h e = grind (arith, nat_tests)

    by_test : (is_of lots lot ≡ true → nat_lt l lot ≡ true) → (b : Bool) → (lot == k) ≡ b → b || is_of lots lot ≡ true → nat_lt l lot ≡ true
    by_test ih true f e = same k h.0 f
    by_test ih false f e = ih e

-- no row of a lot stands behind one of a higher lot
none_behind : (l : ℕ) (r : HoldingHistoryRow) (rows : List HoldingHistoryRow) → nat_lt l r.lot ≡ true → AllByRecursion (λ q. nat_lt q.lot r.lot ≡ false) rows → filter (λ q. q.lot == l) rows ≡ []
none_behind l r [] e h = refl
none_behind l r (q ∷ rows) e h = ap (λ b. cond b (q ∷ filter (λ q. q.lot == l) rows) (filter (λ q. q.lot == l) rows)) (other q.lot r.lot h.0 e) ∙ none_behind l r rows e h.1
  where
    other : (m n : ℕ) → nat_lt m n ≡ false → nat_lt l n ≡ true → (m == l) ≡ false
    other m n h e = grind (arith, nat_tests)

-- the rows of a lot, and then those of higher lots
split_rows : (l : ℕ) (lots : List ℕ) (rows : List HoldingHistoryRow) → AllByRecursion (λ k. nat_lt l k ≡ true) lots → LotsStand rows
    → filter (λ r. r.lot == l) rows ++ filter (λ r. is_of lots r.lot) rows ≡ filter (λ r. is_of (l ∷ lots) r.lot) rows
split_rows l lots [] h s = refl
split_rows l lots (r ∷ rows) h s = by_tests (split_rows l lots rows h s.1) (r.lot == l) (is_of lots r.lot) refl refl
  where
    of_lot : List HoldingHistoryRow
    of_lot = filter (λ r. r.lot == l) rows

    of_others : List HoldingHistoryRow
    of_others = filter (λ r. is_of lots r.lot) rows

    of_all : List HoldingHistoryRow
    of_all = filter (λ r. is_of (l ∷ lots) r.lot) rows

    by_tests : of_lot ++ of_others ≡ of_all → (b c : Bool) → (r.lot == l) ≡ b → is_of lots r.lot ≡ c
        → cond b (r ∷ of_lot) of_lot ++ cond c (r ∷ of_others) of_others ≡ cond (b || c) (r ∷ of_all) of_all
    by_tests ih true true e f = absurd (let g : false ≡ true = sym (not_of l r.lot lots h e) ∙ f in cc)
    by_tests ih true false e f = ap (λ rs. r ∷ rs) ih
    by_tests ih false true e f =
        let none : of_lot ≡ [] = none_behind l r rows (above_all l r.lot lots h f) s.0 in
        ap (λ rs. rs ++ r ∷ of_others) none ∙ ap (λ rs. r ∷ rs) (ap (λ rs. rs ++ of_others) (sym none) ∙ ih)
    by_tests ih false false e f = ih

gathered : (lots : List ℕ) (rows : List HoldingHistoryRow) → LotsRise lots → LotsStand rows → flat_map (λ l. filter (λ r. r.lot == l) rows) lots ≡ filter (λ r. is_of lots r.lot) rows
gathered [] rows h s = sym (none_pass rows)
gathered (l ∷ lots) rows h s = ap (λ rs. filter (λ r. r.lot == l) rows ++ rs) (gathered lots rows h.1 s) ∙ split_rows l lots rows h.0 s

of_touched : (trade lot : ℕ) (rows : List HoldingHistoryRow) → is_of (touched_lots trade rows) lot ≡ list_any (λ row. (row.trade == trade) && (row.lot == lot)) rows
of_touched trade lot [] = refl
of_touched trade lot (r ∷ rows) = by_test (of_touched trade lot rows) (r.trade == trade)
  where
    by_test : is_of (touched_lots trade rows) lot ≡ list_any (λ row. (row.trade == trade) && (row.lot == lot)) rows → (b : Bool)
        → is_of (map (λ r. r.lot) (cond b (r ∷ filter (λ r. r.trade == trade) rows) (filter (λ r. r.trade == trade) rows))) lot
        ≡ (b && (r.lot == lot)) || list_any (λ row. (row.trade == trade) && (row.lot == lot)) rows
    by_test ih true = λ i. numbers_back lot r.lot i || ih i
    by_test ih false = ih

-- the changes of each lot that a trade touched, lot after lot, are the changes of all these lots
pub touched_by_lot : (base : Base) (trade : ℕ) → BooksInvariant base → AuditInvariant base
    → flat_map (λ lot. filter (λ r. r.lot == lot) (sheets base).holding_history) (map (λ r. r.lot) (filter (λ r. r.trade == trade) (sheets base).holding_history))
    ≡ filter (λ r. trade_touches_lot (sheets base) trade r.lot) (sheets base).holding_history
touched_by_lot base trade books sound =
    let rows : List HoldingHistoryRow = (sheets base).holding_history in
    let climb : Climbs holding_history_key rows = (key_parts (sheets base) (keys_of base books sound)).holding_history in
    gathered (touched_lots trade rows) rows (rise_so trade rows climb) (stand_so rows climb)
    ∙ same_rows (λ r. is_of (touched_lots trade rows) r.lot) (λ r. trade_touches_lot (sheets base) trade r.lot) rows (λ r. of_touched trade r.lot rows)
