-- The changes of a lot, in the order in which their trades were completed, form a chain.
use Rattle.std.proofs.Common.{◌≡◌, ◌<◌, ℕ, ◌==◌, Bool, true, false, not, cond, List, [], ◌∷◌, ◌++◌, refl, sym, ◌∙◌, ap, subst, map, filter, arith, ℤ, pos, negsuc, zero, suc, ◌-ℤ◌, Option, Some, None}
use Rattle.std.specs.Prelude.{⊤, find, flat_map, is_some, nat_lt, option_map}
use Rattle.std.specs.Option.{option_map_or}
use Rattle.std.specs.List.{AllByRecursion}
use Rattle.std.proofs.lemmas.Bool.{eqb-true, ne_eqb}
use Rattle.std.proofs.lemmas.Bool.Decides.{nat_tests}
use Rattle.std.proofs.lemmas.Int.{ints}
use Rattle.brk_money.specs.declared.side.Side.{Side}
use Rattle.brk_money.specs.declared.side.Side.TheVariants.{Buy}
use Rattle.brk_lots.specs.Chains.{IsLotHistory, changes_of_lot}
use Rattle.brk_lots.specs.Deals.{AreDistinctAscendingDeals}
use Rattle.brk_lots.proofs.Books.{side_after}
use Rattle.brk_lots.proofs.Counts.{OneSide}
use Rattle.brk_lots.proofs.Deals.{all_after}
use Rattle.brk_model.specs.Base.{Base, completed_trades, is_completed, last_status_stamp_of_trade, trade_with_id}
use Rattle.brk_model.specs.Derived.{deal_of_trade, deals_of_position, shares_of_position}
use Rattle.brk_model.specs.Joins.{trade_row_with_id}
use Rattle.brk_model.specs.Keys.{rows_sorted_by_key, holding_history_key, is_row_key_less}
use Rattle.brk_model.specs.Lists.{insert_by, is_zero, sort_by}
use Rattle.brk_model.specs.LookupView.{stamp_of_touching_trade}
use Rattle.brk_model.specs.Records.{Trade}
use Rattle.brk_model.specs.Shares.{Deal, Share, lot_quantity, shares_after_deal}
use Rattle.brk_model.specs.Sheets.{sheets, tables_sorted_by_key}
use Rattle.brk_model.specs.Tables.{HoldingHistoryRow, HoldingRow, holding_row, tables_of_base_in_schema, trade_row}
use Rattle.brk_lots.proofs.HistoryRows.{rows_of_lots_are}
use Rattle.brk_lots.specs.HistoryRows.{has_quantity_change, lot_rows_with_quantity_change, lot_history_rows_per_deal, touch_of_row}
use Rattle.brk_trade_books.specs.Books.{BooksInvariant}
use Rattle.brk_trade_books.specs.Lives.{LotChangesFormChain, BeginsWithTradeOfLot, AllLotChangesFormChains, lot_changes_by_stamp, remaining_lot_quantity}
use Rattle.brk_trade_books.proofs.Histories.{Others, filter-flat_map, no_rows}
use Rattle.brk_trade_books.proofs.LotOrder.{Follows, InOrder, held_in_order, of_held, trades_held}
use Rattle.brk_trade_books.proofs.LotReading.{All-sort, IdsApart, holdings_in_order, is_left, numbered_rise, rise_apart, rise_filter}
use Rattle.brk_trade_books.proofs.Order.{by_key-filter, insert_commute, insert_front}
use Rattle.brk_trade_books.proofs.Places.{FoundAt, filter-all, find-at, map-append}
use Rattle.brk_trade_books.proofs.References.{append_nil}
use Rattle.brk_trade_books.proofs.RunLaws.{deals_are, lot_lives}
use Rattle.brk_trade_books.proofs.Same.{NonePass, All-filter, All-map, All-mapped, filter-none, find-none, flat_map-append, flat_map-empty}
use Rattle.brk_trade_books.proofs.SumReading.{found_each}
use Rattle.brk_trade_books.proofs.Touching.{Without, lot_without, unchanged, without_of}
use Rattle.brk_trade_books.proofs.TradeReading.{reads_trade}

-- ---- rows that rise by a number

-- each number is above those before it
abbrev Rise : {X : Type 0} → (X → ℕ) → List X → Type 0
Rise m [] = ⊤
Rise m (x ∷ xs) = AllByRecursion (λ y. m x < m y) xs × Rise m xs

rise_left : {X : Type 0} (m : X → ℕ) (p : X → Bool) (xs : List X) → Rise m xs → Rise m (filter p xs)
rise_left m p [] r = tt
rise_left m p (x ∷ xs) r =
    elim (p x) as (λ b. Rise m (cond b (x ∷ filter p xs) (filter p xs)))
    [ true ↦ (All-filter (λ y. m x < m y) p xs r.0, rise_left m p xs r.1) | false ↦ rise_left m p xs r.1 ]

-- the order by that number
abbrev by : {X : Type 0} → (X → ℕ) → X → X → Bool
by m x y = nat_lt (m x) (m y)

splits : (x y z : ℕ) → nat_lt z x ≡ true → nat_lt z y ≡ false → nat_lt y x ≡ true
splits x y z g h = grind (arith, nat_tests)

not_before : (x y : ℕ) → x < y → nat_lt y x ≡ false
not_before x y h = grind (arith, nat_tests)

is_before : (x y : ℕ) → x < y → nat_lt x y ≡ true
is_before x y h = grind (arith, nat_tests)

sort_put : {X : Type 0} (m : X → ℕ) (before : X → X → Bool) (x : X) (ys : List X) → AllByRecursion (λ y. m x < m y) ys
    → sort_by (by m) (insert_by before x ys) ≡ insert_by (by m) x (sort_by (by m) ys)
unfolding sort_by
sort_put m before x [] h = refl
sort_put {X = X} m before x (y ∷ ys) h = by_test (sort_put m before x ys h.1) (before y x)
  where
    turned : by m y x ≡ not (by m x y)
    turned = not_before (m x) (m y) h.0 ∙ sym (ap not (is_before (m x) (m y) h.0))

    by_test : sort_by (by m) (insert_by before x ys) ≡ insert_by (by m) x (sort_by (by m) ys) → (b : Bool)
        → sort_by (by m) (cond b (y ∷ insert_by before x ys) (x ∷ y ∷ ys)) ≡ insert_by (by m) x (insert_by (by m) y (sort_by (by m) ys))
    by_test ih true = ap (insert_by (by m) y) ih ∙ insert_commute (by m) x y (sort_by (by m) ys) (λ a b c g k. splits (m a) (m b) (m c) g k) turned
    by_test ih false = refl

-- in whatever order they were put, they stand as they rise
sort_any : {X : Type 0} (m : X → ℕ) (before : X → X → Bool) (xs : List X) → Rise m xs → sort_by (by m) (sort_by before xs) ≡ xs
unfolding sort_by
sort_any m before [] r = refl
sort_any m before (x ∷ xs) r =
    sort_put m before x (sort_by before xs) (All-sort (λ y. m x < m y) before xs r.0)
    ∙ ap (insert_by (by m) x) (sort_any m before xs r.1)
    ∙ insert_front (by m) x xs (All-map xs (λ y h. not_before (m x) (m y) h) r.0)

-- ---- the changes of one lot

lots_same : (lot : ℕ) (shares : List Share) (deals : List Deal) → AllByRecursion (λ r. r.lot ≡ lot) (lot_history_rows_per_deal lot shares deals)
lots_same lot shares [] = tt
lots_same lot shares (d ∷ deals) = (refl, lots_same lot (shares_after_deal shares d) deals)

zero_is : (z : ℤ) → is_zero z ≡ true → z ≡ pos 0
zero_is (pos zero) e = refl
zero_is (pos (suc n)) e = absurd (cc)
zero_is (negsuc n) e = absurd (cc)

-- what is left of nothing is nothing
zero_left : (a b : ℤ) → a ≡ pos 0 → not (is_zero (a -ℤ b)) ≡ false → is_zero b ≡ true
zero_left a b e f = let d : a -ℤ b ≡ pos 0 = zero_is (a -ℤ b) (is_true (is_zero (a -ℤ b)) f) in let none : b ≡ pos 0 = omega (arith, ints, d, e) in ap is_zero none
  where
    is_true : (c : Bool) → not c ≡ false → c ≡ true
    is_true true f = refl
    is_true false f = absurd (cc)

-- the first deal that changes the lot of a trade is that trade's
opened_first : (id : ℕ) (side : Side) (shares : List Share) (deals : List Deal) → OneSide side shares → Without id shares → AreDistinctAscendingDeals deals
    → BeginsWithTradeOfLot id (filter has_quantity_change (lot_history_rows_per_deal id shares deals))
opened_first id side shares [] one w a = tt
opened_first id side shares (d ∷ deals) one w a = by_trade (d.trade == id) refl (opened_first id next.0 after deals next.1)
  where
    after : List Share
    after = shares_after_deal shares d

    next : (s : Side) × OneSide s after
    next = side_after side d shares one

    row : HoldingHistoryRow
    row = record { lot = id; trade = d.trade; before = lot_quantity shares id; after = lot_quantity after id }

    rest : List HoldingHistoryRow
    rest = filter has_quantity_change (lot_history_rows_per_deal id after deals)

    others : d.trade ≡ id → Others id deals
    others own = All-map deals (λ e l. ne_eqb e.trade id (λ same. l.0 (own ∙ sym same))) a.0

    by_own : (b : Bool) → has_quantity_change row ≡ b → d.trade ≡ id → BeginsWithTradeOfLot id (cond b (row ∷ rest) rest)
    by_own true e own = own
    by_own false e own =
        let none : Without id after = without_of next.0 id after next.1 (zero_left (lot_quantity shares id) (lot_quantity after id) (lot_without id shares w) e) in
        subst (BeginsWithTradeOfLot id) (sym (no_rows id after deals none (others own))) tt

    by_trade : (b : Bool) → (d.trade == id) ≡ b → (Without id after → AreDistinctAscendingDeals deals → BeginsWithTradeOfLot id rest)
        → BeginsWithTradeOfLot id (cond (has_quantity_change row) (row ∷ rest) rest)
    by_trade true e again = by_own (has_quantity_change row) refl (eqb-true d.trade id e)
    by_trade false e again =
        subst (λ c. BeginsWithTradeOfLot id (cond c (row ∷ rest) rest)) (sym (unchanged id d shares e w)) (again (all_after (λ s. (s.trade == id) ≡ false) d shares e w) a.1)

-- the stamp of a trade, as the tables tell it
abbrev stamp_in : Base → ℕ → ℕ
stamp_in base id = option_map_or (λ t. t.stamp) (trade_row_with_id (sheets base) id) 0

stamp_is : (base : Base) (t : Trade) → trade_with_id base t.id ≡ Some t → stamp_in base t.id ≡ last_status_stamp_of_trade t
stamp_is base t e = ap (λ o. option_map_or (λ t. t.stamp) o 0) (reads_trade base t.id ∙ ap (option_map trade_row) e)

changes_rise : (base : Base) (lot : ℕ) (shares : List Share) (ts : List Trade) → InOrder ts → AllByRecursion (λ u. stamp_in base u.id ≡ last_status_stamp_of_trade u) ts
    → Rise (stamp_of_touching_trade (sheets base)) (lot_history_rows_per_deal lot shares (map deal_of_trade ts))
changes_rise base lot shares [] o h = tt
changes_rise base lot shares (u ∷ ts) o h =
    (behind (shares_after_deal shares (deal_of_trade u)) ts o.0 h.1, changes_rise base lot (shares_after_deal shares (deal_of_trade u)) ts o.1 h.1)
  where
    behind : (left : List Share) (vs : List Trade) → AllByRecursion (Follows u) vs → AllByRecursion (λ v. stamp_in base v.id ≡ last_status_stamp_of_trade v) vs
        → AllByRecursion (λ r. stamp_in base u.id < stamp_of_touching_trade (sheets base) r) (lot_history_rows_per_deal lot left (map deal_of_trade vs))
    behind left [] f k = tt
    behind left (v ∷ vs) f k =
        let lt : last_status_stamp_of_trade u < last_status_stamp_of_trade v = f.0.1 in (
          subst (λ (n : ℕ). n < stamp_in base v.id) (sym h.0) (subst (λ (n : ℕ). last_status_stamp_of_trade u < n) (sym k.0) lt),
          behind (shares_after_deal left (deal_of_trade v)) vs f.1 k.1,
        )

done_found : (base : Base) → BooksInvariant base → AllByRecursion (λ t. trade_with_id base t.id ≡ Some t) (completed_trades base)
done_found base books =
    All-filter (λ t. trade_with_id base t.id ≡ Some t) is_completed base.trades (found_each base.trades (rise_apart base.trades (numbered_rise 1 base.trades books.numbered)))

history_rises : (base : Base) (t : Trade) → BooksInvariant base → Rise (stamp_of_touching_trade (sheets base)) (lot_rows_with_quantity_change (completed_trades base) t)
history_rises base t books =
    rise_left (stamp_of_touching_trade (sheets base)) has_quantity_change (lot_history_rows_per_deal t.id [] (deals_of_position (completed_trades base) t.account t.symbol))
    (changes_rise base t.id [] (trades_held base t.account t.symbol) (held_in_order base t.account t.symbol books)
    (of_held (λ u. stamp_in base u.id ≡ last_status_stamp_of_trade u) base t.account t.symbol (All-map (completed_trades base) (λ u e. stamp_is base u e) (done_found base books))))

-- ---- among the changes of all lots

ids_after : (xs : List Trade) (t : Trade) (ys : List Trade) → IdsApart (xs ++ t ∷ ys) → NonePass (λ u. u.id == t.id) ys
ids_after [] t ys d = d.0
ids_after (x ∷ xs) t ys d = ids_after xs t ys d.1

done_apart : (base : Base) → BooksInvariant base → IdsApart (completed_trades base)
done_apart base books = rise_apart (completed_trades base) (rise_filter is_completed base.trades (numbered_rise 1 base.trades books.numbered))

abbrev of_lot : ℕ → HoldingHistoryRow → Bool
of_lot lot h = h.lot == lot

own_lots : (done : List Trade) (t : Trade) → AllByRecursion (λ r. r.lot ≡ t.id) (lot_rows_with_quantity_change done t)
own_lots done t = All-filter (λ r. r.lot ≡ t.id) has_quantity_change (lot_history_rows_per_deal t.id [] (deals_of_position done t.account t.symbol))
    (lots_same t.id [] (deals_of_position done t.account t.symbol))

none_other : (done : List Trade) (lot : ℕ) (ts : List Trade) → NonePass (λ u. u.id == lot) ts → flat_map (λ u. filter (of_lot lot) (lot_rows_with_quantity_change done u)) ts ≡ []
none_other done lot ts h =
    flat_map-empty (λ u. filter (of_lot lot) (lot_rows_with_quantity_change done u)) ts
    (All-map ts (λ u e. filter-none (of_lot lot) (lot_rows_with_quantity_change done u)
    (All-map (lot_rows_with_quantity_change done u) (λ r same. ap (λ (n : ℕ). n == lot) same ∙ e) (own_lots done u))) h)

own_changes : (done : List Trade) (lot : ℕ) (t : Trade) → IdsApart done → (f : FoundAt Trade (λ u. u.id == lot) t done)
    → filter (of_lot lot) (flat_map (lot_rows_with_quantity_change done) done) ≡ lot_rows_with_quantity_change done t
own_changes done lot t d f =
    let F : Trade → List HoldingHistoryRow = λ u. filter (of_lot lot) (lot_rows_with_quantity_change done u) in
    let same : t.id ≡ lot = eqb-true t.id lot f.passes in
    let after : NonePass (λ u. u.id == lot) f.after = subst (λ (n : ℕ). NonePass (λ u. u.id == n) f.after) same (ids_after f.before t f.after (subst IdsApart f.stands d)) in
    filter-flat_map (of_lot lot) (lot_rows_with_quantity_change done) done
    ∙ ap (flat_map F) f.stands ∙ flat_map-append F f.before (t ∷ f.after)
    ∙ (λ i. none_other done lot f.before f.others i ++ (F t ++ none_other done lot f.after after i))
    ∙ append_nil (F t)
    ∙ filter-all (of_lot lot) (lot_rows_with_quantity_change done t) (All-map (lot_rows_with_quantity_change done t) (λ r e. ap (λ (n : ℕ). n == lot) e ∙ f.passes) (own_lots done t))

history_is : (base : Base) → (sheets base).holding_history ≡ rows_sorted_by_key holding_history_key (flat_map (lot_rows_with_quantity_change (completed_trades base)) (completed_trades base))
unfolding tables_of_base_in_schema tables_sorted_by_key
history_is base = ap (rows_sorted_by_key holding_history_key) (rows_of_lots_are (completed_trades base) (completed_trades base))

changes_of : (base : Base) (lot : ℕ) (rows : List HoldingHistoryRow) → filter (of_lot lot) (flat_map (lot_rows_with_quantity_change (completed_trades base)) (completed_trades base)) ≡ rows
    → Rise (stamp_of_touching_trade (sheets base)) rows → lot_changes_by_stamp (sheets base) lot ≡ rows
changes_of base lot rows e r =
    let S : HoldingHistoryRow → HoldingHistoryRow → Bool = by (stamp_of_touching_trade (sheets base)) in
    ap (λ rs. sort_by S (filter (of_lot lot) rs)) (history_is base)
    ∙ ap (sort_by S) (sym (by_key-filter holding_history_key (of_lot lot) (flat_map (lot_rows_with_quantity_change (completed_trades base)) (completed_trades base)))
    ∙ ap (rows_sorted_by_key holding_history_key) e)
    ∙ sort_any (stamp_of_touching_trade (sheets base)) (is_row_key_less holding_history_key) rows r

-- ---- what is left

none_found : {X : Type 0} (p : X → Bool) (xs : List X) → NonePass p xs → find p xs ≡ None
none_found p [] h = refl
none_found p (x ∷ xs) h = ap (λ b. cond b (Some x) (find p xs)) h.0 ∙ none_found p xs h.1

find_left : {X : Type 0} (p q : X → Bool) (xs : List X) (x : X) (ys : List X) → NonePass p xs → p x ≡ true → NonePass p ys
    → find p (filter q (xs ++ x ∷ ys)) ≡ cond (q x) (Some x) None
find_left p q [] x ys g e h = by_test (q x)
  where
    by_test : (b : Bool) → find p (cond b (x ∷ filter q ys) (filter q ys)) ≡ cond b (Some x) None
    by_test true = ap (λ b. cond b (Some x) (find p (filter q ys))) e
    by_test false = none_found p (filter q ys) (All-filter (λ y. p y ≡ false) q ys h)
find_left {X = X} p q (y ∷ xs) x ys g e h = by_test (q y) (find_left p q xs x ys g.1 e h)
  where
    by_test : (b : Bool) → find p (filter q (xs ++ x ∷ ys)) ≡ cond (q x) (Some x) None
        → find p (cond b (y ∷ filter q (xs ++ x ∷ ys)) (filter q (xs ++ x ∷ ys))) ≡ cond (q x) (Some x) None
    by_test true ih = ap (λ b. cond b (Some y) (find p (filter q (xs ++ x ∷ ys)))) g.0 ∙ ih
    by_test false ih = ih

left_or : (row : HoldingRow) (q : ℤ) → row.qty ≡ q → option_map_or (λ h. h.qty) (cond (not (is_zero q)) (Some row) None) (pos 0) ≡ q
left_or row (pos zero) e = refl
left_or row (pos (suc n)) e = e
left_or row (negsuc n) e = e

abbrev opened : ℕ → HoldingRow → Bool
opened lot h = h.trade == lot

left_is : (base : Base) (lot : ℕ) (t : Trade) → BooksInvariant base → (f : FoundAt Trade (λ u. u.id == lot) t (completed_trades base))
    → remaining_lot_quantity (sheets base) lot ≡ (holding_row (completed_trades base) t).qty
left_is base lot t books f =
    let done : List Trade = completed_trades base in
    let row : Trade → HoldingRow = holding_row done in
    let same : t.id ≡ lot = eqb-true t.id lot f.passes in
    let after : NonePass (λ u. u.id == lot) f.after =
    subst (λ (n : ℕ). NonePass (λ u. u.id == n) f.after) same (ids_after f.before t f.after (subst IdsApart f.stands (done_apart base books))) in
    ap (λ o. option_map_or (λ h. h.qty) o (pos 0))
    (ap (find (opened lot)) (holdings_in_order base books.numbered)
    ∙ ap (λ rows. find (opened lot) (filter is_left rows)) (ap (map row) f.stands ∙ map-append row f.before (t ∷ f.after))
    ∙ find_left (opened lot) is_left (map row f.before) (row t) (map row f.after)
    (All-mapped (λ h. opened lot h ≡ false) row f.before f.others) f.passes (All-mapped (λ h. opened lot h ≡ false) row f.after after))
    ∙ left_or (row t) (row t).qty refl

-- ---- each lot

of_done : (base : Base) (lot : ℕ) (t : Trade) → BooksInvariant base → find (λ u. u.id == lot) (completed_trades base) ≡ Some t → LotChangesFormChain (sheets base) lot
unfolding shares_of_position
of_done base lot t books e =
    let f : FoundAt Trade (λ u. u.id == lot) t (completed_trades base) = find-at (λ u. u.id == lot) (completed_trades base) t e in
    let deals : List Deal = deals_of_position (completed_trades base) t.account t.symbol in
    let same : t.id ≡ lot = eqb-true t.id lot f.passes in
    let changes : lot_changes_by_stamp (sheets base) lot ≡ lot_rows_with_quantity_change (completed_trades base) t =
    changes_of base lot (lot_rows_with_quantity_change (completed_trades base) t) (own_changes (completed_trades base) lot t (done_apart base books) f) (history_rises base t books) in
    let rows : map touch_of_row (lot_changes_by_stamp (sheets base) lot) ≡ changes_of_lot t.id deals [] = ap (map touch_of_row) changes in
    record {
      opened = subst (BeginsWithTradeOfLot lot) (sym changes)
          (subst (λ (n : ℕ). BeginsWithTradeOfLot n (lot_rows_with_quantity_change (completed_trades base) t)) same
          (opened_first t.id Buy [] deals tt tt (deals_are base t.account t.symbol books)));
      life = subst (λ rs. IsLotHistory rs (remaining_lot_quantity (sheets base) lot)) (sym rows)
          (subst (λ q. IsLotHistory (changes_of_lot t.id deals []) q) (sym (left_is base lot t books f)) (lot_lives base t.account t.symbol t.id books));
    }

of_none : (base : Base) (lot : ℕ) → BooksInvariant base → find (λ u. u.id == lot) (completed_trades base) ≡ None → LotChangesFormChain (sheets base) lot
of_none base lot books e =
    let none : NonePass (λ u. u.id == lot) (completed_trades base) = find-none (λ u. u.id == lot) (completed_trades base) (ap is_some e) in
    let rows : lot_changes_by_stamp (sheets base) lot ≡ [] =
    changes_of base lot []
    (filter-flat_map (of_lot lot) (lot_rows_with_quantity_change (completed_trades base)) (completed_trades base)
    ∙ none_other (completed_trades base) lot (completed_trades base) none) tt in
    let left : remaining_lot_quantity (sheets base) lot ≡ pos 0 =
    ap (λ o. option_map_or (λ h. h.qty) o (pos 0))
    (ap (find (opened lot)) (holdings_in_order base books.numbered)
    ∙ none_found (opened lot) (filter is_left (map (holding_row (completed_trades base)) (completed_trades base)))
    (All-filter (λ h. opened lot h ≡ false) is_left (map (holding_row (completed_trades base)) (completed_trades base))
    (All-mapped (λ h. opened lot h ≡ false) (holding_row (completed_trades base)) (completed_trades base) none))) in
    record { opened = subst (BeginsWithTradeOfLot lot) (sym rows) tt; life = subst (λ rs. IsLotHistory (map touch_of_row rs) (remaining_lot_quantity (sheets base) lot)) (sym rows) (sym left) }

pub lots_live_on : (base : Base) → BooksInvariant base → AllLotChangesFormChains (sheets base)
lots_live_on base books lot = by_trade (find (λ u. u.id == lot) (completed_trades base)) refl
  where
    by_trade : (o : Option Trade) → find (λ u. u.id == lot) (completed_trades base) ≡ o → LotChangesFormChain (sheets base) lot
    by_trade (Some t) e = of_done base lot t books e
    by_trade None e = of_none base lot books e
