-- The tables have a change of a lot for each deal of its trades that changes it, in order.
use Rattle.std.proofs.Common.{◌≡◌, ◌<◌, ℕ, ◌==◌, ◌&&◌, Bool, true, false, not, cond, List, [], ◌∷◌, ◌++◌, refl, sym, ◌∙◌, ap, subst, map, filter, arith}
use Rattle.std.specs.Prelude.{⊤, flat_map, nat_lt}
use Rattle.std.specs.List.{AllByRecursion}
use Rattle.std.proofs.lemmas.Bool.{eqb-true, eq-eqb}
use Rattle.std.proofs.lemmas.Bool.Decides.{nat_tests}
use Rattle.brk_model.specs.Base.{Base, completed_trades, last_status_stamp_of_trade}
use Rattle.brk_model.specs.Derived.{deal_of_trade, deals_of_position}
use Rattle.brk_model.specs.Keys.{rows_sorted_by_key, holding_history_key, is_row_key_less}
use Rattle.brk_model.specs.Lists.{sort_by}
use Rattle.brk_model.specs.Records.{Trade}
use Rattle.brk_model.specs.Shares.{Deal, Share, shares_after_deal}
use Rattle.brk_model.specs.Sheets.{sheets}
use Rattle.brk_model.specs.Tables.{HoldingHistoryRow, Tables}
use Rattle.brk_lots.specs.HistoryRows.{has_quantity_change, lot_rows_with_quantity_change, lot_history_rows_per_deal}
use Rattle.brk_model_explain.specs.Holdings.{LotChange, is_change_of_lot_by_other_trade, recorded_lot_change, changes_of_lot_by_other_trades}
use Rattle.brk_model_explain.specs.Trades.{trade_stamp_or_zero, opened_lot_row}
use Rattle.brk_trade_books.specs.Books.{BooksInvariant}
use Rattle.brk_trade_books.specs.Lives.{BeginsWithTradeOfLot, lot_changes_by_stamp}
use Rattle.brk_trade_books.proofs.Histories.{filter-flat_map}
use Rattle.brk_trade_books.proofs.LotLives.{lots_live_on}
use Rattle.brk_trade_books.proofs.LotOrder.{Follows, InOrder, held_in_order, of_held, trades_held}
use Rattle.brk_trade_books.proofs.LotReading.{filter-both, filter-swap}
use Rattle.brk_trade_books.proofs.Order.{Sorted, append_nil, by_key-filter, sort_filter, sort_sorted}
use Rattle.brk_trade_books.proofs.Places.{filter-all}
use Rattle.brk_trade_books.proofs.Same.{NonePass, All-filter, All-map, filter-none, flat_map-append, flat_map-empty}
use Rattle.brk_view_theorems.proofs.Among.{Among}
use Rattle.brk_view_theorems.proofs.SortedRows.{Apart, by, by_one_way, by_splits, find_first, first, sort_again, sort_map}
use Rattle.brk_view_theorems.proofs.TradeRows.{done_found, history_is, stamp_is}

-- ---- rows that rise by a number

-- each number is above those before it
abbrev Rise : {X : Type 0} → (X → ℕ) → List X → Type 0
Rise m [] = ⊤
Rise m (x ∷ xs) = AllByRecursion (λ y. m x < m y) xs × Rise m xs

rise_left : {X : Type 0} (m : X → ℕ) (p : X → Bool) (xs : List X) → Rise m xs → Rise m (filter p xs)
rise_left m p [] r = tt
rise_left m p (x ∷ xs) r =
    elim (p x) as (λ b. Rise m (cond b (x ∷ filter p xs) (filter p xs)))
    [ true ↦ (All-filter (λ y. m x < m y) p xs r.0, rise_left m p xs r.1) | false ↦ rise_left m p xs r.1 ]

not_same : (a b : ℕ) → a < b → (b == a) ≡ false
not_same a b h = grind (arith, nat_tests)

not_before : (a b : ℕ) → a < b → nat_lt b a ≡ false
not_before a b h = grind (arith, nat_tests)

rise_is_apart : {X : Type 0} (m : X → ℕ) (xs : List X) → Rise m xs → Apart m xs
rise_is_apart m [] r = tt
rise_is_apart m (x ∷ xs) r = (All-map xs (λ y h. not_same (m x) (m y) h) r.0, rise_is_apart m xs r.1)

rise_is_sorted : {X : Type 0} (m : X → ℕ) (xs : List X) → Rise m xs → Sorted (by m) xs
rise_is_sorted m [] r = tt
rise_is_sorted m (x ∷ xs) r = (All-map xs (λ y h. not_before (m x) (m y) h) r.0, rise_is_sorted m xs r.1)

as_they_rise : {X : Type 0} (m : X → ℕ) (before : X → X → Bool) (xs : List X) → Rise m xs → sort_by (by m) (sort_by before xs) ≡ xs
as_they_rise m before xs r = sort_again m before xs (rise_is_apart m xs r) ∙ sort_sorted (by m) xs (rise_is_sorted m xs r)

-- ---- the rows of a lot

-- the stamp of the trade that made a row
abbrev made_at : Base → HoldingHistoryRow → ℕ
made_at base r = trade_stamp_or_zero (sheets base) r.trade

rows_rise : (base : Base) (lot : ℕ) (shares : List Share) (ts : List Trade) → InOrder ts → AllByRecursion (λ u. trade_stamp_or_zero (sheets base) u.id ≡ last_status_stamp_of_trade u) ts
    → Rise (made_at base) (lot_history_rows_per_deal lot shares (map deal_of_trade ts))
rows_rise base lot shares [] o h = tt
rows_rise base lot shares (u ∷ ts) o h = (behind (shares_after_deal shares (deal_of_trade u)) ts o.0 h.1, rows_rise base lot (shares_after_deal shares (deal_of_trade u)) ts o.1 h.1)
  where
    behind : (left : List Share) (vs : List Trade) → AllByRecursion (Follows u) vs → AllByRecursion (λ v. trade_stamp_or_zero (sheets base) v.id ≡ last_status_stamp_of_trade v) vs
        → AllByRecursion (λ r. trade_stamp_or_zero (sheets base) u.id < made_at base r) (lot_history_rows_per_deal lot left (map deal_of_trade vs))
    behind left [] f k = tt
    behind left (v ∷ vs) f k =
        let lt : last_status_stamp_of_trade u < last_status_stamp_of_trade v = f.0.1 in (
          subst (λ (n : ℕ). n < trade_stamp_or_zero (sheets base) v.id) (sym h.0) (subst (λ (n : ℕ). last_status_stamp_of_trade u < n) (sym k.0) lt),
          behind (shares_after_deal left (deal_of_trade v)) vs f.1 k.1,
        )

history_rises : (base : Base) (v : Trade) → BooksInvariant base → Rise (made_at base) (lot_rows_with_quantity_change (completed_trades base) v)
history_rises base v books =
    rise_left (made_at base) has_quantity_change (lot_history_rows_per_deal v.id [] (deals_of_position (completed_trades base) v.account v.symbol))
    (rows_rise base v.id [] (trades_held base v.account v.symbol) (held_in_order base v.account v.symbol books)
    (of_held (λ u. trade_stamp_or_zero (sheets base) u.id ≡ last_status_stamp_of_trade u) base v.account v.symbol (All-map (completed_trades base) (λ u e. stamp_is base u e) (done_found base books))))

lots_same : (lot : ℕ) (shares : List Share) (deals : List Deal) → AllByRecursion (λ r. r.lot ≡ lot) (lot_history_rows_per_deal lot shares deals)
lots_same lot shares [] = tt
lots_same lot shares (d ∷ deals) = (refl, lots_same lot (shares_after_deal shares d) deals)

own_lots : (done : List Trade) (u : Trade) → AllByRecursion (λ r. r.lot ≡ u.id) (lot_rows_with_quantity_change done u)
own_lots done u = All-filter (λ r. r.lot ≡ u.id) has_quantity_change (lot_history_rows_per_deal u.id [] (deals_of_position done u.account u.symbol))
    (lots_same u.id [] (deals_of_position done u.account u.symbol))

abbrev of_lot : ℕ → HoldingHistoryRow → Bool
of_lot lot r = r.lot == lot

none_other : (done : List Trade) (lot : ℕ) (ts : List Trade) → NonePass (λ u. u.id == lot) ts → flat_map (λ u. filter (of_lot lot) (lot_rows_with_quantity_change done u)) ts ≡ []
none_other done lot ts h =
    flat_map-empty (λ u. filter (of_lot lot) (lot_rows_with_quantity_change done u)) ts
    (All-map ts (λ u e. filter-none (of_lot lot) (lot_rows_with_quantity_change done u)
    (All-map (lot_rows_with_quantity_change done u) (λ r same. ap (λ (n : ℕ). n == lot) same ∙ e) (own_lots done u))) h)

-- the rows of the lot, in the order of the table
rows_of_lot : (base : Base) (v : Trade) → Among base v
    → filter (of_lot v.id) (sheets base).holding_history ≡ rows_sorted_by_key holding_history_key (lot_rows_with_quantity_change (completed_trades base) v)
rows_of_lot base v a =
    ap (filter (of_lot v.id)) (history_is base) ∙ sym (by_key-filter holding_history_key (of_lot v.id) (flat_map L done))
    ∙ ap (rows_sorted_by_key holding_history_key) (filter-flat_map (of_lot v.id) L done ∙ ap (flat_map F) a.stands ∙ flat_map-append F a.front (v ∷ a.back)
    ∙ (λ i. none_other done v.id a.front a.ids_before i ++ (F v ++ none_other done v.id a.back a.ids_after i)) ∙ append_nil (F v)
    ∙ filter-all (of_lot v.id) (L v) (All-map (L v) (λ r e. ap (λ (n : ℕ). n == v.id) e ∙ eq-eqb v.id v.id refl) (own_lots done v)))
  where
    done : List Trade
    done = completed_trades base

    L : Trade → List HoldingHistoryRow
    L = lot_rows_with_quantity_change done

    F : Trade → List HoldingHistoryRow
    F u = filter (of_lot v.id) (L u)

-- by the stamps of the trades that made them, the changes follow the deals
pub in_turn_of : (base : Base) (v : Trade) → BooksInvariant base → Among base v → lot_changes_by_stamp (sheets base) v.id ≡ lot_rows_with_quantity_change (completed_trades base) v
in_turn_of base v books a =
    ap (sort_by (by (made_at base))) (rows_of_lot base v a)
    ∙ as_they_rise (made_at base) (is_row_key_less holding_history_key) (lot_rows_with_quantity_change (completed_trades base) v) (history_rises base v books)

-- ---- the first, and the later ones

abbrev pub rest : {X : Type 0} → List X → List X
rest [] = []
rest (x ∷ xs) = xs

abbrev head : {X : Type 0} → List X → List X
head [] = []
head (x ∷ xs) = x ∷ []

later_others : (base : Base) (id : ℕ) (x : HoldingHistoryRow) (xs : List HoldingHistoryRow) → x.trade ≡ id → AllByRecursion (λ y. made_at base x < made_at base y) xs
    → AllByRecursion (λ y. (y.trade == id) ≡ false) xs
later_others base id x xs e h = All-map xs (λ y lt. by_test y (y.trade == id) refl lt) h
  where
    by_test : (y : HoldingHistoryRow) (b : Bool) → (y.trade == id) ≡ b → made_at base x < made_at base y → (y.trade == id) ≡ false
    by_test y false i lt = i
    by_test y true i lt =
        let same : made_at base x ≡ made_at base y = ap (trade_stamp_or_zero (sheets base)) (e ∙ sym (eqb-true y.trade id i)) in
        absurd (never (made_at base x) (made_at base y) lt same)
      where
        never : (m n : ℕ) → m < n → m ≡ n → ⊥
        never m n lt e = omega (arith, lt, e)

filter_own : (base : Base) (id : ℕ) (rows : List HoldingHistoryRow) → BeginsWithTradeOfLot id rows → Rise (made_at base) rows → filter (λ r. r.trade == id) rows ≡ head rows
filter_own base id [] o r = refl
filter_own base id (x ∷ xs) o r =
    ap (λ b. cond b (x ∷ filter (λ r. r.trade == id) xs) (filter (λ r. r.trade == id) xs)) (eq-eqb x.trade id o)
    ∙ ap (λ rows. x ∷ rows) (filter-none (λ r. r.trade == id) xs (later_others base id x xs o r.0))

filter_later : (base : Base) (id : ℕ) (rows : List HoldingHistoryRow) → BeginsWithTradeOfLot id rows → Rise (made_at base) rows → filter (λ r. not (r.trade == id)) rows ≡ rest rows
filter_later base id [] o r = refl
filter_later base id (x ∷ xs) o r =
    ap (λ b. cond (not b) (x ∷ filter (λ r. not (r.trade == id)) xs) (filter (λ r. not (r.trade == id)) xs)) (eq-eqb x.trade id o)
    ∙ filter-all (λ r. not (r.trade == id)) xs (All-map xs (λ y e. ap not e) (later_others base id x xs o r.0))

pub opened_by_own : (base : Base) (v : Trade) → BooksInvariant base → Among base v → BeginsWithTradeOfLot v.id (lot_rows_with_quantity_change (completed_trades base) v)
opened_by_own base v books a = subst (BeginsWithTradeOfLot v.id) (in_turn_of base v books a) (lots_live_on base books v.id).opened

-- the row of the lot's own trade is the first
pub own_is_first : (base : Base) (v : Trade) → BooksInvariant base → Among base v → opened_lot_row (sheets base) v.id ≡ first (lot_rows_with_quantity_change (completed_trades base) v)
unfolding sort_by
own_is_first base v books a =
    find_first (λ r. (r.trade == v.id) && (r.lot == v.id)) H
    ∙ ap first (filter-both E (of_lot v.id) H ∙ filter-swap (of_lot v.id) E H ∙ ap (filter E) (rows_of_lot base v a)
    ∙ sym (by_key-filter holding_history_key E L) ∙ ap (rows_sorted_by_key holding_history_key) (filter_own base v.id L (opened_by_own base v books a) (history_rises base v books)))
    ∙ alone L
  where
    H : List HoldingHistoryRow
    H = (sheets base).holding_history

    L : List HoldingHistoryRow
    L = lot_rows_with_quantity_change (completed_trades base) v

    E : HoldingHistoryRow → Bool
    E r = r.trade == v.id

    alone : (rows : List HoldingHistoryRow) → first (rows_sorted_by_key holding_history_key (head rows)) ≡ first rows
    alone [] = refl
    alone (x ∷ xs) = refl

-- the changes by later trades are the others
pub changes_are_rest : (base : Base) (v : Trade) → BooksInvariant base → Among base v
    → changes_of_lot_by_other_trades (sheets base) v.id ≡ map (recorded_lot_change (sheets base)) (rest (lot_rows_with_quantity_change (completed_trades base) v))
changes_are_rest base v books a =
    sort_map (λ (c : LotChange). c.stamp) (recorded_lot_change T) (filter (is_change_of_lot_by_other_trade v.id) T.holding_history)
    ∙ ap (map (recorded_lot_change T)) (ap (sort_by (by (made_at base))) (filter-both (of_lot v.id) N T.holding_history)
    ∙ sort_filter (by (made_at base)) N (filter (of_lot v.id) T.holding_history) (by_splits (made_at base)) (by_one_way (made_at base))
    ∙ ap (filter N) (in_turn_of base v books a)
    ∙ filter_later base v.id (lot_rows_with_quantity_change (completed_trades base) v) (opened_by_own base v books a) (history_rises base v books))
  where
    T : Tables
    T = sheets base

    N : HoldingHistoryRow → Bool
    N r = not (r.trade == v.id)
