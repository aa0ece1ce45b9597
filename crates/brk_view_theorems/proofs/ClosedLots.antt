-- The closings of a trade are the lots that its deal takes, in the order in which it takes them.
use Rattle.std.proofs.Common.{◌≡◌, ℕ, ◌==◌, ◌&&◌, Bool, true, false, not, List, [], ◌∷◌, ◌++◌, refl, sym, ◌∙◌, ap, map, filter, reverse}
use Rattle.std.specs.List.{AllByRecursion}
use Rattle.std.proofs.lemmas.Bool.{eq-eqb}
use Rattle.brk_model.specs.Base.{Base, completed_trades, last_status_stamp_of_trade}
use Rattle.brk_model.specs.Derived.{deal_of_trade, trades_of_position}
use Rattle.brk_model.specs.Keys.{holding_history_key, is_row_key_less}
use Rattle.brk_model.specs.Lists.{sort_by}
use Rattle.brk_model.specs.Records.{Trade}
use Rattle.brk_model.specs.Shares.{Share, changes_lot_quantity, touch_of_lot, touches_of_existing_lots}
use Rattle.brk_model.specs.Sheets.{sheets}
use Rattle.brk_model.specs.Tables.{HoldingHistoryRow, Tables, holding_history_row, trade_row}
use Rattle.brk_lots.specs.HistoryRows.{has_quantity_change}
use Rattle.brk_lots.specs.Lots as lots_spec
use Rattle.brk_lots.specs.Lots.{abstract_touch}
use Rattle.brk_lots.specs.Walks.{closed_share_count, touches_of_first_shares}
use Rattle.brk_lots.specs.declared.lot.Touch.{Touch}
use Rattle.brk_lots.proofs.Ends.{reverse_first, walk_of}
use Rattle.brk_lots.proofs.Upon.{rows_are}
use Rattle.brk_model_explain.specs.Trades.{Closing, recorded_closing, closings_of_trade, reversed_if_lifo, is_closing_by_trade, trade_stamp_or_zero}
use Rattle.brk_trade_books.specs.Books.{BooksInvariant, HasDistinctLastStatusStamps}
use Rattle.brk_trade_books.proofs.Bools.{numbers_back}
use Rattle.brk_trade_books.proofs.Completing.{is_here, of_here}
use Rattle.brk_trade_books.proofs.LotOrder.{Follows, InOrder, trades_held}
use Rattle.brk_trade_books.proofs.LotReading.{filter-both, filter-map}
use Rattle.brk_trade_books.proofs.Order.{append_nil, sort_filter}
use Rattle.brk_trade_books.proofs.Places.{filter-append}
use Rattle.brk_trade_books.proofs.Same.{All-filter, All-map, filter-none, filter-same}
use Rattle.brk_trade_books.proofs.Touching.{Without, unchanged}
use Rattle.brk_view_theorems.proofs.Held.{Precedes, back_follows, front_in_order, front_precedes, left_by, lots_by, lots_new, lots_position, lots_shares, none_yet, touches_by}
use Rattle.brk_view_theorems.proofs.SortedRows.{Apart, apart_filter, apart_map, apart_same, by, by_one_way, by_splits, sort_again, sort_map, sort_same}
use Rattle.brk_view_theorems.proofs.TradeRows.{IsPlaced, done_found, passes, placed_order, row_by, rows_found, stamp_is}

-- ---- which rows

only_own : (id : ℕ) (r : HoldingHistoryRow) → (r.trade == id) ≡ false → is_closing_by_trade id r ≡ false
only_own id r e = ap (λ b. b && not (r.lot == id)) e

-- the lot is that of another trade, and the deal changes it
abbrev closes_of : Trade → List Share → Trade → Bool
closes_of t us v = not (v.id == t.id) && has_quantity_change (row_by us (deal_of_trade t) v)

passes_closing : (t : Trade) (us : List Share) (v : Trade) → passes (is_closing_by_trade t.id) us t v ≡ closes_of t us v
passes_closing t us v = ap (λ b. (b && not (v.id == t.id)) && has_quantity_change (row_by us (deal_of_trade t) v)) (eq-eqb t.id t.id refl)

apart_moments : (ts : List Trade) → HasDistinctLastStatusStamps ts → Apart last_status_stamp_of_trade ts
apart_moments [] m = tt
apart_moments (t ∷ ts) m = (m.0, apart_moments ts m.1)

stamps_are : (base : Base) → BooksInvariant base → AllByRecursion (λ v. trade_stamp_or_zero (sheets base) v.id ≡ last_status_stamp_of_trade v) (completed_trades base)
stamps_are base books = All-map (completed_trades base) (λ v e. stamp_is base v e) (done_found base books)

-- none of the later trades' lots
none_later : (t : Trade) (us : List Share) (back : List Trade) → AllByRecursion (Follows t) back → AllByRecursion (λ v. Without v.id us) back → AllByRecursion (λ v. closes_of t us v ≡ false) back
none_later t us [] h w = tt
none_later t us (v ∷ back) h w =
    (ap (λ b. not (v.id == t.id) && b) (unchanged v.id (deal_of_trade t) us (numbers_back t.id v.id ∙ h.0.0) w.0) ∙ and_false (not (v.id == t.id)), none_later t us back h.1 w.1)
  where
    and_false : (b : Bool) → b && false ≡ false
    and_false true = refl
    and_false false = refl

-- the deal changes the lot of a trade
abbrev moves_lot : Trade → List Share → Trade → Bool
moves_lot t us v = has_quantity_change (row_by us (deal_of_trade t) v)

-- of the trades of the position it changes lots of earlier ones alone
closed_held : (base : Base) (t : Trade) (front back : List Trade) → IsPlaced base t front back
    → filter (closes_of t (left_by front)) (trades_held base t.account t.symbol) ≡ filter (moves_lot t (left_by front)) front
closed_held base t front back k =
    ap (filter Q) k.stands ∙ filter-append Q front (t ∷ back)
    ∙ (λ i. filter-same Q M front (All-map front (λ v h. ap (λ b. not b && M v) h.0) (front_precedes front t back o)) i
    ++ filter-none Q (t ∷ back) (itself, none_later t (left_by front) back (back_follows front t back o) (none_yet front (t ∷ back) o).1) i)
    ∙ append_nil (filter M front)
  where
    o : InOrder (front ++ t ∷ back)
    o = placed_order base t front back k

    Q : Trade → Bool
    Q = closes_of t (left_by front)

    M : Trade → Bool
    M = moves_lot t (left_by front)

    itself : Q t ≡ false
    itself = ap (λ b. not b && M t) (eq-eqb t.id t.id refl)

-- the rows of the closings, sorted by the stamps of their lots
rows_sorted : (base : Base) (t : Trade) (front back : List Trade) → IsPlaced base t front back
    → sort_by (by (λ (r : HoldingHistoryRow). trade_stamp_or_zero (sheets base) r.lot)) (filter (is_closing_by_trade t.id) (sheets base).holding_history)
    ≡ map (row_by (left_by front) (deal_of_trade t)) (filter (moves_lot t (left_by front)) front)
rows_sorted base t front back k =
    ap (sort_by (by m)) (rows_found base t front back k (is_closing_by_trade t.id) (only_own t.id))
    ∙ sort_again m (is_row_key_less holding_history_key) (map row F)
    (apart_map m row F (apart_filter n here done (apart_same n last_status_stamp_of_trade done stamps (apart_moments done k.books.moments))))
    ∙ sort_map m row F
    ∙ ap (map row) (sort_same n last_status_stamp_of_trade F (All-filter (λ v. n v ≡ last_status_stamp_of_trade v) here done stamps)
    ∙ ap (sort_by (by last_status_stamp_of_trade)) (filter-both (is_here t) (passes (is_closing_by_trade t.id) us t) done
    ∙ (λ i. filter (passes (is_closing_by_trade t.id) us t) (of_here t done i)) ∙ filter-same (passes (is_closing_by_trade t.id) us t) (closes_of t us) P (All-each P))
    ∙ sort_filter (by last_status_stamp_of_trade) (closes_of t us) P (by_splits last_status_stamp_of_trade) (by_one_way last_status_stamp_of_trade)
    ∙ closed_held base t front back k)
  where
    us : List Share
    us = left_by front

    row : Trade → HoldingHistoryRow
    row = row_by us (deal_of_trade t)

    done : List Trade
    done = completed_trades base

    P : List Trade
    P = trades_of_position done t.account t.symbol

    m : HoldingHistoryRow → ℕ
    m r = trade_stamp_or_zero (sheets base) r.lot

    n : Trade → ℕ
    n v = trade_stamp_or_zero (sheets base) v.id

    here : Trade → Bool
    here v = is_here t v && passes (is_closing_by_trade t.id) us t v

    F : List Trade
    F = filter here done

    stamps : AllByRecursion (λ v. trade_stamp_or_zero (sheets base) v.id ≡ last_status_stamp_of_trade v) done
    stamps = stamps_are base k.books

    All-each : (vs : List Trade) → AllByRecursion (λ v. passes (is_closing_by_trade t.id) us t v ≡ closes_of t us v) vs
    All-each [] = tt
    All-each (v ∷ vs) = (passes_closing t us v, All-each vs)

-- a deal of a trade has one row for each lot that it touches
rows_touched : (t : Trade) (front : List Trade) → InOrder front → AllByRecursion (Precedes t) front
    → map (row_by (left_by front) (deal_of_trade t)) (filter (moves_lot t (left_by front)) front) ≡ map (holding_history_row t.id) (touches_of_existing_lots (deal_of_trade t) (left_by front))
rows_touched t front o h =
    each (filter (moves_lot t us) front)
    ∙ ap (map (holding_history_row t.id)) (sym (filter-map changes_lot_quantity (λ v. touch_of_lot v.id (deal_of_trade t) us) front)
    ∙ sym (touches_by front (deal_of_trade t) o (All-map front (λ v k. numbers_back t.id v.id ∙ k.0) h)))
  where
    us : List Share
    us = left_by front

    each : (vs : List Trade) → map (row_by us (deal_of_trade t)) vs ≡ map (holding_history_row t.id) (map (λ v. touch_of_lot v.id (deal_of_trade t) us) vs)
    each [] = refl
    each (v ∷ vs) = ap (λ rows. row_by us (deal_of_trade t) v ∷ rows) (each vs)

-- ---- from the end of the trade

map_reverse : {X Y : Type 0} (f : X → Y) (xs : List X) → map f (reverse xs) ≡ reverse (map f xs)
map_reverse f [] = refl
map_reverse {X = X} {Y = Y} f (x ∷ xs) =
    ap (map f) (reverse_first x xs) ∙ map_last (reverse xs)
    ∙ ap (λ (ys : List Y). ys ++ f x ∷ []) (map_reverse f xs) ∙ sym (reverse_first (f x) (map f xs))
  where
    map_last : (ys : List X) → map f (ys ++ x ∷ []) ≡ map f ys ++ f x ∷ []
    map_last [] = refl
    map_last (y ∷ ys) = ap (λ zs. f y ∷ zs) (map_last ys)

end_map : {X Y : Type 0} (lifo : Bool) (f : X → Y) (xs : List X) → reversed_if_lifo lifo (map f xs) ≡ map f (lots_spec.list_reversed_if_lifo lifo xs)
end_map true f xs = sym (map_reverse f xs)
end_map false f xs = refl

-- the closing of a lot of which a walk takes shares
abbrev pub closing_at : Tables → ℕ → Touch → Closing
closing_at tables id touch = recorded_closing tables (holding_history_row id (abstract_touch touch))

-- the shares that the deal of a trade takes of the lots before it, from its end
abbrev pub taken_by : Trade → List Trade → ℕ
taken_by t front = closed_share_count (deal_of_trade t).side (deal_of_trade t).qty (lots_spec.list_reversed_if_lifo t.is_lifo (lots_by front))

pub closings_are : (base : Base) (t : Trade) (front back : List Trade) → IsPlaced base t front back
    → closings_of_trade (sheets base) (trade_row t) ≡ map (closing_at (sheets base) t.id) (touches_of_first_shares (taken_by t front) (lots_spec.list_reversed_if_lifo t.is_lifo (lots_by front)))
closings_are base t front back k =
    ap (reversed_if_lifo t.is_lifo) (sort_map (λ (c : Closing). c.stamp) (recorded_closing T) (filter (is_closing_by_trade t.id) T.holding_history)
    ∙ ap (map (recorded_closing T)) (rows_sorted base t front back k ∙ rows_touched t front first (front_precedes front t back o)))
    ∙ end_map t.is_lifo (recorded_closing T) (map (holding_history_row t.id) (touches_of_existing_lots (deal_of_trade t) us))
    ∙ ap (map (recorded_closing T)) (lots_map t.is_lifo (holding_history_row t.id) (touches_of_existing_lots (deal_of_trade t) us)
    ∙ ap (map (holding_history_row t.id)) (ap (λ vs. lots_spec.list_reversed_if_lifo t.is_lifo (touches_of_existing_lots (deal_of_trade t) vs)) (sym (lots_shares front first))
    ∙ sym (rows_are (deal_of_trade t) (lots_by front) (walk_of (lots_by front) (lots_position front first)) (lots_new t front (front_precedes front t back o)))))
    ∙ joined (touches_of_first_shares (taken_by t front) (lots_spec.list_reversed_if_lifo t.is_lifo (lots_by front)))
  where
    T : Tables
    T = sheets base

    us : List Share
    us = left_by front

    o : InOrder (front ++ t ∷ back)
    o = placed_order base t front back k

    first : InOrder front
    first = front_in_order front (t ∷ back) o

    lots_map : {X Y : Type 0} (lifo : Bool) (f : X → Y) (xs : List X) → lots_spec.list_reversed_if_lifo lifo (map f xs) ≡ map f (lots_spec.list_reversed_if_lifo lifo xs)
    lots_map true f xs = sym (map_reverse f xs)
    lots_map false f xs = refl

    joined : (ts : List Touch) → map (recorded_closing T) (map (holding_history_row t.id) (map abstract_touch ts)) ≡ map (closing_at T t.id) ts
    joined [] = refl
    joined (x ∷ ts) = ap (λ cs. closing_at T t.id x ∷ cs) (joined ts)
