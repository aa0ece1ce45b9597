-- The rows of HOLDING_HISTORY that a trade made.
use Rattle.std.proofs.Common.{◌≡◌, ℕ, ◌==◌, ◌&&◌, Bool, true, false, cond, List, [], ◌∷◌, ◌++◌, Some, refl, sym, ◌∙◌, ap, subst, map, filter}
use Rattle.std.specs.Prelude.{bytes_eq, flat_map, fold, option_map}
use Rattle.std.specs.Option.{option_map_or}
use Rattle.std.specs.List.{AllByRecursion}
use Rattle.std.proofs.lemmas.Bool.{eqb-true}
use Rattle.brk_money.specs.Spelling.{Text}
use Rattle.brk_model.specs.Base.{Base, completed_trades, is_completed, last_status_stamp_of_trade, trade_with_id}
use Rattle.brk_model.specs.Derived.{deal_of_trade, deals_of_position, trades_of_position}
use Rattle.brk_model.specs.Keys.{rows_sorted_by_key, holding_history_key}
use Rattle.brk_model.specs.Records.{Trade}
use Rattle.brk_model.specs.Shares.{Deal, Share, shares_after_deal, touch_of_lot}
use Rattle.brk_model.specs.Sheets.{sheets, tables_sorted_by_key}
use Rattle.brk_model.specs.Tables.{HoldingHistoryRow, tables_of_base_in_schema, holding_history_row, trade_row}
use Rattle.brk_lots.proofs.HistoryRows.{rows_of_lots_are}
use Rattle.brk_lots.specs.HistoryRows.{has_quantity_change, lot_rows_with_quantity_change, lot_history_rows_per_deal}
use Rattle.brk_model_explain.specs.Trades.{trade_stamp_or_zero}
use Rattle.brk_trade_books.specs.Books.{BooksInvariant}
use Rattle.brk_trade_books.proofs.Completing.{here_deals, is_here, other_way}
use Rattle.brk_trade_books.proofs.Histories.{Others}
use Rattle.brk_trade_books.proofs.LotOrder.{Follows, InOrder, both_hold, held_in_order, of_held, of_its_account, of_its_symbol, trades_held}
use Rattle.brk_trade_books.proofs.LotReading.{All-sort, numbered_rise, rise_apart}
use Rattle.brk_trade_books.proofs.NewKeys.{and_both}
use Rattle.brk_trade_books.proofs.Order.{append_nil, by_key-filter}
use Rattle.brk_trade_books.proofs.Places.{filter-append, map-append}
use Rattle.brk_trade_books.proofs.Same.{All-filter, All-map, filter-none}
use Rattle.brk_trade_books.proofs.SumReading.{found_each}
use Rattle.brk_trade_books.proofs.TradeReading.{reads_trade}
use Rattle.brk_view_theorems.proofs.Held.{Precedes, back_follows, front_precedes, left_by}
use Rattle.brk_view_theorems.proofs.SortedRows.{by}

-- ---- what is known of completed trades

pub done_found : (base : Base) → BooksInvariant base → AllByRecursion (λ t. trade_with_id base t.id ≡ Some t) (completed_trades base)
done_found base books =
    All-filter (λ t. trade_with_id base t.id ≡ Some t) is_completed base.trades (found_each base.trades (rise_apart base.trades (numbered_rise 1 base.trades books.numbered)))

pub stamp_is : (base : Base) (t : Trade) → trade_with_id base t.id ≡ Some t → trade_stamp_or_zero (sheets base) t.id ≡ last_status_stamp_of_trade t
stamp_is base t e = ap (λ o. option_map_or (λ t. t.stamp) o 0) (reads_trade base t.id ∙ ap (option_map trade_row) e)

-- the trades of another position are others
elsewhere : (base : Base) (t : Trade) (account : ℕ) (symbol : Text) → BooksInvariant base → trade_with_id base t.id ≡ Some t → (t.account == account) && bytes_eq t.symbol symbol ≡ false
    → AllByRecursion (λ u. (u.id == t.id) ≡ false) (trades_held base account symbol)
elsewhere base t account symbol books e other =
    All-map W (λ u h. by_test u (u.id == t.id) refl h.0 h.1.0 h.1.1)
    (both_hold Found (λ u. Of u) W (of_held Found base account symbol (done_found base books))
    (both_hold (λ u. (u.account == account) ≡ true) (λ u. bytes_eq u.symbol symbol ≡ true) W
    (All-sort (λ u. (u.account == account) ≡ true) (by last_status_stamp_of_trade) P (of_its_account (completed_trades base) account symbol))
    (All-sort (λ u. bytes_eq u.symbol symbol ≡ true) (by last_status_stamp_of_trade) P (of_its_symbol (completed_trades base) account symbol))))
  where
    P : List Trade
    P = trades_of_position (completed_trades base) account symbol

    W : List Trade
    W = trades_held base account symbol

    Found : Trade → Type 0
    Found u = trade_with_id base u.id ≡ Some u

    Of : Trade → Type 0
    Of u = ((u.account == account) ≡ true) × (bytes_eq u.symbol symbol ≡ true)

    by_test : (u : Trade) (b : Bool) → (u.id == t.id) ≡ b → trade_with_id base u.id ≡ Some u → (u.account == account) ≡ true → bytes_eq u.symbol symbol ≡ true → (u.id == t.id) ≡ false
    by_test u false i f a s = i
    by_test u true i f a s =
        let k : Some u ≡ Some t = sym f ∙ ap (trade_with_id base) (eqb-true u.id t.id i) ∙ e in
        let same : u ≡ t = cc in
        let here : (t.account == account) && bytes_eq t.symbol symbol ≡ true =
        subst (λ v. (v.account == account) && bytes_eq v.symbol symbol ≡ true) same (and_both (u.account == account) (bytes_eq u.symbol symbol) a s) in
        let clash : true ≡ false = sym here ∙ other in absurd (cc)

-- ---- the rows of one lot

-- the row of a deal that changes the lot of a trade
abbrev pub row_by : List Share → Deal → Trade → HoldingHistoryRow
row_by us d v = holding_history_row d.trade (touch_of_lot v.id d us)

rows_split : (lot : ℕ) (us : List Share) (ds : List Deal) (d : Deal) (es : List Deal)
    → lot_history_rows_per_deal lot us (ds ++ d ∷ es)
    ≡ lot_history_rows_per_deal lot us ds ++ holding_history_row d.trade (touch_of_lot lot d (fold shares_after_deal us ds))
    ∷ lot_history_rows_per_deal lot (shares_after_deal (fold shares_after_deal us ds) d) es
rows_split lot us [] d es = refl
rows_split lot us (e ∷ ds) d es = ap (λ rows. holding_history_row e.trade (touch_of_lot lot e us) ∷ rows) (rows_split lot (shares_after_deal us e) ds d es)

rows_of_others : (id lot : ℕ) (us : List Share) (ds : List Deal) → Others id ds → AllByRecursion (λ r. (r.trade == id) ≡ false) (lot_history_rows_per_deal lot us ds)
rows_of_others id lot us [] h = tt
rows_of_others id lot us (d ∷ ds) h = (h.0, rows_of_others id lot (shares_after_deal us d) ds h.1)

-- a test that only rows of one trade pass
abbrev OnlyOf : ℕ → (HoldingHistoryRow → Bool) → Type 0
OnlyOf id p = (r : HoldingHistoryRow) → (r.trade == id) ≡ false → p r ≡ false

none_of_others : (id lot : ℕ) (p : HoldingHistoryRow → Bool) (us : List Share) (ds : List Deal) → OnlyOf id p → Others id ds
    → filter p (filter has_quantity_change (lot_history_rows_per_deal lot us ds)) ≡ []
none_of_others id lot p us ds only h =
    filter-none p (filter has_quantity_change (lot_history_rows_per_deal lot us ds))
    (All-filter (λ r. p r ≡ false) has_quantity_change (lot_history_rows_per_deal lot us ds) (All-map (lot_history_rows_per_deal lot us ds) (λ r k. only r k) (rows_of_others id lot us ds h)))

one_of : (lot : ℕ) (p : HoldingHistoryRow → Bool) (us : List Share) (ds : List Deal) (d : Deal) (es : List Deal) → OnlyOf d.trade p → Others d.trade ds → Others d.trade es
    → filter p (filter has_quantity_change (lot_history_rows_per_deal lot us (ds ++ d ∷ es)))
    ≡ filter p (filter has_quantity_change (holding_history_row d.trade (touch_of_lot lot d (fold shares_after_deal us ds)) ∷ []))
one_of lot p us ds d es only g h =
    ap (λ rows. filter p (filter has_quantity_change rows)) (rows_split lot us ds d es)
    ∙ ap (filter p) (filter-append has_quantity_change X (row ∷ Y) ∙ ap (λ rows. filter has_quantity_change X ++ rows) (filter-append has_quantity_change (row ∷ []) Y))
    ∙ filter-append p (filter has_quantity_change X) (filter has_quantity_change (row ∷ []) ++ filter has_quantity_change Y)
    ∙ (λ i. none_of_others d.trade lot p us ds only g i ++ filter-append p (filter has_quantity_change (row ∷ [])) (filter has_quantity_change Y) i)
    ∙ ap (λ rows. filter p (filter has_quantity_change (row ∷ [])) ++ rows) (none_of_others d.trade lot p (shares_after_deal vs d) es only h)
    ∙ append_nil (filter p (filter has_quantity_change (row ∷ [])))
  where
    vs : List Share
    vs = fold shares_after_deal us ds

    row : HoldingHistoryRow
    row = holding_history_row d.trade (touch_of_lot lot d vs)

    X : List HoldingHistoryRow
    X = lot_history_rows_per_deal lot us ds

    Y : List HoldingHistoryRow
    Y = lot_history_rows_per_deal lot (shares_after_deal vs d) es

twice : (p q : HoldingHistoryRow → Bool) (r : HoldingHistoryRow) → filter p (filter q (r ∷ [])) ≡ cond (p r && q r) (r ∷ []) []
twice p q r = by_test (q r) (p r) refl
  where
    by_test : (b c : Bool) → p r ≡ c → filter p (cond b (r ∷ []) []) ≡ cond (c && b) (r ∷ []) []
    by_test true true e = ap (λ x. cond x (r ∷ []) []) e
    by_test true false e = ap (λ x. cond x (r ∷ []) []) e
    by_test false true e = refl
    by_test false false e = refl

-- ---- the rows of all lots

-- a completed trade among those of its position, the earlier ones and the later ones
pub record IsPlaced (base : Base) (t : Trade) (front back : List Trade) : Type 0 where
  pub books : BooksInvariant base
  pub found : trade_with_id base t.id ≡ Some t
  pub stands : trades_held base t.account t.symbol ≡ front ++ t ∷ back

pub placed_order : (base : Base) (t : Trade) (front back : List Trade) → IsPlaced base t front back → InOrder (front ++ t ∷ back)
placed_order base t front back k = subst InOrder k.stands (held_in_order base t.account t.symbol k.books)

front_others : (t : Trade) (front : List Trade) → AllByRecursion (Precedes t) front → Others t.id (map deal_of_trade front)
front_others t [] h = tt
front_others t (u ∷ front) h = (h.0.0, front_others t front h.1)

back_others : (t : Trade) (back : List Trade) → AllByRecursion (Follows t) back → Others t.id (map deal_of_trade back)
back_others t [] h = tt
back_others t (u ∷ back) h = (h.0.0, back_others t back h.1)

all_others : (id : ℕ) (ts : List Trade) → AllByRecursion (λ u. (u.id == id) ≡ false) ts → Others id (map deal_of_trade ts)
all_others id [] h = tt
all_others id (u ∷ ts) h = (h.0, all_others id ts h.1)

-- the row that the trade made of the lot of another, if it passes
abbrev pub passes : (HoldingHistoryRow → Bool) → List Share → Trade → Trade → Bool
passes p us t v = p (row_by us (deal_of_trade t) v) && has_quantity_change (row_by us (deal_of_trade t) v)

lot_row : (base : Base) (t : Trade) (front back : List Trade) → IsPlaced base t front back → (p : HoldingHistoryRow → Bool) → OnlyOf t.id p → (v : Trade) (b : Bool) → is_here t v ≡ b
    → filter p (lot_rows_with_quantity_change (completed_trades base) v) ≡ cond (b && passes p (left_by front) t v) (row_by (left_by front) (deal_of_trade t) v ∷ []) []
lot_row base t front back k p only v true e =
    let o : InOrder (front ++ t ∷ back) = placed_order base t front back k in
    ap (λ ds. filter p (filter has_quantity_change (lot_history_rows_per_deal v.id [] ds)))
    (here_deals (completed_trades base) t v e ∙ ap (map deal_of_trade) k.stands ∙ map-append deal_of_trade front (t ∷ back))
    ∙ one_of v.id p [] (map deal_of_trade front) (deal_of_trade t) (map deal_of_trade back) only (front_others t front (front_precedes front t back o))
    (back_others t back (back_follows front t back o))
    ∙ twice p has_quantity_change (row_by (left_by front) (deal_of_trade t) v)
lot_row base t front back k p only v false e =
    none_of_others t.id v.id p [] (deals_of_position (completed_trades base) v.account v.symbol) only
    (all_others t.id (trades_held base v.account v.symbol) (elsewhere base t v.account v.symbol k.books k.found (other_way t v e)))

rows_of : (base : Base) (t : Trade) (front back : List Trade) → IsPlaced base t front back → (p : HoldingHistoryRow → Bool) → OnlyOf t.id p → (vs : List Trade)
    → filter p (flat_map (lot_rows_with_quantity_change (completed_trades base)) vs) ≡ map (row_by (left_by front) (deal_of_trade t)) (filter (λ v. is_here t v && passes p (left_by front) t v) vs)
rows_of base t front back k p only [] = refl
rows_of base t front back k p only (v ∷ vs) =
    filter-append p (lot_rows_with_quantity_change (completed_trades base) v) (flat_map (lot_rows_with_quantity_change (completed_trades base)) vs)
    ∙ (λ i. lot_row base t front back k p only v (is_here t v) refl i ++ rows_of base t front back k p only vs i)
    ∙ put (is_here t v && passes p (left_by front) t v)
  where
    row : Trade → HoldingHistoryRow
    row = row_by (left_by front) (deal_of_trade t)

    Z : List Trade
    Z = filter (λ v. is_here t v && passes p (left_by front) t v) vs

    put : (b : Bool) → cond b (row v ∷ []) [] ++ map row Z ≡ map row (cond b (v ∷ Z) Z)
    put true = refl
    put false = refl

pub history_is : (base : Base) → (sheets base).holding_history ≡ rows_sorted_by_key holding_history_key (flat_map (lot_rows_with_quantity_change (completed_trades base)) (completed_trades base))
unfolding tables_of_base_in_schema tables_sorted_by_key
history_is base = ap (rows_sorted_by_key holding_history_key) (rows_of_lots_are (completed_trades base) (completed_trades base))

-- those of its rows that pass, as the table has them
pub rows_found : (base : Base) (t : Trade) (front back : List Trade) → IsPlaced base t front back → (p : HoldingHistoryRow → Bool) → OnlyOf t.id p
    → filter p (sheets base).holding_history
    ≡ rows_sorted_by_key holding_history_key (map (row_by (left_by front) (deal_of_trade t)) (filter (λ v. is_here t v && passes p (left_by front) t v) (completed_trades base)))
rows_found base t front back k p only =
    ap (filter p) (history_is base) ∙ sym (by_key-filter holding_history_key p (flat_map (lot_rows_with_quantity_change (completed_trades base)) (completed_trades base)))
    ∙ ap (rows_sorted_by_key holding_history_key) (rows_of base t front back k p only (completed_trades base))
