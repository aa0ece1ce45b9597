-- The history of lots after a result.
use Rattle.std.proofs.Common.{◌≡◌, ℕ, zero, suc, ◌==◌, ◌-◌, Bool, true, false, not, cond, List, [], ◌∷◌, ◌++◌, refl, sym, ◌∙◌, ap, subst, map, filter, arith, ℤ, pos, ◌-ℤ◌}
use Rattle.std.specs.Prelude.{flat_map, fold}
use Rattle.std.specs.List.{AllByRecursion}
use Rattle.std.proofs.lemmas.Bool.{eqb-false, eqb-true, eq-eqb, ne_eqb}
use Rattle.brk_money.specs.declared.side.Side.{Side}
use Rattle.brk_money.specs.declared.side.Side.TheVariants.{Buy, Sell}
use Rattle.brk_money.specs.Spelling.{Text}
use Rattle.brk_model.specs.Lists.{is_zero}
use Rattle.brk_model.specs.Records.{Trade}
use Rattle.brk_model.specs.Base.{Base, completed_trades}
use Rattle.brk_model.specs.Derived.{deal_of_trade, deals_of_position, trades_of_position, shares_of_position}
use Rattle.brk_model.specs.Shares as model
use Rattle.brk_model.specs.Shares.{Deal, Share, Touch, closed_share_count_of_deal, changes_lot_quantity, lot_quantity, lots_of_shares, opened_shares}
use Rattle.brk_model.specs.Shares.{shares_after_deal, signed_by_side, touches_of_existing_lots}
use Rattle.brk_model.specs.Keys.{number, rows_sorted_by_key, holding_history_key, insert_row_by_key}
use Rattle.brk_model.specs.Tables.{HoldingHistoryRow}
use Rattle.brk_lots.specs.HistoryRows.{has_quantity_change, lot_rows_with_quantity_change, lot_history_rows_per_deal}
use Rattle.brk_lots.specs.Lots.{list_reversed_if_lifo}
use Rattle.brk_lots.proofs.Counts.{differ}
use Rattle.brk_lots.proofs.Deals.{all_after}
use Rattle.brk_trade_books.specs.Results.{holding_history_row_of_touch, opening_holding_history_row}
use Rattle.brk_trade_books.proofs.Order.{rows_commute}
use Rattle.brk_trade_books.proofs.Same.{NonePass, All-filter, All-map, All-mapped, filter-none, flat_map-append, flat_map-same}
use Rattle.brk_trade_books.proofs.Places.{filter-all, filter-append, filter-one}
use Rattle.brk_trade_books.proofs.Tested.{All-front}
use Rattle.brk_trade_books.proofs.References.{append_nil}
use Rattle.brk_trade_books.proofs.LotReading.{IdsApart, apart_sort, position_rise, rise_apart}
use Rattle.brk_trade_books.proofs.LotOrder.{of_held, trades_held}
use Rattle.brk_trade_books.proofs.Touching.{Without, lot_without}
use Rattle.brk_trade_books.proofs.Each.{AllCommute, Commute, by_key-parts, commute_if, each, each_filter, each_map, each_middle, each_sort, fold_end}
use Rattle.brk_trade_books.proofs.Completing.{Completes, deals_elsewhere, deals_here, here_deals, here_itself, is_here, of_here, shares_before}
use Rattle.brk_trade_books.proofs.Holdings.{fresh_shares, opened_is, opened_lots, signed_none, signed_some, touch_at, touched_are}

-- ---- the rows of one lot

abbrev row_at : Base → Trade → Trade → HoldingHistoryRow
row_at base t v = holding_history_row_of_touch t.id (touch_at base t v)

rows_last : (lot : ℕ) (shares : List Share) (deals : List Deal) (d : Deal)
    → lot_history_rows_per_deal lot shares (deals ++ d ∷ [])
    ≡ lot_history_rows_per_deal lot shares deals
    ++ record {
      lot = lot;
      trade = d.trade;
      before = lot_quantity (fold shares_after_deal shares deals) lot;
      after =
          lot_quantity (shares_after_deal (fold shares_after_deal shares deals) d) lot;
    } ∷ []
rows_last lot shares [] d = refl
rows_last lot shares (e ∷ deals) d =
    ap (λ rows. record { lot = lot; trade = e.trade; before = lot_quantity shares lot; after = lot_quantity (shares_after_deal shares e) lot } ∷ rows)
    (rows_last lot (shares_after_deal shares e) deals d)

-- none of the deals is of a trade
abbrev pub Others : ℕ → List Deal → Type 0
Others id deals = AllByRecursion (λ d. (d.trade == id) ≡ false) deals

rows_of_others : (id lot : ℕ) (shares : List Share) (deals : List Deal) → Others id deals → AllByRecursion (λ r. (r.trade == id) ≡ false) (lot_history_rows_per_deal lot shares deals)
rows_of_others id lot shares [] h = tt
rows_of_others id lot shares (d ∷ deals) h = (h.0, rows_of_others id lot (shares_after_deal shares d) deals h.1)

-- a lot that no deal opens has no rows
pub no_rows : (id : ℕ) (shares : List Share) (deals : List Deal) → Without id shares → Others id deals → filter has_quantity_change (lot_history_rows_per_deal id shares deals) ≡ []
no_rows id shares [] w h = refl
no_rows id shares (d ∷ deals) w h =
    let next : Without id (shares_after_deal shares d) = all_after (λ s. (s.trade == id) ≡ false) d shares h.0 w in
    let row : HoldingHistoryRow = record { lot = id; trade = d.trade; before = lot_quantity shares id; after = lot_quantity (shares_after_deal shares d) id } in
    let still : has_quantity_change row ≡ false = λ i. not (is_zero (lot_without id shares w i -ℤ lot_without id (shares_after_deal shares d) next i)) in
    ap (λ b. cond b (row ∷ filter has_quantity_change (lot_history_rows_per_deal id (shares_after_deal shares d) deals))
    (filter has_quantity_change (lot_history_rows_per_deal id (shares_after_deal shares d) deals))) still
    ∙ no_rows id (shares_after_deal shares d) deals next h.1

others_of : (base : Base) (xs : List Trade) (t : Trade) (ys : List Trade) → Completes base xs t ys → (account : ℕ) (symbol : Text)
    → Others t.id (deals_of_position (completed_trades base) account symbol)
others_of base xs t ys c account symbol =
    All-mapped (λ d. (d.trade == t.id) ≡ false) deal_of_trade (trades_held base account symbol) (of_held (λ u. (u.id == t.id) ≡ false) base account symbol c.fresh)

-- the rows of a lot of the position, with that of the trade
own_rows : (base : Base) (xs : List Trade) (t : Trade) (ys : List Trade) → Completes base xs t ys → (v : Trade) → is_here t v ≡ true
    → lot_rows_with_quantity_change (xs ++ t ∷ ys) v
    ≡ filter has_quantity_change (lot_history_rows_per_deal v.id [] (deals_of_position (completed_trades base) t.account t.symbol))
    ++ filter has_quantity_change (row_at base t v ∷ [])
unfolding shares_of_position
own_rows base xs t ys c v e =
    let D : List Deal = deals_of_position (completed_trades base) t.account t.symbol in
    ap (λ ds. filter has_quantity_change (lot_history_rows_per_deal v.id [] ds)) (deals_here base xs t ys c v e)
    ∙ ap (filter has_quantity_change) (rows_last v.id [] D (deal_of_trade t))
    ∙ filter-append has_quantity_change (lot_history_rows_per_deal v.id [] D) (row_at base t v ∷ [])

-- ---- the trade's rows, and the others

abbrev is_of : ℕ → HoldingHistoryRow → Bool
is_of id r = r.trade == id

one_row : (p q : HoldingHistoryRow → Bool) (r : HoldingHistoryRow) → p r ≡ true → filter p (filter q (r ∷ [])) ≡ filter q (r ∷ [])
one_row p q r e = by_test (q r)
  where
    by_test : (b : Bool) → filter p (cond b (r ∷ []) []) ≡ cond b (r ∷ []) []
    by_test true = ap (λ b. cond b (r ∷ []) []) e
    by_test false = refl

none_row : (p q : HoldingHistoryRow → Bool) (r : HoldingHistoryRow) → p r ≡ false → filter p (filter q (r ∷ [])) ≡ []
none_row p q r e = by_test (q r)
  where
    by_test : (b : Bool) → filter p (cond b (r ∷ []) []) ≡ []
    by_test true = ap (λ b. cond b (r ∷ []) []) e
    by_test false = refl

-- the trade's rows of a lot
new_rows : Base → Trade → Trade → List HoldingHistoryRow
new_rows base t v = cond (is_here t v) (filter has_quantity_change (row_at base t v ∷ [])) []

its_rows : (base : Base) (xs : List Trade) (t : Trade) (ys : List Trade) → Completes base xs t ys → (v : Trade) (b : Bool) → is_here t v ≡ b
    → filter (is_of t.id) (lot_rows_with_quantity_change (xs ++ t ∷ ys) v) ≡ new_rows base t v
unfolding new_rows
its_rows base xs t ys c v true e =
    let D : List Deal = deals_of_position (completed_trades base) t.account t.symbol in
    let old : List HoldingHistoryRow = filter has_quantity_change (lot_history_rows_per_deal v.id [] D) in
    let new : List HoldingHistoryRow = filter has_quantity_change (row_at base t v ∷ []) in
    ap (filter (is_of t.id)) (own_rows base xs t ys c v e) ∙ filter-append (is_of t.id) old new
    ∙ (λ i. filter-none (is_of t.id) old
    (All-filter (λ r. (r.trade == t.id) ≡ false) has_quantity_change (lot_history_rows_per_deal v.id [] D)
    (rows_of_others t.id v.id [] D (others_of base xs t ys c t.account t.symbol))) i
    ++ one_row (is_of t.id) has_quantity_change (row_at base t v) (eq-eqb t.id t.id refl) i)
    ∙ sym (ap (λ b. cond b new []) e)
its_rows base xs t ys c v false e =
    let D : List Deal = deals_of_position (completed_trades base) v.account v.symbol in
    ap (λ ds. filter (is_of t.id) (filter has_quantity_change (lot_history_rows_per_deal v.id [] ds))) (deals_elsewhere base xs t ys c v e)
    ∙ filter-none (is_of t.id) (filter has_quantity_change (lot_history_rows_per_deal v.id [] D))
    (All-filter (λ r. (r.trade == t.id) ≡ false) has_quantity_change (lot_history_rows_per_deal v.id [] D) (rows_of_others t.id v.id [] D (others_of base xs t ys c v.account v.symbol)))
    ∙ sym (ap (λ b. cond b (filter has_quantity_change (row_at base t v ∷ [])) []) e)

kept_all : (base : Base) (xs : List Trade) (t : Trade) (ys : List Trade) → Completes base xs t ys → (lot account : ℕ) (symbol : Text)
    → filter (λ r. not (r.trade == t.id))
    (filter has_quantity_change (lot_history_rows_per_deal lot [] (deals_of_position (completed_trades base) account symbol)))
    ≡ filter has_quantity_change (lot_history_rows_per_deal lot [] (deals_of_position (completed_trades base) account symbol))
kept_all base xs t ys c lot account symbol =
    let D : List Deal = deals_of_position (completed_trades base) account symbol in
    filter-all (λ r. not (r.trade == t.id)) (filter has_quantity_change (lot_history_rows_per_deal lot [] D))
    (All-map (filter has_quantity_change (lot_history_rows_per_deal lot [] D)) (λ r k. ap not k)
    (All-filter (λ r. (r.trade == t.id) ≡ false) has_quantity_change (lot_history_rows_per_deal lot [] D)
    (rows_of_others t.id lot [] D (others_of base xs t ys c account symbol))))

other_rows : (base : Base) (xs : List Trade) (t : Trade) (ys : List Trade) → Completes base xs t ys → (v : Trade) (b : Bool) → is_here t v ≡ b
    → filter (λ r. not (r.trade == t.id)) (lot_rows_with_quantity_change (xs ++ t ∷ ys) v) ≡ lot_rows_with_quantity_change (completed_trades base) v
other_rows base xs t ys c v true e =
    let D : List Deal = deals_of_position (completed_trades base) t.account t.symbol in
    let P : HoldingHistoryRow → Bool = λ r. not (r.trade == t.id) in
    let old : List HoldingHistoryRow = filter has_quantity_change (lot_history_rows_per_deal v.id [] D) in
    ap (filter P) (own_rows base xs t ys c v e) ∙ filter-append P old (filter has_quantity_change (row_at base t v ∷ []))
    ∙ (λ i. kept_all base xs t ys c v.id t.account t.symbol i ++ none_row P has_quantity_change (row_at base t v) (ap not (eq-eqb t.id t.id refl)) i)
    ∙ append_nil old ∙ ap (λ ds. filter has_quantity_change (lot_history_rows_per_deal v.id [] ds)) (sym (here_deals (completed_trades base) t v e))
other_rows base xs t ys c v false e =
    ap (λ ds. filter (λ r. not (r.trade == t.id)) (filter has_quantity_change (lot_history_rows_per_deal v.id [] ds))) (deals_elsewhere base xs t ys c v e)
    ∙ kept_all base xs t ys c v.id v.account v.symbol

pub filter-flat_map : {X Y : Type 0} (p : Y → Bool) (f : X → List Y) (xs : List X) → filter p (flat_map f xs) ≡ flat_map (λ x. filter p (f x)) xs
filter-flat_map p f [] = refl
filter-flat_map p f (x ∷ xs) = filter-append p (f x) (flat_map f xs) ∙ ap (λ ys. filter p (f x) ++ ys) (filter-flat_map p f xs)

all_new : (base : Base) (xs : List Trade) (t : Trade) (ys : List Trade) → Completes base xs t ys
    → filter (is_of t.id) (flat_map (lot_rows_with_quantity_change (xs ++ t ∷ ys)) (xs ++ t ∷ ys)) ≡ flat_map (new_rows base t) (xs ++ t ∷ ys)
all_new base xs t ys c =
    filter-flat_map (is_of t.id) (lot_rows_with_quantity_change (xs ++ t ∷ ys)) (xs ++ t ∷ ys)
    ∙ flat_map-same (λ v. filter (is_of t.id) (lot_rows_with_quantity_change (xs ++ t ∷ ys) v)) (new_rows base t) (xs ++ t ∷ ys) (every (xs ++ t ∷ ys))
  where
    every : (vs : List Trade) → AllByRecursion (λ v. filter (is_of t.id) (lot_rows_with_quantity_change (xs ++ t ∷ ys) v) ≡ new_rows base t v) vs
    every [] = tt
    every (v ∷ vs) = (its_rows base xs t ys c v (is_here t v) refl, every vs)

all_old : (base : Base) (xs : List Trade) (t : Trade) (ys : List Trade) → Completes base xs t ys
    → filter (λ r. not (r.trade == t.id)) (flat_map (lot_rows_with_quantity_change (xs ++ t ∷ ys)) (xs ++ t ∷ ys))
    ≡ flat_map (lot_rows_with_quantity_change (completed_trades base)) (completed_trades base)
all_old base xs t ys c =
    filter-flat_map P (lot_rows_with_quantity_change (xs ++ t ∷ ys)) (xs ++ t ∷ ys)
    ∙ flat_map-same (λ v. filter P (lot_rows_with_quantity_change (xs ++ t ∷ ys) v)) L (xs ++ t ∷ ys) (every (xs ++ t ∷ ys))
    ∙ flat_map-append L xs (t ∷ ys) ∙ ap (λ rows. flat_map L xs ++ (rows ++ flat_map L ys)) none ∙ sym (flat_map-append L xs ys)
    ∙ ap (flat_map L) (sym c.split)
  where
    P : HoldingHistoryRow → Bool
    P r = not (r.trade == t.id)

    L : Trade → List HoldingHistoryRow
    L = lot_rows_with_quantity_change (completed_trades base)

    every : (vs : List Trade) → AllByRecursion (λ v. filter P (lot_rows_with_quantity_change (xs ++ t ∷ ys) v) ≡ L v) vs
    every [] = tt
    every (v ∷ vs) = (other_rows base xs t ys c v (is_here t v) refl, every vs)

    none : L t ≡ []
    none = no_rows t.id [] (deals_of_position (completed_trades base) t.account t.symbol) tt (others_of base xs t ys c t.account t.symbol)

-- ---- put in, lot by lot

abbrev put_change : ℕ → Touch → List HoldingHistoryRow → List HoldingHistoryRow
put_change id touch rows = insert_row_by_key holding_history_key (holding_history_row_of_touch id touch) rows

abbrev put_at : Base → Trade → Trade → List HoldingHistoryRow → List HoldingHistoryRow
put_at base t v rows = cond (changes_lot_quantity (touch_at base t v)) (put_change t.id (touch_at base t v) rows) rows

put_new : (base : Base) (t : Trade) (vs : List Trade) (rows : List HoldingHistoryRow)
    → each (insert_row_by_key holding_history_key) (flat_map (new_rows base t) vs) rows ≡ each (put_at base t) (filter (is_here t) vs) rows
unfolding new_rows
put_new base t [] rows = refl
put_new base t (v ∷ vs) rows = by_test (is_here t v) (put_new base t vs rows)
  where
    row : HoldingHistoryRow
    row = row_at base t v

    F : List HoldingHistoryRow
    F = flat_map (new_rows base t) vs

    H : List Trade
    H = filter (is_here t) vs

    put : (m : Bool) → each (insert_row_by_key holding_history_key) F rows ≡ each (put_at base t) H rows
        → each (insert_row_by_key holding_history_key) (cond m (row ∷ []) [] ++ F) rows ≡ cond m (insert_row_by_key holding_history_key row (each (put_at base t) H rows)) (each (put_at base t) H rows)
    put true ih = ap (insert_row_by_key holding_history_key row) ih
    put false ih = ih

    by_test : (b : Bool) → each (insert_row_by_key holding_history_key) F rows ≡ each (put_at base t) H rows
        → each (insert_row_by_key holding_history_key) (cond b (filter has_quantity_change (row ∷ [])) [] ++ F) rows ≡ each (put_at base t) (cond b (v ∷ H) H) rows
    by_test true ih = put (has_quantity_change row) ih
    by_test false ih = ih

-- the rows of different lots can be put in either way round
lots_commute : (base : Base) (t v w : Trade) → (w.id == v.id) ≡ false → Commute (λ u. put_change t.id (touch_at base t u)) v w
lots_commute base t v w e rows = rows_commute holding_history_key (row_at base t v) (row_at base t w) rows (λ k. eqb-false w.id v.id e (sym (lot_of v.id w.id t.id k)))
  where
    lot_of : (m n k : ℕ) → number m ∷ number k ∷ [] ≡ number n ∷ number k ∷ [] → m ≡ n
    lot_of m n k e = cc

apart_commute : (base : Base) (t : Trade) (vs : List Trade) → IdsApart vs → AllCommute (put_at base t) vs
apart_commute base t [] d = tt
apart_commute base t (v ∷ vs) d = (
  All-map vs (λ w e. commute_if (λ u. put_change t.id (touch_at base t u)) (λ u. changes_lot_quantity (touch_at base t u)) v w (lots_commute base t v w e)) d.0,
  apart_commute base t vs d.1,
)

touches_commute : (base : Base) (t : Trade) (vs : List Trade) → IdsApart vs → AllCommute (put_change t.id) (filter changes_lot_quantity (map (touch_at base t) vs))
touches_commute base t [] d = tt
touches_commute base t (v ∷ vs) d = by_test (changes_lot_quantity (touch_at base t v)) (touches_commute base t vs d.1)
  where
    C : List Touch
    C = filter changes_lot_quantity (map (touch_at base t) vs)

    others : AllByRecursion (Commute (put_change t.id) (touch_at base t v)) C
    others = All-filter (Commute (put_change t.id) (touch_at base t v)) changes_lot_quantity (map (touch_at base t) vs)
        (All-mapped (Commute (put_change t.id) (touch_at base t v)) (touch_at base t) vs (All-map vs (λ w e. lots_commute base t v w e) d.0))

    by_test : (b : Bool) → AllCommute (put_change t.id) C → AllCommute (put_change t.id) (cond b (touch_at base t v ∷ C) C)
    by_test true ih = (others, ih)
    by_test false ih = ih

abbrev pub put_changes : ℕ → List Touch → List HoldingHistoryRow → List HoldingHistoryRow
put_changes id touched rows = fold (λ rows touch. insert_row_by_key holding_history_key (holding_history_row_of_touch id touch) rows) rows touched

-- as the deal touches them, from its end
touched_put : (base : Base) (xs : List Trade) (t : Trade) (ys : List Trade) → Completes base xs t ys → (rows : List HoldingHistoryRow)
    → each (put_at base t) (filter (is_here t) (completed_trades base)) rows
    ≡ put_changes t.id (list_reversed_if_lifo t.is_lifo (touches_of_existing_lots (deal_of_trade t) (shares_before base t))) rows
touched_put base xs t ys c rows =
    let P : List Trade = trades_of_position (completed_trades base) t.account t.symbol in
    let H : List Trade = trades_held base t.account t.symbol in
    let apart : IdsApart P = rise_apart P (position_rise base t.account t.symbol c.books.numbered) in
    let held : IdsApart H = apart_sort _ P apart in
    let T : List Touch = touches_of_existing_lots (deal_of_trade t) (shares_before base t) in
    let are : T ≡ filter changes_lot_quantity (map (touch_at base t) H) = touched_are base xs t ys c in
    ap (λ vs. each (put_at base t) vs rows) (of_here t (completed_trades base))
    ∙ sym (each_sort (put_at base t) _ P rows (apart_commute base t P apart))
    ∙ sym (each_map (λ touch rows. cond (changes_lot_quantity touch) (put_change t.id touch rows) rows) (touch_at base t) H rows)
    ∙ sym (each_filter (put_change t.id) changes_lot_quantity (map (touch_at base t) H) rows)
    ∙ ap (λ ts. each (put_change t.id) ts rows) (sym are)
    ∙ sym (fold_end (put_change t.id) t.is_lifo T rows (subst (AllCommute (put_change t.id)) (sym are) (touches_commute base t H held)))

-- ---- the lot that the trade opens

abbrev pub put_openings : List model.Lot → List HoldingHistoryRow → List HoldingHistoryRow
put_openings opened rows = fold (λ rows lot. insert_row_by_key holding_history_key (opening_holding_history_row lot) rows) rows opened

opened_put : (base : Base) (xs : List Trade) (t : Trade) (ys : List Trade) → Completes base xs t ys → (rows : List HoldingHistoryRow)
    → put_at base t t rows ≡ put_openings (lots_of_shares (opened_shares (deal_of_trade t) (shares_before base t))) rows
opened_put base xs t ys c rows =
    (λ i. put (none i) (opened_is base xs t ys c i)) ∙ by_number n ∙ ap (λ ls. put_openings ls rows) (sym (opened_lots d n))
  where
    d : Deal
    d = deal_of_trade t

    n : ℕ
    n = d.qty - closed_share_count_of_deal d (shares_before base t)

    q : ℤ
    q = signed_by_side d.side n

    put : ℤ → ℤ → List HoldingHistoryRow
    put before after = cond (changes_lot_quantity (record { lot = t.id; before = before; after = after })) (put_change t.id (record { lot = t.id; before = before; after = after }) rows) rows

    none : lot_quantity (shares_before base t) t.id ≡ pos 0
    none = lot_without t.id (shares_before base t) (All-map (shares_before base t) (λ u e. ne_eqb u.trade t.id e) (fresh_shares base xs t ys c))

    lot_with : ℤ → model.Lot
    lot_with z = record { trade = d.trade; price = d.price; stamp = d.stamp; qty = z }

    Put : ℤ → Type 0
    Put z = put (pos 0) z ≡ put_openings (cond (is_zero z) [] (lot_with z ∷ [])) rows

    opens : (side : Side) (k : ℕ) → not (is_zero (pos 0 -ℤ signed_by_side side (suc k))) ≡ true
    opens Buy k = ap not (differ Buy 0 (suc k) (λ e. absurd (omega (arith, e))))
    opens Sell k = ap not (differ Sell 0 (suc k) (λ e. absurd (omega (arith, e))))

    by_number : (m : ℕ) → Put (signed_by_side d.side m)
    by_number zero = subst Put (sym (signed_none d.side)) refl
    by_number (suc k) =
        let z : ℤ = signed_by_side d.side (suc k) in
        ap (λ b. cond b (put_change t.id (record { lot = t.id; before = pos 0; after = z }) rows) rows) (opens d.side k)
        ∙ sym (ap (λ b. put_openings (cond b [] (lot_with z ∷ [])) rows) (signed_some d.side k))

-- ---- all history

apart_keys : (id : ℕ) (x y : HoldingHistoryRow) → is_of id x ≡ false → is_of id y ≡ true → holding_history_key x ≡ holding_history_key y → ⊥
apart_keys id x y e f k = let j : x.trade ≡ y.trade = trade_of x.lot x.trade y.lot y.trade k in eqb-false x.trade id e (j ∙ eqb-true y.trade id f)
  where
    trade_of : (a b m n : ℕ) → number a ∷ number b ∷ [] ≡ number m ∷ number n ∷ [] → b ≡ n
    trade_of a b m n e = cc

pub histories_after : (base : Base) (xs : List Trade) (t : Trade) (ys : List Trade) → Completes base xs t ys
    → rows_sorted_by_key holding_history_key (flat_map (lot_rows_with_quantity_change (xs ++ t ∷ ys)) (xs ++ t ∷ ys))
    ≡ put_openings (lots_of_shares (opened_shares (deal_of_trade t) (shares_before base t)))
    (put_changes t.id (list_reversed_if_lifo t.is_lifo (touches_of_existing_lots (deal_of_trade t) (shares_before base t)))
    (rows_sorted_by_key holding_history_key (flat_map (lot_rows_with_quantity_change (completed_trades base)) (completed_trades base))))
histories_after base xs t ys c =
    let K = holding_history_key in
    let old : List HoldingHistoryRow = rows_sorted_by_key K (flat_map (lot_rows_with_quantity_change (completed_trades base)) (completed_trades base)) in
    let put : Trade → List HoldingHistoryRow → List HoldingHistoryRow = put_at base t in
    by_key-parts K (is_of t.id) (flat_map (lot_rows_with_quantity_change (xs ++ t ∷ ys)) (xs ++ t ∷ ys)) (apart_keys t.id)
    ∙ (λ i. each (insert_row_by_key K) (all_new base xs t ys c i) (rows_sorted_by_key K (all_old base xs t ys c i)))
    ∙ put_new base t (xs ++ t ∷ ys) old
    ∙ ap (λ vs. each put vs old) (filter-one (is_here t) xs t ys (here_itself t))
    ∙ each_middle put (filter (is_here t) xs) t (filter (is_here t) ys) old
    (All-filter (Commute put t) (is_here t) xs (All-map xs (λ v e. own v e) (All-front (λ u. (u.id == t.id) ≡ false) xs ys (subst (NonePass (λ u. u.id == t.id)) c.split c.fresh))))
    ∙ ap (λ vs. put t (each put vs old)) (sym (filter-append (is_here t) xs ys) ∙ ap (filter (is_here t)) (sym c.split))
    ∙ ap (put t) (touched_put base xs t ys c old)
    ∙ opened_put base xs t ys c (put_changes t.id (list_reversed_if_lifo t.is_lifo (touches_of_existing_lots (deal_of_trade t) (shares_before base t))) old)
  where
    own : (v : Trade) → (v.id == t.id) ≡ false → Commute (put_at base t) t v
    own v e = commute_if (λ u. put_change t.id (touch_at base t u)) (λ u. changes_lot_quantity (touch_at base t u)) t v (lots_commute base t t v e)
