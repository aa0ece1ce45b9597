-- The lots after a result.
use Rattle.std.proofs.Common.{◌≡◌, inl, ℕ, ◌==◌, ◌-◌, ◌&&◌, zero, suc, Bool, true, false, not, cond, List, [], ◌∷◌, ◌++◌, refl, sym, ◌∙◌, ap, subst, map, filter, arith, ℤ, pos, negsuc, ◌-ℤ◌, ◌≢◌}
use Rattle.std.specs.Prelude.{bytes_eq, fold, replicate}
use Rattle.std.specs.List.{AllByRecursion}
use Rattle.std.proofs.lemmas.Bool.{eqb-false, eq-eqb}
use Rattle.std.proofs.lemmas.Int.{ints}
use Rattle.brk_money.specs.declared.side.Side.{Side}
use Rattle.brk_money.specs.declared.side.Side.TheVariants.{Buy, Sell}
use Rattle.brk_model.specs.Lists.{is_zero}
use Rattle.brk_model.specs.Records.{Trade}
use Rattle.brk_model.specs.Base.{Base, completed_trades, is_completed}
use Rattle.brk_model.specs.Derived.{deal_of_trade, trades_of_position, shares_of_position}
use Rattle.brk_model.specs.Shares as model
use Rattle.brk_model.specs.Shares.{Deal, Touch, closed_share_count_of_deal, changes_lot_quantity, lot_quantity, lots_of_shares, opened_share, opened_shares}
use Rattle.brk_model.specs.Shares.{signed_by_side, touches_of_existing_lots, touch_of_lot}
use Rattle.brk_model.specs.Keys.{number, rows_sorted_by_key, holding_key, insert_row_by_key, is_row_key_less}
use Rattle.brk_model.specs.Sheets.{sheets}
use Rattle.brk_model.specs.Tables.{HoldingRow, holding_row, trade_row}
use Rattle.brk_lots.specs.Lots.{list_reversed_if_lifo}
use Rattle.brk_lots.proofs.Counts.{all_shares}
use Rattle.brk_lots.proofs.Ends.{all_back, all_end}
use Rattle.brk_lots.proofs.History.{opened_qty}
use Rattle.brk_lots.proofs.Plain.{lots_alike, lots_some}
use Rattle.brk_trade_books.specs.Books.{BooksInvariant}
use Rattle.brk_trade_books.specs.Results.{holding_row_of_lot}
use Rattle.brk_trade_books.specs.TradeReads.{lots_of_position}
use Rattle.brk_trade_books.proofs.Bools.{numbers_back}
use Rattle.brk_trade_books.proofs.Order.{NewKey, Sorted, by_key-filter, by_key-map, by_key-middle, sort_sorted, sorted_filter}
use Rattle.brk_trade_books.proofs.Same.{NonePass, All-filter, All-map, All-mapped}
use Rattle.brk_trade_books.proofs.Places.{filter-append, map-append}
use Rattle.brk_trade_books.proofs.Tested.{All-front}
use Rattle.brk_trade_books.proofs.TradeReading.{trades_stand}
use Rattle.brk_trade_books.proofs.LotReading.{All-sort, IdsApart, holdings_in_order, is_left, numbered_rise, rise_apart, rise_filter}
use Rattle.brk_trade_books.proofs.LotOrder.{both_hold, new_read, of_held, of_its_account, of_its_symbol, shares_read, trades_held}
use Rattle.brk_trade_books.proofs.Touching.{touches_read, zero_unchanged}
use Rattle.brk_trade_books.proofs.Completing.{All-passing, All-unfilter, All-unsort, Completes, here_itself, here_shares, is_here, of_here, one_of_id}
use Rattle.brk_trade_books.proofs.Completing.{shares_before, shares_elsewhere, shares_here, shares_then}
use Rattle.brk_trade_books.proofs.LotSetting.{Between, Fits, Settled, Untouched, all_set, row_with, rows_with, set_lots}

-- ---- the touches of a result

-- what is left of each lot before a trade is completed, and after
abbrev pub qty_before : Base → Trade → ℤ
qty_before base v = lot_quantity (shares_of_position (completed_trades base) v.account v.symbol) v.id

abbrev pub qty_after : List Trade → Trade → ℤ
qty_after done v = lot_quantity (shares_of_position done v.account v.symbol) v.id

abbrev pub touch_at : Base → Trade → Trade → Touch
touch_at base t v = touch_of_lot v.id (deal_of_trade t) (shares_before base t)

pub apart_done : (base : Base) → BooksInvariant base → IdsApart (completed_trades base)
apart_done base books = rise_apart (completed_trades base) (rise_filter is_completed base.trades (numbered_rise 1 base.trades books.numbered))

pub fresh_held : (base : Base) (xs : List Trade) (t : Trade) (ys : List Trade) → Completes base xs t ys → AllByRecursion (λ u. (t.id == u.id) ≡ false) (trades_held base t.account t.symbol)
fresh_held base xs t ys c = of_held (λ u. (t.id == u.id) ≡ false) base t.account t.symbol (All-map (completed_trades base) (λ u e. numbers_back t.id u.id ∙ e) c.fresh)

pub touched_are : (base : Base) (xs : List Trade) (t : Trade) (ys : List Trade) → Completes base xs t ys
    → touches_of_existing_lots (deal_of_trade t) (shares_before base t) ≡ filter changes_lot_quantity (map (touch_at base t) (trades_held base t.account t.symbol))
touched_are base xs t ys c = touches_read base t.account t.symbol (deal_of_trade t) c.books (fresh_held base xs t ys c)

-- the trades that are held are of the trade's position
here_held : (base : Base) (t : Trade) → AllByRecursion (λ u. is_here t u ≡ true) (trades_held base t.account t.symbol)
here_held base t =
    All-map (trades_held base t.account t.symbol) (λ u k. two (u.account == t.account) (bytes_eq u.symbol t.symbol) k.0 k.1)
    (both_hold (λ u. (u.account == t.account) ≡ true) (λ u. bytes_eq u.symbol t.symbol ≡ true) (trades_held base t.account t.symbol)
    (All-sort (λ u. (u.account == t.account) ≡ true) _ (trades_of_position (completed_trades base) t.account t.symbol) (of_its_account (completed_trades base) t.account t.symbol))
    (All-sort (λ u. bytes_eq u.symbol t.symbol ≡ true) _ (trades_of_position (completed_trades base) t.account t.symbol) (of_its_symbol (completed_trades base) t.account t.symbol)))
  where
    two : (a b : Bool) → a ≡ true → b ≡ true → a && b ≡ true
    two a b e f = rw (e, f) refl

touch_fits : (base : Base) (xs : List Trade) (t : Trade) (ys : List Trade) → Completes base xs t ys
    → AllByRecursion (Fits (qty_before base) (qty_after (xs ++ t ∷ ys)) (completed_trades base)) (touches_of_existing_lots (deal_of_trade t) (shares_before base t))
touch_fits base xs t ys c =
    let F : Touch → Type 0 = Fits (qty_before base) (qty_after (xs ++ t ∷ ys)) (completed_trades base) in
    let H : List Trade = trades_held base t.account t.symbol in
    let one : AllByRecursion (λ w. AllByRecursion (λ v. (v.id == w.id) ≡ true → v ≡ w) (completed_trades base)) H =
    of_held (λ w. AllByRecursion (λ v. (v.id == w.id) ≡ true → v ≡ w) (completed_trades base)) base t.account t.symbol (one_of_id (completed_trades base) (apart_done base c.books)) in
    subst (AllByRecursion F) (sym (touched_are base xs t ys c))
    (All-passing F changes_lot_quantity (map (touch_at base t) H) (All-mapped (λ touch. changes_lot_quantity touch ≡ true → F touch) (touch_at base t) H
    (fit H one (both_hold (λ w. is_here t w ≡ true) (λ w. (t.id == w.id) ≡ false) H (here_held base t) (fresh_held base xs t ys c)))))
  where
    there : (w : Trade) → is_here t w ≡ true → (t.id == w.id) ≡ false → changes_lot_quantity (touch_at base t w) ≡ true → (b : Bool)
        → is_zero (qty_before base w) ≡ b → is_zero (qty_before base w) ≡ false
    there w here other changes false e = e
    there w here other changes true e =
        let z : is_zero (lot_quantity (shares_before base t) w.id) ≡ true = ap (λ shares. is_zero (lot_quantity shares w.id)) (sym (here_shares (completed_trades base) t w here)) ∙ e in
        let k : true ≡ false = sym changes ∙ zero_unchanged base t.account t.symbol (deal_of_trade t) w.id other z in absurd (cc)

    fits_itself : (w : Trade) → is_here t w ≡ true → (t.id == w.id) ≡ false → changes_lot_quantity (touch_at base t w) ≡ true
        → ((touch_at base t w).after ≡ qty_after (xs ++ t ∷ ys) w) × (is_zero (qty_before base w) ≡ false)
    fits_itself w here other changes = (
      ap (λ shares. lot_quantity shares w.id) (sym (shares_here base xs t ys c w here)),
      there w here other changes (is_zero (qty_before base w)) refl,
    )

    fit : (ws : List Trade) → AllByRecursion (λ w. AllByRecursion (λ v. (v.id == w.id) ≡ true → v ≡ w) (completed_trades base)) ws
        → AllByRecursion (λ w. (is_here t w ≡ true) × ((t.id == w.id) ≡ false)) ws
        → AllByRecursion (λ w. changes_lot_quantity (touch_at base t w) ≡ true → Fits (qty_before base) (qty_after (xs ++ t ∷ ys)) (completed_trades base) (touch_at base t w)) ws
    fit [] one h = tt
    fit (w ∷ ws) one h = (
      (λ changes. All-map (completed_trades base)
          (λ v same e. subst (λ u. ((touch_at base t w).after ≡ qty_after (xs ++ t ∷ ys) u) × (is_zero (qty_before base u) ≡ false)) (sym (same e))
          (fits_itself w h.0.0 h.0.1 changes)) one.0),
      fit ws one.1 h.1,
    )

-- a lot that is not touched stays as it was
stays : (base : Base) (t : Trade) (ws : List Trade)
    → AllByRecursion (λ w. Untouched (filter changes_lot_quantity (map (touch_at base t) ws)) w.id → changes_lot_quantity (touch_at base t w) ≡ false) ws
stays base t [] = tt
stays base t (w ∷ ws) = by_test (changes_lot_quantity (touch_at base t w)) refl (stays base t ws)
  where
    T : Trade → Touch
    T = touch_at base t

    Q : List Touch → Trade → Type 0
    Q touched v = Untouched touched v.id → changes_lot_quantity (T v) ≡ false

    by_test : (b : Bool) → changes_lot_quantity (T w) ≡ b → AllByRecursion (Q (filter changes_lot_quantity (map T ws))) ws
        → AllByRecursion (Q (cond b (T w ∷ filter changes_lot_quantity (map T ws)) (filter changes_lot_quantity (map T ws)))) (w ∷ ws)
    by_test true e ih = ((λ k. let j : true ≡ false = sym (eq-eqb w.id w.id refl) ∙ k.0 in absurd (cc)), All-map ws (λ v f k. f k.1) ih)
    by_test false e ih = ((λ k. e), ih)

same_qty : (base : Base) (t v : Trade) → changes_lot_quantity (touch_at base t v) ≡ false → lot_quantity (shares_then base t) v.id ≡ lot_quantity (shares_before base t) v.id
same_qty base t v e = sym (no_difference (lot_quantity (shares_before base t) v.id) (lot_quantity (shares_then base t) v.id) e)
  where
    equal : (m n d : ℤ) → m -ℤ n ≡ d → not (is_zero d) ≡ false → m ≡ n
    equal m n (pos zero) e f = omega (arith, ints, e)
    equal m n (pos (suc k)) e f = absurd (cc)
    equal m n (negsuc k) e f = absurd (cc)

    no_difference : (m n : ℤ) → not (is_zero (m -ℤ n)) ≡ false → m ≡ n
    no_difference m n e = equal m n (m -ℤ n) refl e

settled_first : (base : Base) (xs : List Trade) (t : Trade) (ys : List Trade) → Completes base xs t ys
    → Settled (qty_after (xs ++ t ∷ ys)) (qty_before base) (completed_trades base) (list_reversed_if_lifo t.is_lifo (touches_of_existing_lots (deal_of_trade t) (shares_before base t)))
settled_first base xs t ys c =
    let H : List Trade = trades_held base t.account t.symbol in
    let T : List Touch = touches_of_existing_lots (deal_of_trade t) (shares_before base t) in
    let Q : Trade → Type 0 = λ v. Untouched T v.id → changes_lot_quantity (touch_at base t v) ≡ false in
    let held : AllByRecursion Q H = subst (λ ts. AllByRecursion (λ v. Untouched ts v.id → changes_lot_quantity (touch_at base t v) ≡ false) H) (sym (touched_are base xs t ys c)) (stays base t H) in
    let here : AllByRecursion (λ v. is_here t v ≡ true → Q v) (completed_trades base) =
    All-unfilter Q (is_here t) (completed_trades base)
    (subst (AllByRecursion Q) (sym (of_here t (completed_trades base)))
    (All-unsort Q _ (trades_of_position (completed_trades base) t.account t.symbol) held)) in
    All-map (completed_trades base) (λ v q w. same v (is_here t v) refl q (all_back (λ touch. (v.id == touch.lot) ≡ false) t.is_lifo T w)) here
  where
    same : (v : Trade) (b : Bool) → is_here t v ≡ b
        → (is_here t v ≡ true → Untouched (touches_of_existing_lots (deal_of_trade t) (shares_before base t)) v.id
        → changes_lot_quantity (touch_at base t v) ≡ false)
        → Untouched (touches_of_existing_lots (deal_of_trade t) (shares_before base t)) v.id → qty_before base v ≡ qty_after (xs ++ t ∷ ys) v
    same v true e q w =
        ap (λ shares. lot_quantity shares v.id) (here_shares (completed_trades base) t v e) ∙ sym (same_qty base t v (q e w))
        ∙ ap (λ shares. lot_quantity shares v.id) (sym (shares_here base xs t ys c v e))
    same v false e q w = ap (λ shares. lot_quantity shares v.id) (sym (shares_elsewhere base xs t ys c v e))

between_first : (before after : Trade → ℤ) (ts : List Trade) → Between before after before ts
between_first before after [] = tt
between_first before after (v ∷ ts) = (inl refl, between_first before after ts)

pub touched_set : (base : Base) (xs : List Trade) (t : Trade) (ys : List Trade) → Completes base xs t ys
    → set_lots (list_reversed_if_lifo t.is_lifo (touches_of_existing_lots (deal_of_trade t) (shares_before base t))) (sheets base).holdings
    ≡ rows_with (qty_after (xs ++ t ∷ ys)) (completed_trades base)
touched_set base xs t ys c =
    let ends : List Touch = list_reversed_if_lifo t.is_lifo (touches_of_existing_lots (deal_of_trade t) (shares_before base t)) in
    ap (set_lots ends) (holdings_in_order base c.books.numbered)
    ∙ all_set (qty_before base) (qty_after (xs ++ t ∷ ys)) ends (qty_before base) (completed_trades base)
    (all_end (Fits (qty_before base) (qty_after (xs ++ t ∷ ys)) (completed_trades base)) t.is_lifo (touches_of_existing_lots (deal_of_trade t) (shares_before base t)) (touch_fits base xs t ys c))
    (between_first (qty_before base) (qty_after (xs ++ t ∷ ys)) (completed_trades base))
    (settled_first base xs t ys c)

-- ---- the lot that it opens

-- it opened none of the shares before
pub fresh_shares : (base : Base) (xs : List Trade) (t : Trade) (ys : List Trade) → Completes base xs t ys → AllByRecursion (λ u. u.trade ≢ t.id) (shares_before base t)
fresh_shares base xs t ys c =
    subst (AllByRecursion (λ u. u.trade ≢ t.id)) (shares_read base t.account t.symbol c.books)
    (all_shares (λ u. u.trade ≢ t.id) (lots_of_position (sheets base) t.account t.symbol) (new_read base t.account t.symbol t.id c.books c.fresh))

pub opened_is : (base : Base) (xs : List Trade) (t : Trade) (ys : List Trade) → Completes base xs t ys
    → lot_quantity (shares_then base t) t.id ≡ signed_by_side (deal_of_trade t).side ((deal_of_trade t).qty - closed_share_count_of_deal (deal_of_trade t) (shares_before base t))
opened_is base xs t ys c = opened_qty (deal_of_trade t) (shares_before base t) (fresh_shares base xs t ys c)

pub signed_some : (side : Side) (n : ℕ) → is_zero (signed_by_side side (suc n)) ≡ false
signed_some Buy n = refl
signed_some Sell n = refl

pub signed_none : (side : Side) → signed_by_side side 0 ≡ pos 0
signed_none Buy = refl
signed_none Sell = refl

-- one lot or none, by the number of shares that it opens
pub opened_lots : (d : Deal) (n : ℕ)
    → lots_of_shares (replicate n (opened_share d))
    ≡ cond (is_zero (signed_by_side d.side n)) [] (record { trade = d.trade; price = d.price; stamp = d.stamp; qty = signed_by_side d.side n } ∷ [])
opened_lots d zero = lots_alike 0 (opened_share d)
    ∙ sym (ap (λ q. cond (is_zero q) [] (record { trade = d.trade; price = d.price; stamp = d.stamp; qty = signed_by_side d.side 0 } ∷ []))
    (signed_none d.side))
opened_lots d (suc n) =
    lots_some (suc n) (opened_share d) (omega arith)
    ∙ sym (ap (λ b. cond {A = List model.Lot} b [] (record { trade = d.trade; price = d.price; stamp = d.stamp; qty = signed_by_side d.side (suc n) } ∷ [])) (signed_some d.side n))

-- ---- all lots

rows_in_order : (g : Trade → ℤ) (ts : List Trade) → Sorted (is_row_key_less (λ t. number t.id ∷ [])) ts → rows_sorted_by_key holding_key (rows_with g ts) ≡ rows_with g ts
rows_in_order g ts s =
    by_key-filter holding_key is_left (map (row_with g) ts)
    ∙ ap (filter is_left) (by_key-map (λ t. number t.id ∷ []) holding_key (row_with g) ts (λ t. refl)
    ∙ ap (map (row_with g)) (sort_sorted (is_row_key_less (λ t. number t.id ∷ [])) ts s))

pub done_in_order : (base : Base) → BooksInvariant base → Sorted (is_row_key_less (λ t. number t.id ∷ [])) (completed_trades base)
done_in_order base books = sorted_filter (is_row_key_less (λ t. number t.id ∷ [])) is_completed base.trades (trades_stand 1 base.trades books.numbered)

abbrev pub open_lots : Trade → List model.Lot → List HoldingRow → List HoldingRow
open_lots t opened rows = fold (λ rows lot. insert_row_by_key holding_key (holding_row_of_lot (trade_row t) lot) rows) rows opened

-- one row more, or none
with_own : (g : Trade → ℤ) (xs : List Trade) (t : Trade) (ys : List Trade) → NonePass (λ u. u.id == t.id) xs → (b : Bool) → is_zero (g t) ≡ b
    → rows_sorted_by_key holding_key (rows_with g (xs ++ t ∷ ys))
    ≡ cond b (rows_sorted_by_key holding_key (rows_with g (xs ++ ys)))
    (insert_row_by_key holding_key (row_with g t) (rows_sorted_by_key holding_key (rows_with g (xs ++ ys))))
with_own g xs t ys h b e = ap (rows_sorted_by_key holding_key) (parts b e) ∙ by_test b
  where
    R : List Trade → List HoldingRow
    R = rows_with g

    append : (us vs : List Trade) → R (us ++ vs) ≡ R us ++ R vs
    append us vs = ap (filter is_left) (map-append (row_with g) us vs) ∙ filter-append is_left (map (row_with g) us) (map (row_with g) vs)

    parts : (b : Bool) → is_zero (g t) ≡ b → R (xs ++ t ∷ ys) ≡ R xs ++ cond (not b) (row_with g t ∷ R ys) (R ys)
    parts b e = append xs (t ∷ ys) ∙ ap (λ b. R xs ++ cond (not b) (row_with g t ∷ R ys) (R ys)) e

    other_key : (us : List Trade) → NonePass (λ u. u.id == t.id) us → NewKey holding_key (row_with g t) (map (row_with g) us)
    other_key us k = All-mapped (λ r. holding_key r ≡ holding_key (row_with g t) → ⊥) (row_with g) us (All-map us (λ u f i. eqb-false u.id t.id f (number_of u.id t.id i)) k)
      where
        number_of : (m n : ℕ) → number m ∷ [] ≡ number n ∷ [] → m ≡ n
        number_of m n e = cc

    by_test : (b : Bool) → rows_sorted_by_key holding_key (R xs ++ cond (not b) (row_with g t ∷ R ys) (R ys))
        ≡ cond b (rows_sorted_by_key holding_key (R (xs ++ ys))) (insert_row_by_key holding_key (row_with g t) (rows_sorted_by_key holding_key (R (xs ++ ys))))
    by_test true = ap (rows_sorted_by_key holding_key) (sym (append xs ys))
    by_test false =
        by_key-middle holding_key (R xs) (row_with g t) (R ys) (All-filter _ is_left (map (row_with g) xs) (other_key xs h))
        ∙ ap (λ rows. insert_row_by_key holding_key (row_with g t) (rows_sorted_by_key holding_key rows)) (sym (append xs ys))

pub holdings_after : (base : Base) (xs : List Trade) (t : Trade) (ys : List Trade) → Completes base xs t ys
    → rows_sorted_by_key holding_key (filter is_left (map (holding_row (xs ++ t ∷ ys)) (xs ++ t ∷ ys)))
    ≡ open_lots t (lots_of_shares (opened_shares (deal_of_trade t) (shares_before base t)))
    (set_lots (list_reversed_if_lifo t.is_lifo (touches_of_existing_lots (deal_of_trade t) (shares_before base t))) (sheets base).holdings)
holdings_after base xs t ys c =
    with_own g xs t ys (All-front (λ u. (u.id == t.id) ≡ false) xs ys (subst (NonePass (λ u. u.id == t.id)) c.split c.fresh)) (is_zero (g t)) refl
    ∙ (λ i. cond (is_zero (own i)) (others i) (insert_row_by_key holding_key (record (row_with g t) { qty = own i }) (others i)))
    ∙ by_test (is_zero q)
    ∙ ap (λ ls. open_lots t ls rows) (sym (opened_lots d n))
  where
    g : Trade → ℤ
    g = qty_after (xs ++ t ∷ ys)

    d : Deal
    d = deal_of_trade t

    n : ℕ
    n = d.qty - closed_share_count_of_deal d (shares_before base t)

    q : ℤ
    q = signed_by_side d.side n

    rows : List HoldingRow
    rows = set_lots (list_reversed_if_lifo t.is_lifo (touches_of_existing_lots d (shares_before base t))) (sheets base).holdings

    own : g t ≡ q
    own = ap (λ shares. lot_quantity shares t.id) (shares_here base xs t ys c t (here_itself t)) ∙ opened_is base xs t ys c

    others : rows_sorted_by_key holding_key (rows_with g (xs ++ ys)) ≡ rows
    others = ap (λ ts. rows_sorted_by_key holding_key (rows_with g ts)) (sym c.split) ∙ rows_in_order g (completed_trades base) (done_in_order base c.books) ∙ sym (touched_set base xs t ys c)

    lot : model.Lot
    lot = record { trade = d.trade; price = d.price; stamp = d.stamp; qty = q }

    by_test : (b : Bool) → cond b rows (insert_row_by_key holding_key (record (row_with g t) { qty = q }) rows) ≡ open_lots t (cond b [] (lot ∷ [])) rows
    by_test true = refl
    by_test false = refl
