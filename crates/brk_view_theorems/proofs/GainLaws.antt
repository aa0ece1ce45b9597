-- The totals of a holding's explanation equal the sums over the deals of its position.
use Rattle.std.proofs.Common.{◌≡◌, ℕ, ◌==◌, ◌*◌, ◌&&◌, Bool, true, false, cond, List, [], ◌∷◌, Option, Some, None, refl, sym, ◌∙◌, ap, map, filter, arith, ℤ, pos, ◌+ℤ◌, ◌-ℤ◌, ◌*ℤ◌, is_some}
use Rattle.std.specs.Prelude.{bytes_eq, int_lt, unwrap_or}
use Rattle.std.specs.Option.{option_map_or}
use Rattle.std.specs.List.{AllByRecursion, last_or}
use Rattle.std.proofs.lemmas.Bool.{eqb-true}
use Rattle.std.proofs.lemmas.Int.{ints}
use lib.IntN.{zero-*ℤ, +ℤ_assoc}
use Rattle.brk_money.specs.Kinds.{is_same_trade_status, side_of_trade_type}
use Rattle.brk_money.specs.Spelling.{Text}
use Rattle.brk_money.specs.declared.status.Status.TheVariants.{Canceled, Completed}
use Rattle.brk_model.specs.Base.{Base, completed_trades, is_completed, last_status_change, last_status_stamp_of_trade, completion_price, trade_with_id}
use Rattle.brk_model.specs.Derived.{deal_of_trade, deals_of_position, trades_of_position, shares_of_position, holding_summary_quantity}
use Rattle.brk_model.specs.Lists.{is_zero, sort_by_key, total_by}
use Rattle.brk_model.specs.Records.{StatusChange, Trade}
use Rattle.brk_model.specs.Shares.{Deal, Share, lot_quantity, opened_share, replay, signed_by_side}
use Rattle.brk_model.specs.Sheets.{sheets}
use Rattle.brk_model.specs.Tables.{HoldingHistoryRow, Tables, TradeRow, trade_row}
use Rattle.brk_lots.specs.HistoryRows.{has_quantity_change, lot_rows_with_quantity_change, lot_history_rows_per_deal, touch_of_row}
use Rattle.brk_lots.specs.Books.{realised_gain_sum, cost_basis_of_lots, purchase_value_minus_sale_value}
use Rattle.brk_lots.specs.Chains.{ShrinksTowardZero, IsLotHistory}
use Rattle.brk_lots.specs.declared.lot.Lot.{Lot}
use Rattle.brk_model_explain.specs.Holdings.{LotChange, LotDetails, realised_gain_of_change, remaining_cost_of_lot, remaining_cost_of_lots}
use Rattle.brk_model_explain.specs.Holdings.{completed_trades_in_symbol, realised_gain_in_symbol, remaining_quantity, recorded_lot_change}
use Rattle.brk_model_explain.specs.Holdings.{realised_gain_of_lot, lot_with_changes_by_others, lots_opened_in_symbol, total_purchase_value, negated_total_sale_value}
use Rattle.brk_model_explain.specs.Holdings.{signed_quantity_of_trade, signed_value_of_trade}
use Rattle.brk_model_explain.specs.Running.{running_totals}
use Rattle.brk_model_explain.specs.Trades.{has_completed_status, trade_price_or_zero, opened_lot_row}
use Rattle.brk_trade_books.specs.Books.{BooksInvariant}
use Rattle.brk_trade_books.specs.Lives.{BeginsWithTradeOfLot}
use Rattle.brk_trade_books.specs.TradeReads.{lots_of_position}
use Rattle.brk_trade_books.proofs.Bools.{same_text}
use Rattle.brk_trade_books.proofs.LotOrder.{both_hold, held_in_order, is_some_left, lot_upon, lots_read, of_held, of_its_account, of_its_symbol, trades_held}
use Rattle.brk_trade_books.proofs.LotReading.{All-sort, IdsApart, all_pass, filter-both, filter-map}
use Rattle.brk_trade_books.proofs.RunLaws.{costs_sum, lot_lives, quantities_sum}
use Rattle.brk_trade_books.proofs.Same.{All-map, All-mapped, filter-same, total_by-same}
use Rattle.brk_trade_books.proofs.SumReading.{found_each, total-map}
use Rattle.brk_trade_books.proofs.Tested.{not_not}
use Rattle.brk_trade_books.proofs.TradeReading.{trades_in_order}
use Rattle.brk_view_theorems.specs.Balances.{last_number_or_default}
use Rattle.brk_view_theorems.specs.Gains.{PrintedHoldingMatchesDeals}
use Rattle.brk_view_theorems.proofs.Among.{Among, among}
use Rattle.brk_view_theorems.proofs.BalanceSums.{last_some, running_ends}
use Rattle.brk_view_theorems.proofs.ClosingLaws.{price_is}
use Rattle.brk_view_theorems.proofs.Held.{order_apart}
use Rattle.brk_view_theorems.proofs.LotGains.{IsHeld, all_lots, lot_gains, row_gain, rows_gain, signed_worth, zero_is}
use Rattle.brk_view_theorems.proofs.LotHistories.{changes_are_rest, opened_by_own, own_is_first, rest}
use Rattle.brk_view_theorems.proofs.Products.{no_more, times_less}
use Rattle.brk_view_theorems.proofs.SortedRows.{by, first, sort_map, total_sorted}
use Rattle.brk_view_theorems.proofs.TradeRows.{done_found}

-- ---- the trades of the position, as they are printed

done_told : (o : Option StatusChange) → is_same_trade_status (option_map_or (λ m. m.status) o Canceled) Completed ≡ option_map_or (λ m. is_same_trade_status m.status Completed) o false
done_told None = refl
done_told (Some m) = refl

pub done_are : (base : Base) (account : ℕ) (symbol : Text) → BooksInvariant base → completed_trades_in_symbol (sheets base) account symbol ≡ map trade_row (trades_held base account symbol)
done_are base account symbol books =
    ap (λ us. sort_by_key (λ (u : TradeRow). u.stamp) (filter P us)) (trades_in_order base books.numbered)
    ∙ ap (sort_by_key (λ (u : TradeRow). u.stamp)) (filter-map P trade_row base.trades
    ∙ ap (map trade_row) (filter-same (λ t. P (trade_row t)) (λ t. (is_completed t && A t) && S t) base.trades (each base.trades)
    ∙ filter-both (λ t. is_completed t && A t) S base.trades ∙ ap (filter S) (filter-both is_completed A base.trades)))
    ∙ sort_map (λ (u : TradeRow). u.stamp) trade_row (trades_of_position (completed_trades base) account symbol)
  where
    P : TradeRow → Bool
    P u = (has_completed_status u && (u.account == account)) && bytes_eq u.symbol symbol

    A : Trade → Bool
    A t = t.account == account

    S : Trade → Bool
    S t = bytes_eq t.symbol symbol

    each : (ts : List Trade) → AllByRecursion (λ t. P (trade_row t) ≡ (is_completed t && A t) && S t) ts
    each [] = tt
    each (t ∷ ts) = (ap (λ b. (b && A t) && S t) (done_told (last_status_change t)), each ts)

-- ---- one lot

-- what is known of a trade of the position
record IsOf (base : Base) (account : ℕ) (symbol : Text) (v : Trade) : Type 0 where
  found : trade_with_id base v.id ≡ Some v
  among_all : Among base v
  history : lot_rows_with_quantity_change (completed_trades base) v ≡ filter has_quantity_change (lot_history_rows_per_deal v.id [] (deals_of_position (completed_trades base) account symbol))

each_is : (base : Base) (account : ℕ) (symbol : Text) → BooksInvariant base → AllByRecursion (IsOf base account symbol) (trades_held base account symbol)
each_is base account symbol books =
    All-map W (λ v h. record { found = h.0.0; among_all = among base v books h.0.0 h.0.1; history = rows v h.1.0 h.1.1 })
    (both_hold Found Here W
    (of_held Found base account symbol (both_hold (λ v. trade_with_id base v.id ≡ Some v) (λ v. is_completed v ≡ true) (completed_trades base) (done_found base books) (all_done base.trades)))
    (both_hold (λ v. (v.account == account) ≡ true) (λ v. bytes_eq v.symbol symbol ≡ true) W
    (All-sort (λ v. (v.account == account) ≡ true) (by last_status_stamp_of_trade) P (of_its_account (completed_trades base) account symbol))
    (All-sort (λ v. bytes_eq v.symbol symbol ≡ true) (by last_status_stamp_of_trade) P (of_its_symbol (completed_trades base) account symbol))))
  where
    P : List Trade
    P = trades_of_position (completed_trades base) account symbol

    W : List Trade
    W = trades_held base account symbol

    Found : Trade → Type 0
    Found v = (trade_with_id base v.id ≡ Some v) × (is_completed v ≡ true)

    Here : Trade → Type 0
    Here v = ((v.account == account) ≡ true) × (bytes_eq v.symbol symbol ≡ true)

    all_done : (ts : List Trade) → AllByRecursion (λ v. is_completed v ≡ true) (filter is_completed ts)
    all_done ts = all_pass is_completed ts

    rows : (v : Trade) → (v.account == account) ≡ true → bytes_eq v.symbol symbol ≡ true
        → lot_rows_with_quantity_change (completed_trades base) v
        ≡ filter has_quantity_change (lot_history_rows_per_deal v.id [] (deals_of_position (completed_trades base) account symbol))
    rows v a s = λ i. filter has_quantity_change (lot_history_rows_per_deal v.id [] (deals_of_position (completed_trades base) (eqb-true v.account account a i) (same_text v.symbol symbol s i)))

-- the gains of the lot's changes
changed_total : (base : Base) (v : Trade) (rows : List HoldingHistoryRow)
    → total_by (realised_gain_of_change (completion_price v)) (map (recorded_lot_change (sheets base)) rows) ≡ total_by (row_gain (trade_price_or_zero (sheets base)) (completion_price v)) rows
changed_total base v rows = total-map (realised_gain_of_change (completion_price v)) (recorded_lot_change (sheets base)) rows

-- the row of the lot's own trade gains nothing
first_gains : (base : Base) (v : Trade) (rows : List HoldingHistoryRow) → trade_with_id base v.id ≡ Some v → BeginsWithTradeOfLot v.id rows
    → total_by (row_gain (trade_price_or_zero (sheets base)) (completion_price v)) (rest rows) ≡ total_by (row_gain (trade_price_or_zero (sheets base)) (completion_price v)) rows
unfolding total_by
first_gains base v [] e o = refl
first_gains base v (x ∷ xs) e o =
    sym (ap (λ z. z +ℤ total_by (row_gain (trade_price_or_zero (sheets base)) (completion_price v)) xs)
    (ap (λ (n : ℕ). (x.before -ℤ x.after) *ℤ (pos n -ℤ pos (completion_price v))) (ap (trade_price_or_zero (sheets base)) o ∙ price_is base v e)
    ∙ times_less (x.before -ℤ x.after) (pos (completion_price v)) (pos (completion_price v)) ∙ nothing ((x.before -ℤ x.after) *ℤ pos (completion_price v)))
    ∙ no_more (total_by (row_gain (trade_price_or_zero (sheets base)) (completion_price v)) xs))
  where
    nothing : (z : ℤ) → z -ℤ z ≡ pos 0
    nothing z = omega (arith, ints)

gain_is : (base : Base) (account : ℕ) (symbol : Text) (v : Trade) → BooksInvariant base → IsOf base account symbol v
    → realised_gain_of_lot (lot_with_changes_by_others (sheets base) (trade_row v)) ≡ lot_gains (completion_price v) v.id [] (deals_of_position (completed_trades base) account symbol)
gain_is base account symbol v books k =
    ap (total_by (realised_gain_of_change (completion_price v))) (changes_are_rest base v books k.among_all)
    ∙ changed_total base v (rest (lot_rows_with_quantity_change (completed_trades base) v))
    ∙ first_gains base v (lot_rows_with_quantity_change (completed_trades base) v) k.found (opened_by_own base v books k.among_all)
    ∙ ap (total_by (row_gain (trade_price_or_zero (sheets base)) (completion_price v))) k.history
    ∙ rows_gain (trade_price_or_zero (sheets base)) (completion_price v) v.id [] (deals_of_position (completed_trades base) account symbol)
    (All-mapped (λ d. trade_price_or_zero (sheets base) d.trade ≡ d.price) deal_of_trade (trades_held base account symbol) prices)
  where
    prices : AllByRecursion (λ u. trade_price_or_zero (sheets base) u.id ≡ completion_price u) (trades_held base account symbol)
    prices = of_held (λ u. trade_price_or_zero (sheets base) u.id ≡ completion_price u) base account symbol (All-map (completed_trades base) (λ u e. price_is base u e) (done_found base books))

-- ---- a sum over some is one over all, where the others are 0

pub some_of_all : {X : Type 0} (f : X → ℤ) (p : X → Bool) (xs : List X) → AllByRecursion (λ x. p x ≡ false → f x ≡ pos 0) xs → total_by f (filter p xs) ≡ total_by f xs
unfolding total_by
some_of_all f p [] h = refl
some_of_all {X = X} f p (x ∷ xs) h = by_test (p x) refl (some_of_all f p xs h.1)
  where
    by_test : (b : Bool) → p x ≡ b → total_by f (filter p xs) ≡ total_by f xs → total_by f (cond b (x ∷ filter p xs) (filter p xs)) ≡ f x +ℤ total_by f xs
    by_test true e ih = ap (λ z. f x +ℤ z) ih
    by_test false e ih = ih ∙ sym (ap (λ z. z +ℤ total_by f xs) (h.0 e) ∙ no_more (total_by f xs))

-- a sum over the lots of a view, by the trades of the position
told_sum : (base : Base) (account : ℕ) (symbol : Text) (f : LotDetails → ℤ) → BooksInvariant base
    → AllByRecursion (λ v. is_some (opened_lot_row (sheets base) v.id) ≡ false → f (lot_with_changes_by_others (sheets base) (trade_row v)) ≡ pos 0) (trades_held base account symbol)
    → total_by f (lots_opened_in_symbol (sheets base) account symbol) ≡ total_by (λ v. f (lot_with_changes_by_others (sheets base) (trade_row v))) (trades_held base account symbol)
told_sum base account symbol f books h =
    total-map f (lot_with_changes_by_others T) (filter has_own (completed_trades_in_symbol T account symbol))
    ∙ ap (λ us. total_by (λ u. f (lot_with_changes_by_others T u)) (filter has_own us)) (done_are base account symbol books)
    ∙ ap (total_by (λ u. f (lot_with_changes_by_others T u))) (filter-map has_own trade_row (trades_held base account symbol))
    ∙ total-map (λ u. f (lot_with_changes_by_others T u)) trade_row (filter (λ v. has_own (trade_row v)) (trades_held base account symbol))
    ∙ some_of_all (λ v. f (lot_with_changes_by_others T (trade_row v))) (λ v. has_own (trade_row v)) (trades_held base account symbol) h
  where
    T : Tables
    T = sheets base

    has_own : TradeRow → Bool
    has_own u = is_some (opened_lot_row T u.id)

-- a lot without a row of its own trade has no rows
no_history : (base : Base) (v : Trade) → BooksInvariant base → Among base v → is_some (opened_lot_row (sheets base) v.id) ≡ false → lot_rows_with_quantity_change (completed_trades base) v ≡ []
no_history base v books a e = empty (lot_rows_with_quantity_change (completed_trades base) v) (sym (ap is_some (own_is_first base v books a)) ∙ e)
  where
    empty : (rows : List HoldingHistoryRow) → is_some (first rows) ≡ false → rows ≡ []
    empty [] e = refl
    empty (x ∷ xs) e = absurd (cc)

-- ---- the gains

held_each : (ts : List Trade) → IdsApart ts → AllByRecursion (λ d. IsHeld ts (opened_share d)) (map deal_of_trade ts)
held_each ts a = All-mapped (λ d. IsHeld ts (opened_share d)) deal_of_trade ts (All-map ts (λ v e. (v, e, refl)) (found_each ts a))

pub gains_are : (base : Base) (account : ℕ) (symbol : Text) → BooksInvariant base
    → realised_gain_in_symbol (sheets base) account symbol ≡ realised_gain_sum (deals_of_position (completed_trades base) account symbol) []
unfolding total_by
gains_are base account symbol books =
    told_sum base account symbol realised_gain_of_lot books (All-map W none known)
    ∙ total_by-same (λ v. realised_gain_of_lot (lot_with_changes_by_others (sheets base) (trade_row v))) (λ v. lot_gains (completion_price v) v.id [] D) W
    (All-map W (λ v k. gain_is base account symbol v books k) known)
    ∙ all_lots W [] [] D refl apart tt (held_each W apart)
  where
    W : List Trade
    W = trades_held base account symbol

    D : List Deal
    D = deals_of_position (completed_trades base) account symbol

    known : AllByRecursion (IsOf base account symbol) W
    known = each_is base account symbol books

    apart : IdsApart W
    apart = order_apart W (held_in_order base account symbol books)

    none : (v : Trade) → IsOf base account symbol v → is_some (opened_lot_row (sheets base) v.id) ≡ false → realised_gain_of_lot (lot_with_changes_by_others (sheets base) (trade_row v)) ≡ pos 0
    none v k e = ap (total_by (realised_gain_of_change (completion_price v)))
        (changes_are_rest base v books k.among_all ∙ ap (λ rows. map (recorded_lot_change (sheets base)) (rest rows)) (no_history base v books k.among_all e))

-- ---- what is left

last_of : (zs : List ℤ) (a z : ℤ) → unwrap_or (last_or (Some z) zs) a ≡ unwrap_or (last_or None zs) z
last_of [] a z = refl
last_of (y ∷ zs) a z = last_some zs a z y

falls_end : (T : Tables) (from : ℤ) (rows : List HoldingHistoryRow) (to : ℤ) → ShrinksTowardZero from (map touch_of_row rows) to
    → unwrap_or (last_or None (map (λ (c : LotChange). c.after) (map (recorded_lot_change T) rows))) from ≡ to
falls_end T from [] to h = h
falls_end T from (r ∷ rows) to h = last_of (map (λ (c : LotChange). c.after) (map (recorded_lot_change T) rows)) from r.after ∙ falls_end T r.after rows to h.2

-- what the rows of a lot leave
abbrev rows_leave : Tables → List HoldingHistoryRow → ℤ
rows_leave T rows = unwrap_or (last_or None (map (λ (c : LotChange). c.after) (map (recorded_lot_change T) (rest rows)))) (option_map_or (λ (r : HoldingHistoryRow). r.after) (first rows) (pos 0))

life_ends : (T : Tables) (rows : List HoldingHistoryRow) (to : ℤ) → IsLotHistory (map touch_of_row rows) to → rows_leave T rows ≡ to
life_ends T [] to h = h
life_ends T (x ∷ xs) to h = falls_end T x.after xs to h.1

left_rows : (base : Base) (v : Trade) → BooksInvariant base → Among base v
    → remaining_quantity (lot_with_changes_by_others (sheets base) (trade_row v)) ≡ rows_leave (sheets base) (lot_rows_with_quantity_change (completed_trades base) v)
left_rows base v books a =
    λ i. unwrap_or (last_or None (map (λ (c : LotChange). c.after) (changes_are_rest base v books a i))) (option_map_or (λ (r : HoldingHistoryRow). r.after) (own_is_first base v books a i) (pos 0))

left_is : (base : Base) (account : ℕ) (symbol : Text) (v : Trade) → BooksInvariant base → IsOf base account symbol v
    → remaining_quantity (lot_with_changes_by_others (sheets base) (trade_row v)) ≡ lot_quantity (replay (deals_of_position (completed_trades base) account symbol)) v.id
left_is base account symbol v books k =
    left_rows base v books k.among_all ∙ ap (rows_leave (sheets base)) k.history
    ∙ life_ends (sheets base) (filter has_quantity_change (lot_history_rows_per_deal v.id [] (deals_of_position (completed_trades base) account symbol)))
    (lot_quantity (replay (deals_of_position (completed_trades base) account symbol)) v.id) (lot_lives base account symbol v.id books)

none_left : (base : Base) (v : Trade) → BooksInvariant base → Among base v → is_some (opened_lot_row (sheets base) v.id) ≡ false
    → remaining_quantity (lot_with_changes_by_others (sheets base) (trade_row v)) ≡ pos 0
none_left base v books a e = left_rows base v books a ∙ ap (rows_leave (sheets base)) (no_history base v books a e)

-- ---- what the lots cost, and how many shares they have

-- a sum over the lots of the position, by its trades
lots_sum : (base : Base) (account : ℕ) (symbol : Text) (f : Lot → ℤ) → BooksInvariant base → ((l : Lot) → l.qty ≡ pos 0 → f l ≡ pos 0)
    → total_by f (lots_of_position (sheets base) account symbol) ≡ total_by (λ v. f (lot_upon (replay (deals_of_position (completed_trades base) account symbol)) v)) (trades_held base account symbol)
unfolding shares_of_position
lots_sum base account symbol f books none =
    ap (total_by f) (lots_read base account symbol books)
    ∙ some_of_all f is_some_left (map (lot_upon us) W) (each (map (lot_upon us) W))
    ∙ total-map f (lot_upon us) W
  where
    us : List Share
    us = replay (deals_of_position (completed_trades base) account symbol)

    W : List Trade
    W = trades_held base account symbol

    each : (ls : List Lot) → AllByRecursion (λ l. is_some_left l ≡ false → f l ≡ pos 0) ls
    each [] = tt
    each (l ∷ ls) = ((λ e. none l (zero_is l.qty (not_not (is_zero l.qty) e))), each ls)

pub costs_are : (base : Base) (account : ℕ) (symbol : Text) → BooksInvariant base
    → remaining_cost_of_lots (lots_opened_in_symbol (sheets base) account symbol) ≡ cost_basis_of_lots (lots_of_position (sheets base) account symbol)
costs_are base account symbol books =
    told_sum base account symbol remaining_cost_of_lot books
    (All-map W (λ v k e. ap (λ z. z *ℤ pos (completion_price v)) (none_left base v books k.among_all e) ∙ zero-*ℤ (pos (completion_price v))) known)
    ∙ total_by-same (λ v. remaining_cost_of_lot (lot_with_changes_by_others (sheets base) (trade_row v))) (λ v. lot_quantity us v.id *ℤ pos (completion_price v)) W
    (All-map W (λ v k. ap (λ z. z *ℤ pos (completion_price v)) (left_is base account symbol v books k)) known)
    ∙ sym (lots_sum base account symbol (λ (l : Lot). l.qty *ℤ pos l.price) books (λ l e. ap (λ z. z *ℤ pos l.price) e ∙ zero-*ℤ (pos l.price)))
  where
    us : List Share
    us = replay (deals_of_position (completed_trades base) account symbol)

    W : List Trade
    W = trades_held base account symbol

    known : AllByRecursion (IsOf base account symbol) W
    known = each_is base account symbol books

-- the trades of the position, in whatever order
deals_sum : (base : Base) (account : ℕ) (symbol : Text)
    → total_by (λ v. signed_by_side (side_of_trade_type v.kind) v.qty) (trades_held base account symbol)
    ≡ holding_summary_quantity (completed_trades base) account symbol
unfolding holding_summary_quantity
deals_sum base account symbol = total_sorted (λ v. signed_by_side (side_of_trade_type v.kind) v.qty) (by last_status_stamp_of_trade) (trades_of_position (completed_trades base) account symbol)

left_are : (base : Base) (account : ℕ) (symbol : Text) → BooksInvariant base
    → total_by remaining_quantity (lots_opened_in_symbol (sheets base) account symbol) ≡ holding_summary_quantity (completed_trades base) account symbol
left_are base account symbol books =
    told_sum base account symbol remaining_quantity books (All-map W (λ v k e. none_left base v books k.among_all e) known)
    ∙ total_by-same (λ v. remaining_quantity (lot_with_changes_by_others (sheets base) (trade_row v))) (λ v. lot_quantity us v.id) W
    (All-map W (λ v k. left_is base account symbol v books k) known)
    ∙ sym (lots_sum base account symbol (λ (l : Lot). l.qty) books (λ l e. e))
    ∙ quantities_sum base account symbol books ∙ total-map (λ (d : Deal). signed_by_side d.side d.qty) deal_of_trade W ∙ deals_sum base account symbol
  where
    us : List Share
    us = replay (deals_of_position (completed_trades base) account symbol)

    W : List Trade
    W = trades_held base account symbol

    known : AllByRecursion (IsOf base account symbol) W
    known = each_is base account symbol books

shares_are : (base : Base) (account : ℕ) (symbol : Text) → BooksInvariant base
    → last_number_or_default (pos 0) (running_totals signed_quantity_of_trade (pos 0) (completed_trades_in_symbol (sheets base) account symbol))
    ≡ holding_summary_quantity (completed_trades base) account symbol
shares_are base account symbol books =
    running_ends signed_quantity_of_trade (pos 0) (completed_trades_in_symbol (sheets base) account symbol)
    ∙ no_more (total_by signed_quantity_of_trade (completed_trades_in_symbol (sheets base) account symbol))
    ∙ ap (total_by signed_quantity_of_trade) (done_are base account symbol books) ∙ total-map signed_quantity_of_trade trade_row (trades_held base account symbol) ∙ deals_sum base account symbol

-- ---- purchases and sales

both_signs : {X : Type 0} (f : X → ℤ) (xs : List X) → total_by f (filter (λ x. int_lt (pos 0) (f x)) xs) +ℤ total_by f (filter (λ x. int_lt (f x) (pos 0)) xs) ≡ total_by f xs
unfolding total_by
both_signs f [] = refl
both_signs {X = X} f (x ∷ xs) = by_test (int_lt (pos 0) (f x)) (int_lt (f x) (pos 0)) refl refl (both_signs f xs)
  where
    B : List X
    B = filter (λ x. int_lt (pos 0) (f x)) xs

    S : List X
    S = filter (λ x. int_lt (f x) (pos 0)) xs

    never : (z : ℤ) → int_lt (pos 0) z ≡ true → int_lt z (pos 0) ≡ true → ⊥
    never z e g = omega (arith, ints, e, g)

    zero : (z : ℤ) → int_lt (pos 0) z ≡ false → int_lt z (pos 0) ≡ false → pos 0 ≡ z
    zero z e g = omega (arith, ints, e, g)

    left : (z a b c : ℤ) → a +ℤ b ≡ c → (z +ℤ a) +ℤ b ≡ z +ℤ c
    left z a b c e = omega (arith, ints, e)

    right : (z a b c : ℤ) → a +ℤ b ≡ c → a +ℤ (z +ℤ b) ≡ z +ℤ c
    right z a b c e = omega (arith, ints, e)

    by_test : (b c : Bool) → int_lt (pos 0) (f x) ≡ b → int_lt (f x) (pos 0) ≡ c → total_by f B +ℤ total_by f S ≡ total_by f xs
        → total_by f (cond b (x ∷ B) B) +ℤ total_by f (cond c (x ∷ S) S) ≡ f x +ℤ total_by f xs
    by_test true true e g ih = absurd (never (f x) e g)
    by_test true false e g ih = left (f x) (total_by f B) (total_by f S) (total_by f xs) ih
    by_test false true e g ih = right (f x) (total_by f B) (total_by f S) (total_by f xs) ih
    by_test false false e g ih = ih ∙ sym (no_more (total_by f xs)) ∙ ap (λ z. z +ℤ total_by f xs) (zero (f x) e g)

traded_are : (base : Base) (account : ℕ) (symbol : Text) → BooksInvariant base
    → total_purchase_value (completed_trades_in_symbol (sheets base) account symbol) +ℤ negated_total_sale_value
    (completed_trades_in_symbol (sheets base) account symbol) ≡ purchase_value_minus_sale_value (deals_of_position (completed_trades base) account symbol)
traded_are base account symbol books =
    both_signs signed_value_of_trade (completed_trades_in_symbol (sheets base) account symbol) ∙ ap (total_by signed_value_of_trade) (done_are base account symbol books)
    ∙ total-map signed_value_of_trade trade_row W
    ∙ total_by-same (λ v. signed_value_of_trade (trade_row v)) (λ v. signed_by_side (side_of_trade_type v.kind) (v.qty * completion_price v)) W (each W)
    ∙ sym (total-map (λ (d : Deal). signed_by_side d.side (d.qty * d.price)) deal_of_trade W)
  where
    W : List Trade
    W = trades_held base account symbol

    each : (vs : List Trade) → AllByRecursion (λ v. signed_value_of_trade (trade_row v) ≡ signed_by_side (side_of_trade_type v.kind) (v.qty * completion_price v)) vs
    each [] = tt
    each (v ∷ vs) = (signed_worth (side_of_trade_type v.kind) v.qty (completion_price v), each vs)

-- ---- the whole

pub holding_as_told : (base : Base) (account : ℕ) (symbol : Text) → BooksInvariant base → PrintedHoldingMatchesDeals base account symbol
holding_as_told base account symbol books = record {
  gained = gains_are base account symbol books;
  costs = costs_are base account symbol books;
  balance = costs_are base account symbol books ∙ costs_sum base account symbol books
      ∙ (λ i. sym (gains_are base account symbol books) i +ℤ sym (traded_are base account symbol books) i)
      ∙ sym (+ℤ_assoc (realised_gain_in_symbol (sheets base) account symbol) (total_purchase_value (completed_trades_in_symbol (sheets base) account symbol))
      (negated_total_sale_value (completed_trades_in_symbol (sheets base) account symbol)));
  shares = shares_are base account symbol books;
  left = left_are base account symbol books;
}
