-- The trades of a position before a trade and after it, and the lots that the earlier ones left.
use Rattle.std.proofs.Common.{◌≡◌, ◌≢◌, ◌<◌, ℕ, ◌==◌, zero, suc, Bool, true, false, not, cond, List, [], ◌∷◌, ◌++◌, Some, refl, sym, ◌∙◌, ap, subst, map}
use Rattle.std.proofs.Common.{filter, replicate, unsigned_abs, arith, ℤ, pos, negsuc, ◌+ℤ◌}
use Rattle.std.specs.Prelude.{bytes_eq, flat_map, fold, nat_lt}
use Rattle.std.specs.List.{AllByRecursion}
use Rattle.std.proofs.lemmas.Bool.{eqb-false}
use Rattle.std.proofs.lemmas.Bool.Decides.{nat_tests}
use lib.IntN.{+ℤ_idr}
use Rattle.brk_money.specs.Kinds.{side_of_trade_type}
use Rattle.brk_money.specs.declared.side.Side.{Side}
use Rattle.brk_money.specs.declared.side.Side.TheVariants.{Buy}
use Rattle.brk_model.specs.Base.{Base, completed_trades, is_completed, last_status_stamp_of_trade, completion_price, trade_with_id}
use Rattle.brk_model.specs.Derived.{deal_of_trade, trades_of_account, trades_of_position, shares_of_position}
use Rattle.brk_model.specs.Lists.{is_zero, sort_by_key}
use Rattle.brk_model.specs.Records.{Trade}
use Rattle.brk_model.specs.Shares.{Deal, Share, Touch, first_shares_of_lots, changes_lot_quantity, lot_quantity, opened_share, replay, shares_after_deal}
use Rattle.brk_model.specs.Shares.{signed_by_side, touch_of_lot, touch_of_lot_with_share, touches_of_existing_lots}
use Rattle.brk_lots.specs.Lots.{share_of_lot, shares_of_lots}
use Rattle.brk_lots.specs.Position.{AreOpenedByOtherTrades, IsPosition}
use Rattle.brk_lots.specs.declared.lot.Lot.{Lot}
use Rattle.brk_lots.proofs.Books.{sides_after}
use Rattle.brk_lots.proofs.Changes.{firsts_walk}
use Rattle.brk_lots.proofs.Counts.{OneSide}
use Rattle.brk_lots.proofs.Deals.{all_after}
use Rattle.brk_lots.proofs.Ends.{walk_of}
use Rattle.brk_trade_books.proofs.Bools.{numbers_back}
use Rattle.brk_trade_books.proofs.LotOrder.{Follows, InOrder, both_hold, is_some_left, lot_upon, lots_left, position_upon, trades_held}
use Rattle.brk_trade_books.proofs.LotReading.{IdsApart, filter-swap}
use Rattle.brk_trade_books.proofs.Order.{append_nil, sort_filter}
use Rattle.brk_trade_books.proofs.Places.{FoundAt, filter-all, filter-append, filter-one, find-at}
use Rattle.brk_trade_books.proofs.Positions.{position_own}
use Rattle.brk_trade_books.proofs.Runs.{AreRuns, lot_other, lot_own, no_lot, run_told, runs_of}
use Rattle.brk_trade_books.proofs.Same.{NonePass, All-map, All-of, filter-none}
use Rattle.brk_trade_books.proofs.Tested.{All-back}
use Rattle.brk_trade_books.proofs.Touching.{Without, unchanged, without_of}
use Rattle.brk_view_theorems.specs.Before.{trades_completed_before_stamp, shares_before_trade}
use Rattle.brk_view_theorems.proofs.SortedRows.{Split, by_one_way, by_splits, split_sort}

-- ---- where a trade stands in its position

pub placed : (base : Base) (t : Trade) → trade_with_id base t.id ≡ Some t → is_completed t ≡ true → Split Trade t (trades_held base t.account t.symbol)
placed base t e c =
    let f : FoundAt Trade (λ u. u.id == t.id) t base.trades = find-at (λ u. u.id == t.id) base.trades t e in
    let A : List Trade = filter is_completed f.before in
    let Z : List Trade = filter is_completed f.after in
    let done : completed_trades base ≡ A ++ t ∷ Z = ap (filter is_completed) f.stands ∙ filter-one is_completed f.before t f.after c in
    let held : trades_of_position (completed_trades base) t.account t.symbol ≡ trades_of_position A t.account t.symbol ++ t ∷ trades_of_position Z t.account t.symbol =
    ap (λ ts. trades_of_position ts t.account t.symbol) done ∙ position_own A t Z in
    subst (λ ts. Split Trade t (sort_by_key last_status_stamp_of_trade ts)) (sym held)
    (split_sort (λ u v. nat_lt (last_status_stamp_of_trade u) (last_status_stamp_of_trade v)) t (trades_of_position A t.account t.symbol)
    (trades_of_position Z t.account t.symbol))

-- of another number, and completed before
abbrev pub Precedes : Trade → Trade → Type 0
Precedes t u = ((u.id == t.id) ≡ false) × (last_status_stamp_of_trade u < last_status_stamp_of_trade t)

-- the first of a list of which something holds of all
first_of : {X : Type 0} (P : X → Type 0) (xs : List X) (x : X) (ys : List X) → AllByRecursion P (xs ++ x ∷ ys) → P x
first_of P xs x ys h = (All-back P xs (x ∷ ys) h).0

pub front_precedes : (front : List Trade) (t : Trade) (back : List Trade) → InOrder (front ++ t ∷ back) → AllByRecursion (Precedes t) front
front_precedes [] t back o = tt
front_precedes (u ∷ front) t back o =
    let k : Follows u t = first_of (Follows u) front t back o.0 in
    ((numbers_back u.id t.id ∙ k.0, k.1), front_precedes front t back o.1)

pub back_follows : (front : List Trade) (t : Trade) (back : List Trade) → InOrder (front ++ t ∷ back) → AllByRecursion (Follows t) back
back_follows [] t back o = o.0
back_follows (u ∷ front) t back o = back_follows front t back o.1

pub front_in_order : (front : List Trade) (rest : List Trade) → InOrder (front ++ rest) → InOrder front
front_in_order [] rest o = tt
front_in_order (u ∷ front) rest o = (each front o.0, front_in_order front rest o.1)
  where
    each : (ts : List Trade) → AllByRecursion (Follows u) (ts ++ rest) → AllByRecursion (Follows u) ts
    each [] h = tt
    each (v ∷ ts) h = (h.0, each ts h.1)

pub order_apart : (ts : List Trade) → InOrder ts → IdsApart ts
order_apart [] o = tt
order_apart (t ∷ ts) o = (All-map ts (λ u h. h.0) o.0, order_apart ts o.1)

-- ---- the shares before a trade

abbrev earlier : ℕ → Trade → Bool
earlier stamp u = nat_lt (last_status_stamp_of_trade u) stamp

is_earlier : (m n : ℕ) → m < n → nat_lt m n ≡ true
is_earlier m n h = grind (arith, nat_tests)

not_earlier : (m n : ℕ) → n < m → nat_lt m n ≡ false
not_earlier m n h = grind (arith, nat_tests)

not_itself : (n : ℕ) → nat_lt n n ≡ false
not_itself n = grind (arith, nat_tests)

pub held_before : (base : Base) (t : Trade) (front back : List Trade) → trades_held base t.account t.symbol ≡ front ++ t ∷ back → InOrder (front ++ t ∷ back)
    → sort_by_key last_status_stamp_of_trade (trades_of_position (trades_completed_before_stamp base (last_status_stamp_of_trade t)) t.account t.symbol) ≡ front
held_before base t front back e o =
    ap (sort_by_key last_status_stamp_of_trade) (ap (filter S) (filter-swap A E (completed_trades base)) ∙ filter-swap S E (trades_of_account (completed_trades base) t.account))
    ∙ sort_filter (λ u v. nat_lt (last_status_stamp_of_trade u) (last_status_stamp_of_trade v)) E
    (trades_of_position (completed_trades base) t.account t.symbol) (by_splits last_status_stamp_of_trade) (by_one_way last_status_stamp_of_trade)
    ∙ ap (filter E) e
    ∙ filter-append E front (t ∷ back)
    ∙ (λ i. filter-all E front (All-map front (λ u h. is_earlier (last_status_stamp_of_trade u) (last_status_stamp_of_trade t) h.1) (front_precedes front t back o)) i
    ++ filter-none E (t ∷ back) (
      not_itself (last_status_stamp_of_trade t),
      All-map back (λ u h. not_earlier (last_status_stamp_of_trade u) (last_status_stamp_of_trade t) h.1)
          (back_follows front t back o),
    ) i)
    ∙ append_nil front
  where
    A : Trade → Bool
    A u = u.account == t.account

    S : Trade → Bool
    S u = bytes_eq u.symbol t.symbol

    E : Trade → Bool
    E = earlier (last_status_stamp_of_trade t)

pub shares_are : (base : Base) (t : Trade) (front back : List Trade) → trades_held base t.account t.symbol ≡ front ++ t ∷ back → InOrder (front ++ t ∷ back)
    → shares_before_trade base t ≡ replay (map deal_of_trade front)
unfolding shares_of_position
shares_are base t front back e o = ap (λ ts. replay (map deal_of_trade ts)) (held_before base t front back e o)

-- ---- the lots that trades left

opened_by_deals : (id : ℕ) (ts : List Trade) → NonePass (λ u. u.id == id) ts → AllByRecursion (λ d. (d.trade == id) ≡ false) (map deal_of_trade ts)
opened_by_deals id [] h = tt
opened_by_deals id (t ∷ ts) h = (h.0, opened_by_deals id ts h.1)

abbrev lot_run : Lot → List Share
lot_run l = replicate (unsigned_abs l.qty) (share_of_lot l)

-- shares that are runs of the trades' deals are the shares of the trades' lots
runs_told : (whole : List Share) (ts : List Trade) (shares : List Share) → IdsApart ts → AreRuns (map deal_of_trade ts) shares
    → AllByRecursion (λ t. lot_quantity whole t.id ≡ lot_quantity shares t.id) ts → flat_map (λ t. lot_run (lot_upon whole t)) ts ≡ shares
runs_told whole [] shares d r h = sym r
runs_told whole (t ∷ ts) shares d r h =
    let none : lot_quantity r.1 t.id ≡ pos 0 = no_lot t.id (map deal_of_trade ts) r.1 (opened_by_deals t.id ts d.0) r.3 in
    let qty : lot_quantity whole t.id ≡ signed_by_side (side_of_trade_type t.kind) r.0 =
    h.0 ∙ ap (λ xs. lot_quantity xs t.id) r.2 ∙ lot_own (opened_share (deal_of_trade t)) r.0 r.1
    ∙ ap (λ z. signed_by_side (side_of_trade_type t.kind) r.0 +ℤ z) none ∙ +ℤ_idr (signed_by_side (side_of_trade_type t.kind) r.0) in
    let run : lot_run (lot_upon whole t) ≡ replicate r.0 (opened_share (deal_of_trade t)) =
    ap (λ q. lot_run (record (lot_upon whole t) { qty = q })) qty ∙ run_told (side_of_trade_type t.kind) r.0 t.id (completion_price t) (last_status_stamp_of_trade t) in
    let others : AllByRecursion (λ u. lot_quantity whole u.id ≡ lot_quantity r.1 u.id) ts = left ts h.1 d.0 in
    (λ i. run i ++ runs_told whole ts r.1 d.1 r.3 others i) ∙ sym r.2
  where
    left : (us : List Trade) → AllByRecursion (λ u. lot_quantity whole u.id ≡ lot_quantity shares u.id) us → NonePass (λ u. u.id == t.id) us
        → AllByRecursion (λ u. lot_quantity whole u.id ≡ lot_quantity r.1 u.id) us
    left [] h n = tt
    left (u ∷ us) h n = (h.0 ∙ ap (λ xs. lot_quantity xs u.id) r.2 ∙ lot_other u.id (opened_share (deal_of_trade t)) r.0 r.1 (numbers_back t.id u.id ∙ n.0), left us h.1 n.1)

no_run : (q : ℤ) (s : Share) → is_zero q ≡ true → replicate (unsigned_abs q) s ≡ []
no_run (pos zero) s e = refl
no_run (pos (suc n)) s e = absurd (cc)
no_run (negsuc n) s e = absurd (cc)

some_runs : (whole : List Share) (ts : List Trade) → shares_of_lots (lots_left whole ts) ≡ flat_map (λ t. lot_run (lot_upon whole t)) ts
some_runs whole [] = refl
some_runs whole (t ∷ ts) = by_test (is_zero (lot_quantity whole t.id)) refl (some_runs whole ts)
  where
    by_test : (b : Bool) → is_zero (lot_quantity whole t.id) ≡ b → shares_of_lots (lots_left whole ts) ≡ flat_map (λ t. lot_run (lot_upon whole t)) ts
        → shares_of_lots (cond (not b) (lot_upon whole t ∷ lots_left whole ts) (lots_left whole ts)) ≡ lot_run (lot_upon whole t) ++ flat_map (λ t. lot_run (lot_upon whole t)) ts
    by_test true e ih = ih ∙ ap (λ xs. xs ++ flat_map (λ t. lot_run (lot_upon whole t)) ts) (sym (no_run (lot_quantity whole t.id) (share_of_lot (lot_upon whole t)) e))
    by_test false e ih = ap (λ xs. lot_run (lot_upon whole t) ++ xs) ih

-- the shares that trades left
abbrev pub left_by : List Trade → List Share
left_by ts = replay (map deal_of_trade ts)

-- and their lots
abbrev pub lots_by : List Trade → List Lot
lots_by ts = lots_left (left_by ts) ts

pub lots_shares : (ts : List Trade) → InOrder ts → shares_of_lots (lots_by ts) ≡ left_by ts
lots_shares ts o = some_runs (left_by ts) ts ∙ runs_told (left_by ts) ts (left_by ts) (order_apart ts o) (runs_of (map deal_of_trade ts)) (same ts)
  where
    same : (us : List Trade) → AllByRecursion (λ t. lot_quantity (left_by ts) t.id ≡ lot_quantity (left_by ts) t.id) us
    same [] = tt
    same (u ∷ us) = (refl, same us)

pub one_side : (ts : List Trade) → (s : Side) × OneSide s (left_by ts)
one_side ts = sides_after Buy (map deal_of_trade ts) [] tt

pub lots_position : (ts : List Trade) → InOrder ts → IsPosition (lots_by ts)
lots_position ts o = let s = one_side ts in position_upon s.0 (left_by ts) ts s.1 o

-- ---- the trades of the shares

-- what holds of the shares that deals open, and of those before, holds of those after
pub all_replayed : (P : Share → Type 0) (ds : List Deal) (us : List Share) → AllByRecursion (λ d. P (opened_share d)) ds → AllByRecursion P us → AllByRecursion P (fold shares_after_deal us ds)
all_replayed P [] us o h = h
all_replayed P (d ∷ ds) us o h = all_replayed P ds (shares_after_deal us d) o.1 (all_after P d us o.0 h)

-- each later trade is none of the earlier ones
apart_later : (front rest : List Trade) → InOrder (front ++ rest) → AllByRecursion (λ v. AllByRecursion (λ u. (u.id == v.id) ≡ false) front) rest
apart_later [] rest o = All-of rest (λ v. tt)
apart_later (u ∷ front) rest o =
    All-map rest (λ v h. (numbers_back u.id v.id ∙ h.0.0, h.1))
    (both_hold (Follows u) (λ v. AllByRecursion (λ u. (u.id == v.id) ≡ false) front) rest (All-back (Follows u) front rest o.0) (apart_later front rest o.1))

-- so the earlier ones left no shares of it
pub none_yet : (front rest : List Trade) → InOrder (front ++ rest) → AllByRecursion (λ v. Without v.id (left_by front)) rest
none_yet front rest o =
    All-map rest (λ v h. all_replayed (λ s. (s.trade == v.id) ≡ false) (map deal_of_trade front) [] (opened_by_deals v.id front h) tt) (apart_later front rest o)

-- what holds of each trade's lot holds of each lot
pub left_all : (P : Lot → Type 0) (shares : List Share) (ts : List Trade) → AllByRecursion (λ t. P (lot_upon shares t)) ts → AllByRecursion P (lots_left shares ts)
left_all P shares [] h = tt
left_all P shares (t ∷ ts) h =
    elim (is_some_left (lot_upon shares t)) as (λ b. AllByRecursion P (cond b (lot_upon shares t ∷ lots_left shares ts) (lots_left shares ts)))
    [ true ↦ (h.0, left_all P shares ts h.1) | false ↦ left_all P shares ts h.1 ]

-- none of the lots is of a later trade
pub lots_new : (t : Trade) (ts : List Trade) → AllByRecursion (Precedes t) ts → AreOpenedByOtherTrades t.id (lots_by ts)
lots_new t ts h = left_all (λ l. l.trade ≢ t.id) (left_by ts) ts (All-map ts (λ u k. eqb-false u.id t.id k.0) h)

-- ---- what a later deal changes of them

touched_of : (s : Side) (us : List Share) (d : Deal) (ts : List Trade) → OneSide s us → AllByRecursion (λ t. (d.trade == t.id) ≡ false) ts
    → filter changes_lot_quantity (map (touch_of_lot_with_share d us) (map share_of_lot (lots_left us ts))) ≡ filter changes_lot_quantity (map (λ t. touch_of_lot t.id d us) ts)
touched_of s us d [] one h = refl
touched_of s us d (t ∷ ts) one h = by_test (is_zero (lot_quantity us t.id)) refl (touched_of s us d ts one h.1)
  where
    F : List Lot → List Touch
    F ls = filter changes_lot_quantity (map (touch_of_lot_with_share d us) (map share_of_lot ls))

    R : List Touch
    R = filter changes_lot_quantity (map (λ t. touch_of_lot t.id d us) ts)

    touch : Touch
    touch = touch_of_lot t.id d us

    by_test : (b : Bool) → is_zero (lot_quantity us t.id) ≡ b → F (lots_left us ts) ≡ R
        → F (cond (not b) (lot_upon us t ∷ lots_left us ts) (lots_left us ts)) ≡ cond (changes_lot_quantity touch) (touch ∷ R) R
    by_test true e ih = ih ∙ sym (ap (λ c. cond c (touch ∷ R) R) (unchanged t.id d us h.0 (without_of s t.id us one e)))
    by_test false e ih = ap (λ rows. cond (changes_lot_quantity touch) (touch ∷ rows) rows) ih

pub touches_by : (ts : List Trade) (d : Deal) → InOrder ts → AllByRecursion (λ t. (d.trade == t.id) ≡ false) ts
    → touches_of_existing_lots d (left_by ts) ≡ filter changes_lot_quantity (map (λ t. touch_of_lot t.id d (left_by ts)) ts)
unfolding touches_of_existing_lots
touches_by ts d o h =
    let s = one_side ts in
    ap (λ us. filter changes_lot_quantity (map (touch_of_lot_with_share d (left_by ts)) us))
    (ap first_shares_of_lots (sym (lots_shares ts o)) ∙ firsts_walk (lots_by ts) (walk_of (lots_by ts) (lots_position ts o)))
    ∙ touched_of s.0 (left_by ts) d ts s.1 h
