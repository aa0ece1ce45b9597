-- The lots of a position total its holding summary.
use Rattle.std.proofs.Common.{◌≡◌, ◌<◌, ◌⊎◌, inl, inr, ℕ, ◌+◌, ◌==◌, Bool, true, false, not, cond, ◌&&◌, List, [], ◌∷◌, refl, sym, ◌∙◌, ap, subst, map, filter, arith, ℤ, pos, ◌+ℤ◌}
use Rattle.std.specs.Prelude.{⊤, fold, bytes_eq}
use Rattle.std.specs.List.{AllByRecursion}
use Rattle.std.specs.Cmp.{unsigned_Decides}
use Rattle.std.proofs.lemmas.Int.{ints}
use Rattle.std.proofs.lemmas.Slice.Eq.{bytes_eq-Decides}
use Rattle.brk_money.specs.Spelling.{Text}
use Rattle.brk_money.specs.Kinds.{side_of_trade_type}
use Rattle.brk_model.specs.Lists.{total_by, is_zero, insert_by, sort_by, sort_by_key}
use Rattle.brk_model.specs.Records.{Trade}
use Rattle.brk_model.specs.Base.{Base, is_completed, completed_trades, last_status_stamp_of_trade}
use Rattle.brk_model.specs.Shares.{Share, Deal, shares_after_deal, replay, signed_by_side, net_share_count, shares_opened_by_trade, lot_quantity}
use Rattle.brk_model.specs.Derived.{deal_of_trade, trades_of_account, trades_of_position, shares_of_position, holding_summary_quantity}
use Rattle.brk_model.specs.Tables.{HoldingRow, holding_row, tables_of_base_in_schema, tables_of_base}
use Rattle.brk_model_theorems.specs.Names.{BaseReferencesResolve}
use Rattle.brk_model_theorems.specs.Positions.{is_row_of_position}
use Rattle.brk_model.specs.Names.{TradesAreNumberedFrom}
use Rattle.brk_model.specs.Run.{Call, Outcome, Run}
use Rattle.brk_model_theorems.proofs.NameLaws.{still-named}
use Rattle.brk_model_theorems.proofs.Sums.{total_by-sum, total_by-zero, total_by-map, total_by-same, total_by-filter, total_by-left_out, total_by-sort, zero-is}
use Rattle.brk_model_theorems.proofs.Sides.{after-All, net-replay}

-- ---- numbers that differ

differ : (m n : ℕ) → m < n → (m == n) ≡ false
differ m n h = at (m == n) refl
  where
    at : (b : Bool) → (m == n) ≡ b → b ≡ false
    at true e = let k = (unsigned_Decides m n).0 e in absurd (omega (k, h, arith))
    at false e = refl

turned : (m n : ℕ) → (m == n) ≡ false → (n == m) ≡ false
turned m n h = at (n == m) refl
  where
    at : (b : Bool) → (n == m) ≡ b → b ≡ false
    at true e = let k = (unsigned_Decides m n).1 (sym ((unsigned_Decides n m).0 e)) in absurd (cc)
    at false e = refl

-- No two trades of the list have equal ids.
abbrev pub Apart : List Trade → Type 0
Apart [] = ⊤
Apart (t ∷ ts) = AllByRecursion (λ u. (t.id == u.id) ≡ false) ts × Apart ts

numbered-above : (m n : ℕ) (ts : List Trade) → m < n → TradesAreNumberedFrom n ts → AllByRecursion (λ u. (m == u.id) ≡ false) ts
numbered-above m n [] h k = tt
numbered-above m n (t ∷ ts) h k = (ap (λ i. m == i) k.0 ∙ differ m n h, numbered-above m (n + 1) ts (omega (h, arith)) k.1)

pub numbered-Apart : (n : ℕ) (ts : List Trade) → TradesAreNumberedFrom n ts → Apart ts
numbered-Apart n [] h = tt
numbered-Apart n (t ∷ ts) h = (subst (λ i. AllByRecursion (λ u. (i == u.id) ≡ false) ts) (sym h.0) (numbered-above n (n + 1) ts (omega arith) h.1), numbered-Apart (n + 1) ts h.1)

All-filter : {X : Type 0} (P : X → Type 0) (test : X → Bool) (xs : List X) → AllByRecursion P xs → AllByRecursion P (filter test xs)
All-filter P test [] h = tt
All-filter P test (x ∷ xs) h = at (test x) (All-filter P test xs h.1)
  where
    at : (b : Bool) → AllByRecursion P (filter test xs) → AllByRecursion P (cond b (x ∷ filter test xs) (filter test xs))
    at true k = (h.0, k)
    at false k = k

filter-Apart : (test : Trade → Bool) (ts : List Trade) → Apart ts → Apart (filter test ts)
filter-Apart test [] h = tt
filter-Apart test (t ∷ ts) h = at (test t) (filter-Apart test ts h.1)
  where
    at : (b : Bool) → Apart (filter test ts) → Apart (cond b (t ∷ filter test ts) (filter test ts))
    at true k = (All-filter (λ u. (t.id == u.id) ≡ false) test ts h.0, k)
    at false k = k

All-insert : {X : Type 0} (P : X → Type 0) (before : X → X → Bool) (x : X) (ys : List X) → P x → AllByRecursion P ys → AllByRecursion P (insert_by before x ys)
All-insert P before x [] p h = (p, tt)
All-insert P before x (y ∷ ys) p h = at (before y x) (All-insert P before x ys p h.1)
  where
    at : (b : Bool) → AllByRecursion P (insert_by before x ys) → AllByRecursion P (cond b (y ∷ insert_by before x ys) (x ∷ y ∷ ys))
    at true k = (h.0, k)
    at false k = (p, h)

All-sort : {X : Type 0} (P : X → Type 0) (before : X → X → Bool) (ys : List X) → AllByRecursion P ys → AllByRecursion P (sort_by before ys)
unfolding sort_by
All-sort P before [] h = tt
All-sort P before (y ∷ ys) h = All-insert P before y (sort_by before ys) h.0 (All-sort P before ys h.1)

insert-Apart : (before : Trade → Trade → Bool) (t : Trade) (us : List Trade) → AllByRecursion (λ u. (t.id == u.id) ≡ false) us → Apart us → Apart (insert_by before t us)
insert-Apart before t [] a h = (tt, tt)
insert-Apart before t (u ∷ us) a h = at (before u t) (insert-Apart before t us a.1 h.1)
  where
    at : (b : Bool) → Apart (insert_by before t us) → Apart (cond b (u ∷ insert_by before t us) (t ∷ u ∷ us))
    at true k = (All-insert (λ v. (u.id == v.id) ≡ false) before t us (turned t.id u.id a.0) h.0, k)
    at false k = (a, h)

sort-Apart : (before : Trade → Trade → Bool) (ts : List Trade) → Apart ts → Apart (sort_by before ts)
unfolding sort_by
sort-Apart before [] h = tt
sort-Apart before (t ∷ ts) h = insert-Apart before t (sort_by before ts) (All-sort (λ u. (t.id == u.id) ≡ false) before ts h.0) (sort-Apart before ts h.1)

-- ---- a share is of one of the trades

-- The number of shares, signed by side, that the share adds to the lot of the trade with the id
-- `trade`: 0 if another trade opened it.
abbrev pub part_of : Share → ℕ → ℤ
part_of share trade = cond (share.trade == trade) (signed_by_side share.side 1) (pos 0)

-- Exactly one trade of the list has the id.
abbrev pub IsOnce : ℕ → List Trade → Type 0
IsOnce n [] = ⊥
IsOnce n (t ∷ ts) = (((n == t.id) ≡ true) × AllByRecursion (λ u. (n == u.id) ≡ false) ts) ⊎ (((n == t.id) ≡ false) × IsOnce n ts)

once-behind : (t : Trade) (ts : List Trade) (us : List Trade) → AllByRecursion (λ u. (t.id == u.id) ≡ false) us → AllByRecursion (λ u. IsOnce u.id ts) us
    → AllByRecursion (λ u. IsOnce u.id (t ∷ ts)) us
once-behind t ts [] a h = tt
once-behind t ts (u ∷ us) a h = (inr (turned t.id u.id a.0, h.0), once-behind t ts us a.1 h.1)

pub each-once : (ts : List Trade) → Apart ts → AllByRecursion (λ t. IsOnce t.id ts) ts
each-once [] h = tt
each-once (t ∷ ts) h = (inl ((unsigned_Decides t.id t.id).1 refl, h.0), once-behind t ts ts h.0 (each-once ts h.1))

parts-none : (share : Share) (ts : List Trade) → AllByRecursion (λ u. (share.trade == u.id) ≡ false) ts → total_by (λ t. part_of share t.id) ts ≡ pos 0
unfolding total_by
parts-none share [] h = refl
parts-none share (t ∷ ts) h = rw h.0 (ap (λ y. pos 0 +ℤ y) (parts-none share ts h.1))

parts-once : (share : Share) (ts : List Trade) → IsOnce share.trade ts → total_by (λ t. part_of share t.id) ts ≡ signed_by_side share.side 1
unfolding total_by
parts-once share [] h = absurd h
parts-once share (t ∷ ts) (inl h) = let k = parts-none share ts h.1 in rw h.0 (omega (k, arith, ints))
parts-once share (t ∷ ts) (inr h) = let k = parts-once share ts h.1 in rw h.0 (omega (k, arith, ints))

lot_qty-cons : (share : Share) (shares : List Share) (trade : ℕ) → lot_quantity (share ∷ shares) trade ≡ part_of share trade +ℤ lot_quantity shares trade
unfolding total_by
lot_qty-cons share shares trade = at (share.trade == trade)
  where
    at : (b : Bool) → net_share_count (cond b (share ∷ shares_opened_by_trade trade shares) (shares_opened_by_trade trade shares))
        ≡ cond b (signed_by_side share.side 1) (pos 0) +ℤ lot_quantity shares trade
    at true = refl
    at false = omega (arith, ints)

-- the lots of some trades add up to the shares, where each share is of one of them
pub lots-net : (ts : List Trade) (shares : List Share) → AllByRecursion (λ share. IsOnce share.trade ts) shares → total_by (λ t. lot_quantity shares t.id) ts ≡ net_share_count shares
unfolding total_by
lots-net ts [] h = total_by-zero ts
lots-net ts (share ∷ shares) h =
    total_by-same (λ t. lot_quantity (share ∷ shares) t.id) (λ t. part_of share t.id +ℤ lot_quantity shares t.id) (λ t. lot_qty-cons share shares t.id) ts
    ∙ total_by-sum (λ t. part_of share t.id) (λ t. lot_quantity shares t.id) ts
    ∙ ap (λ x. x +ℤ total_by (λ t. lot_quantity shares t.id) ts) (parts-once share ts h.0)
    ∙ ap (λ y. signed_by_side share.side 1 +ℤ y) (lots-net ts shares h.1)

fold-All : (P : ℕ → Type 0) (ds : List Deal) (shares : List Share) → AllByRecursion (λ d. P d.trade) ds → AllByRecursion (λ share. P share.trade) shares
    → AllByRecursion (λ share. P share.trade) (fold shares_after_deal shares ds)
fold-All P [] shares h k = k
fold-All P (d ∷ ds) shares h k = fold-All P ds (shares_after_deal shares d) h.1 (after-All (λ share. P share.trade) d shares k h.0)

map-All : (P : ℕ → Type 0) (ts : List Trade) → AllByRecursion (λ t. P t.id) ts → AllByRecursion (λ d. P d.trade) (map deal_of_trade ts)
map-All P [] h = tt
map-All P (t ∷ ts) h = (h.0, map-All P ts h.1)

-- the lots of a position's trades add up to what the trades did
pub position-total : (ps : List Trade) → Apart ps
    → total_by (λ t. lot_quantity (replay (map deal_of_trade (sort_by_key last_status_stamp_of_trade ps))) t.id) ps
    ≡ total_by (λ t. signed_by_side (side_of_trade_type t.kind) t.qty) ps
position-total ps h =
    sym (total_by-sort (λ t. lot_quantity shares t.id) _ ps)
    ∙ lots-net sorted shares (fold-All (λ n. IsOnce n sorted) (map deal_of_trade sorted) [] (map-All (λ n. IsOnce n sorted) sorted (each-once sorted (sort-Apart _ ps h))) tt)
    ∙ net-replay (map deal_of_trade sorted)
    ∙ total_by-map (λ d. signed_by_side d.side d.qty) deal_of_trade sorted
    ∙ total_by-sort (λ t. signed_by_side (side_of_trade_type t.kind) t.qty) _ ps
  where
    sorted : List Trade
    sorted = sort_by_key last_status_stamp_of_trade ps

    shares : List Share
    shares = replay (map deal_of_trade sorted)

-- ---- in the tables

both : (a b : Bool) (x y : ℤ) → (a ≡ true → b ≡ true → x ≡ y) → cond (a && b) x (pos 0) ≡ cond a (cond b y (pos 0)) (pos 0)
both true true x y h = h refl refl
both true false x y h = refl
both false b x y h = refl

one : (done : List Trade) (account : ℕ) (symbol : Text) (t : Trade)
    → cond (is_row_of_position account symbol (holding_row done t)) (lot_quantity (shares_of_position done t.account t.symbol) t.id) (pos 0)
    ≡ cond (t.account == account) (cond (bytes_eq t.symbol symbol) (lot_quantity (shares_of_position done account symbol) t.id) (pos 0)) (pos 0)
one done account symbol t =
    both (t.account == account) (bytes_eq t.symbol symbol) (lot_quantity (shares_of_position done t.account t.symbol) t.id) (lot_quantity (shares_of_position done account symbol) t.id)
    (λ e k. ap (λ a. lot_quantity (shares_of_position done a t.symbol) t.id) ((unsigned_Decides t.account account).0 e)
    ∙ ap (λ s. lot_quantity (shares_of_position done account s) t.id) ((bytes_eq-Decides t.symbol symbol).0 k))

left-out : (p : HoldingRow → Bool) (row : HoldingRow) → not (is_zero row.qty) ≡ false → cond (p row) row.qty (pos 0) ≡ pos 0
left-out p row h = at (p row)
  where
    at : (b : Bool) → cond b row.qty (pos 0) ≡ pos 0
    at true = zero-is row.qty h
    at false = refl

pub holdings-total : (done : List Trade) (account : ℕ) (symbol : Text) → Apart done
    → total_by (λ row. row.qty) (filter (is_row_of_position account symbol) (filter (λ row. not (is_zero row.qty)) (map (holding_row done) done))) ≡ holding_summary_quantity done account symbol
unfolding shares_of_position holding_summary_quantity
holdings-total done account symbol h =
    total_by-filter (λ row. row.qty) (is_row_of_position account symbol) (filter (λ row. not (is_zero row.qty)) (map (holding_row done) done))
    ∙ total_by-left_out (λ row. cond (is_row_of_position account symbol row) row.qty (pos 0)) (λ row. not (is_zero row.qty))
    (left-out (is_row_of_position account symbol)) (map (holding_row done) done)
    ∙ total_by-map (λ row. cond (is_row_of_position account symbol row) row.qty (pos 0)) (holding_row done) done
    ∙ total_by-same _ (λ t. cond (t.account == account) (cond (bytes_eq t.symbol symbol) (lot_quantity shares t.id) (pos 0)) (pos 0)) (one done account symbol) done
    ∙ sym (total_by-filter (λ t. cond (bytes_eq t.symbol symbol) (lot_quantity shares t.id) (pos 0)) (λ t. t.account == account) done)
    ∙ sym (total_by-filter (λ t. lot_quantity shares t.id) (λ t. bytes_eq t.symbol symbol) (trades_of_account done account))
    ∙ position-total (trades_of_position done account symbol) (filter-Apart (λ t. bytes_eq t.symbol symbol) (trades_of_account done account) (filter-Apart (λ t. t.account == account) done h))
  where
    shares : List Share
    shares = shares_of_position done account symbol

pub lots-total : (base : Base) (account : ℕ) (symbol : Text) → TradesAreNumberedFrom 1 base.trades
    → total_by (λ row. row.qty) (filter (is_row_of_position account symbol) (tables_of_base base).holdings) ≡ holding_summary_quantity (completed_trades base) account symbol
unfolding tables_of_base_in_schema
lots-total base account symbol n =
    holdings-total (completed_trades base) account symbol (filter-Apart is_completed base.trades (numbered-Apart 1 base.trades n))

-- after any calls
pub lots-after : (base after : Base) (calls : List (ℕ × Call)) (outcomes : List Outcome) (account : ℕ) (symbol : Text) → BaseReferencesResolve base → Run base calls outcomes after
    → total_by (λ row. row.qty) (filter (is_row_of_position account symbol) (tables_of_base after).holdings) ≡ holding_summary_quantity (completed_trades after) account symbol
lots-after base after calls outcomes account symbol n r = lots-total after account symbol (still-named base after calls outcomes n r).numbered
