-- The sum of gains lot by lot equals the sum of gains deal by deal.
use Rattle.std.proofs.Common.{◌≡◌, ℕ, ◌==◌, ◌*◌, ℤ, pos, negsuc, zero, suc, ◌+ℤ◌, ◌-ℤ◌, ◌*ℤ◌, Bool, true, false, cond, List, [], ◌∷◌, ◌++◌, filter, Some, refl, sym, ap, subst, ◌∙◌, arith}
use Rattle.std.specs.Prelude.{find}
use Rattle.std.specs.List.{AllByRecursion}
use Rattle.std.proofs.lemmas.Int.{ints}
use Rattle.std.proofs.lemmas.Bool.{eqb-true}
use lib.IntN.{zero-*ℤ, +ℤ_idr}
use Rattle.brk_money.specs.declared.side.Side.{Side}
use Rattle.brk_money.specs.declared.side.Side.TheVariants.{Buy, Sell}
use Rattle.brk_model.specs.Base.{completion_price}
use Rattle.brk_model.specs.Lists.{is_zero, total_by}
use Rattle.brk_model.specs.Records.{Trade}
use Rattle.brk_model.specs.Tables.{HoldingHistoryRow}
use Rattle.brk_lots.specs.HistoryRows.{has_quantity_change, lot_history_rows_per_deal}
use Rattle.brk_model.specs.Shares.{Share, Deal, realised_gain, lot_quantity, net_share_count, shares_opened_by_trade, opened_share, replay, shares_after_deal, signed_by_side}
use Rattle.brk_lots.specs.Books.{realised_gain_sum, cost_basis_of_shares}
use Rattle.brk_lots.proofs.Deals.{all_after}
use Rattle.brk_trade_books.proofs.Bools.{numbers_back}
use Rattle.brk_trade_books.proofs.LotReading.{IdsApart}
use Rattle.brk_trade_books.proofs.Same.{All-map, All-of, total_by-same}
use Rattle.brk_trade_books.proofs.Tested.{not_not}
use Rattle.brk_view_theorems.proofs.Products.{less_times, neg_times, no_more, times_less, times_sum, total_less, total_none, total_sum, total_times}
use Rattle.brk_view_theorems.proofs.Replays.{cost_step, fold_last, net_step, signed_price}

-- ---- a sum over the trades of a position, of what is of one of them

-- `z` at the trade `id`, times a number of the trade
abbrev at_trade : ℕ → ℤ → (Trade → ℕ) → Trade → ℤ
at_trade id z k w = cond (id == w.id) z (pos 0) *ℤ pos (k w)

nothing_there : (id : ℕ) (z : ℤ) (k : Trade → ℕ) (ts : List Trade) → AllByRecursion (λ w. (w.id == id) ≡ false) ts → total_by (at_trade id z k) ts ≡ pos 0
unfolding total_by
nothing_there id z k [] h = refl
nothing_there id z k (w ∷ ts) h =
    (λ i. (ap (λ b. cond b z (pos 0) *ℤ pos (k w)) (numbers_back id w.id ∙ h.0) ∙ zero-*ℤ (pos (k w))) i +ℤ nothing_there id z k ts h.1 i)

one_there : (id : ℕ) (z : ℤ) (k : Trade → ℕ) (ts : List Trade) (v : Trade) → IdsApart ts → find (λ w. w.id == id) ts ≡ Some v → total_by (at_trade id z k) ts ≡ z *ℤ pos (k v)
unfolding total_by
one_there id z k [] v d e = absurd (cc)
one_there id z k (w ∷ ts) v d e = by_test (w.id == id) refl e (one_there id z k ts v d.1)
  where
    by_test : (b : Bool) → (w.id == id) ≡ b → cond b (Some w) (find (λ w. w.id == id) ts) ≡ Some v
        → (find (λ w. w.id == id) ts ≡ Some v → total_by (at_trade id z k) ts ≡ z *ℤ pos (k v))
        → at_trade id z k w +ℤ total_by (at_trade id z k) ts ≡ z *ℤ pos (k v)
    by_test true f g ih =
        let same : w ≡ v = cc in
        let rest : total_by (at_trade id z k) ts ≡ pos 0 = nothing_there id z k ts (subst (λ (n : ℕ). AllByRecursion (λ u. (u.id == n) ≡ false) ts) (eqb-true w.id id f) d.0) in
        (λ i. ap (λ b. cond b z (pos 0) *ℤ pos (k w)) (numbers_back id w.id ∙ f) i +ℤ rest i) ∙ +ℤ_idr (z *ℤ pos (k w)) ∙ ap (λ u. z *ℤ pos (k u)) same
    by_test false f g ih =
        (λ i. (ap (λ b. cond b z (pos 0) *ℤ pos (k w)) (numbers_back id w.id ∙ f) ∙ zero-*ℤ (pos (k w))) i +ℤ ih g i) ∙ no_more (z *ℤ pos (k v))

-- ---- shares by the trades that opened them

-- the trade of the share is one of these, and `k` of the trade is `n`
abbrev IsOf : List Trade → (Trade → ℕ) → (Share → ℕ) → Share → Type 0
IsOf ts k n u = (v : Trade) × (find (λ w. w.id == u.trade) ts ≡ Some v) × (k v ≡ n u)

-- the trade of the share is one of these, and its price is that of the share
abbrev pub IsHeld : List Trade → Share → Type 0
IsHeld ts u = IsOf ts completion_price (λ v. v.price) u

qty_more : (u : Share) (us : List Share) (id : ℕ) → lot_quantity (u ∷ us) id ≡ cond (u.trade == id) (signed_by_side u.side 1) (pos 0) +ℤ lot_quantity us id
unfolding total_by
qty_more u us id = by_test (u.trade == id)
  where
    by_test : (b : Bool) → net_share_count (cond b (u ∷ shares_opened_by_trade id us) (shares_opened_by_trade id us))
        ≡ cond b (signed_by_side u.side 1) (pos 0) +ℤ net_share_count (shares_opened_by_trade id us)
    by_test true = refl
    by_test false = sym (no_more (net_share_count (shares_opened_by_trade id us)))

by_trade : (ts : List Trade) (k : Trade → ℕ) (n : Share → ℕ) (us : List Share) → IdsApart ts → AllByRecursion (IsOf ts k n) us
    → total_by (λ v. lot_quantity us v.id *ℤ pos (k v)) ts ≡ total_by (λ u. signed_by_side u.side 1 *ℤ pos (n u)) us
unfolding total_by
by_trade ts k n [] d h = every ts
  where
    every : (vs : List Trade) → total_by (λ v. lot_quantity [] v.id *ℤ pos (k v)) vs ≡ pos 0
    every [] = refl
    every (v ∷ vs) = λ i. zero-*ℤ (pos (k v)) i +ℤ every vs i
by_trade ts k n (u ∷ us) d h =
    each ts ∙ total_sum (at_trade u.trade (signed_by_side u.side 1) k) (λ v. lot_quantity us v.id *ℤ pos (k v)) ts
    ∙ (λ i. (one_there u.trade (signed_by_side u.side 1) k ts h.0.0 d h.0.1 ∙ ap (λ (m : ℕ). signed_by_side u.side 1 *ℤ pos m) h.0.2) i +ℤ by_trade ts k n us d h.1 i)
    ∙ again
  where
    each : (vs : List Trade) → total_by (λ v. lot_quantity (u ∷ us) v.id *ℤ pos (k v)) vs ≡ total_by (λ v. at_trade u.trade (signed_by_side u.side 1) k v +ℤ lot_quantity us v.id *ℤ pos (k v)) vs
    each [] = refl
    each (v ∷ vs) = λ i. (ap (λ z. z *ℤ pos (k v)) (qty_more u us v.id) ∙ times_sum (cond (u.trade == v.id) (signed_by_side u.side 1) (pos 0)) (lot_quantity us v.id) (k v)) i +ℤ each vs i

    again : signed_by_side u.side 1 *ℤ pos (n u) +ℤ total_by (λ u. signed_by_side u.side 1 *ℤ pos (n u)) us ≡ total_by (λ u. signed_by_side u.side 1 *ℤ pos (n u)) (u ∷ us)
    again = refl

-- ---- one deal

-- what a deal takes of the lot of a trade, at the difference of their prices
abbrev moved_at : List Share → Deal → Trade → ℤ
moved_at us d v = (lot_quantity us v.id -ℤ lot_quantity (shares_after_deal us d) v.id) *ℤ (pos d.price -ℤ pos (completion_price v))

pub signed_worth : (s : Side) (q p : ℕ) → signed_by_side s q *ℤ pos p ≡ signed_by_side s (q * p)
signed_worth Buy q p = refl
signed_worth Sell q p = neg_times (pos q) (pos p)

-- the shares of the lots at one price
pub at_one : (ts : List Trade) (p : ℕ) (us : List Share) → IdsApart ts → AllByRecursion (IsHeld ts) us → total_by (λ v. lot_quantity us v.id *ℤ pos p) ts ≡ net_share_count us *ℤ pos p
at_one ts p us a h =
    by_trade ts (λ v. p) (λ u. p) us a (All-map us (λ u k. (k.0, k.1, refl)) h) ∙ total_times (λ u. signed_by_side u.side 1) p us

-- and at their own
at_own : (ts : List Trade) (us : List Share) → IdsApart ts → AllByRecursion (IsHeld ts) us → total_by (λ v. lot_quantity us v.id *ℤ pos (completion_price v)) ts ≡ cost_basis_of_shares us
at_own ts us a h =
    by_trade ts completion_price (λ u. u.price) us a h
    ∙ total_by-same (λ u. signed_by_side u.side 1 *ℤ pos u.price) (λ u. signed_by_side u.side u.price) us (All-of us (λ u. signed_price u.side u.price))

step_gain : (ts : List Trade) (before : List Deal) (d : Deal) → IdsApart ts → AllByRecursion (IsHeld ts) (replay before) → AllByRecursion (IsHeld ts) (shares_after_deal (replay before) d)
    → total_by (moved_at (replay before) d) ts ≡ realised_gain d (replay before)
step_gain ts before d a h k =
    total_by-same (moved_at us d) (λ v. (at_price us v -ℤ at_price vs v) -ℤ (at_cost us v -ℤ at_cost vs v)) ts
    (All-of ts (λ v. parts (lot_quantity us v.id) (lot_quantity vs v.id) d.price (completion_price v)))
    ∙ total_less (λ v. at_price us v -ℤ at_price vs v) (λ v. at_cost us v -ℤ at_cost vs v) ts
    ∙ (λ i. total_less (at_price us) (at_price vs) ts i -ℤ total_less (at_cost us) (at_cost vs) ts i)
    ∙ (λ i. (at_one ts d.price us a h i -ℤ at_one ts d.price vs a k i) -ℤ (at_own ts us a h i -ℤ at_own ts vs a k i))
    ∙ (λ i. (net_share_count us *ℤ pos d.price -ℤ later i) -ℤ (cost_basis_of_shares us -ℤ cost_step before d i))
    ∙ gathered (net_share_count us *ℤ pos d.price) (signed_by_side d.side (d.qty * d.price)) (cost_basis_of_shares us) (realised_gain d us)
  where
    us : List Share
    us = replay before

    vs : List Share
    vs = shares_after_deal us d

    at_price : List Share → Trade → ℤ
    at_price ws v = lot_quantity ws v.id *ℤ pos d.price

    at_cost : List Share → Trade → ℤ
    at_cost ws v = lot_quantity ws v.id *ℤ pos (completion_price v)

    parts : (x y : ℤ) (m n : ℕ) → (x -ℤ y) *ℤ (pos m -ℤ pos n) ≡ (x *ℤ pos m -ℤ y *ℤ pos m) -ℤ (x *ℤ pos n -ℤ y *ℤ pos n)
    parts x y m n = times_less (x -ℤ y) (pos m) (pos n) ∙ (λ i. less_times x y (pos m) i -ℤ less_times x y (pos n) i)

    later : net_share_count vs *ℤ pos d.price ≡ net_share_count us *ℤ pos d.price +ℤ signed_by_side d.side (d.qty * d.price)
    later = ap (λ z. z *ℤ pos d.price) (net_step before d) ∙ times_sum (net_share_count us) (signed_by_side d.side d.qty) d.price
        ∙ ap (λ z. net_share_count us *ℤ pos d.price +ℤ z) (signed_worth d.side d.qty d.price)

    gathered : (x s c g : ℤ) → (x -ℤ (x +ℤ s)) -ℤ (c -ℤ (c +ℤ (g +ℤ s))) ≡ g
    gathered x s c g = omega (arith, ints)

-- ---- all deals

-- what deals take of the lot of a trade, at the differences of their prices
abbrev pub lot_gains : ℕ → ℕ → List Share → List Deal → ℤ
lot_gains price id us [] = pos 0
lot_gains price id us (d ∷ ds) = (lot_quantity us id -ℤ lot_quantity (shares_after_deal us d) id) *ℤ (pos d.price -ℤ pos price) +ℤ lot_gains price id (shares_after_deal us d) ds

pub all_lots : (ts : List Trade) (before : List Deal) (us : List Share) (ds : List Deal) → us ≡ replay before → IdsApart ts → AllByRecursion (IsHeld ts) us
    → AllByRecursion (λ d. IsHeld ts (opened_share d)) ds → total_by (λ v. lot_gains (completion_price v) v.id us ds) ts ≡ realised_gain_sum ds us
all_lots ts before us [] e a h o = total_none ts
all_lots ts before us (d ∷ ds) e a h o =
    total_sum (moved_at us d) (λ v. lot_gains (completion_price v) v.id (shares_after_deal us d) ds) ts
    ∙ (λ i. step i +ℤ all_lots ts (before ++ d ∷ []) (shares_after_deal us d) ds (ap (λ ws. shares_after_deal ws d) e ∙ sym (fold_last [] before d)) a held o.1 i)
  where
    held : AllByRecursion (IsHeld ts) (shares_after_deal us d)
    held = all_after (IsHeld ts) d us o.0 h

    step : total_by (moved_at us d) ts ≡ realised_gain d us
    step = subst (λ ws. AllByRecursion (IsHeld ts) ws → AllByRecursion (IsHeld ts) (shares_after_deal ws d) → total_by (moved_at ws d) ts ≡ realised_gain d ws) (sym e) (step_gain ts before d a) h held

-- ---- the rows of a lot

-- the gain of a row of a lot, by the prices of trades and that of the lot
abbrev pub row_gain : (ℕ → ℕ) → ℕ → HoldingHistoryRow → ℤ
row_gain price p h = (h.before -ℤ h.after) *ℤ (pos (price h.trade) -ℤ pos p)

pub zero_is : (z : ℤ) → is_zero z ≡ true → z ≡ pos 0
zero_is (pos zero) e = refl
zero_is (pos (suc n)) e = absurd (cc)
zero_is (negsuc n) e = absurd (cc)

pub rows_gain : (price : ℕ → ℕ) (p id : ℕ) (us : List Share) (ds : List Deal) → AllByRecursion (λ d. price d.trade ≡ d.price) ds
    → total_by (row_gain price p) (filter has_quantity_change (lot_history_rows_per_deal id us ds)) ≡ lot_gains p id us ds
unfolding total_by
rows_gain price p id us [] h = refl
rows_gain price p id us (d ∷ ds) h = by_test (has_quantity_change row) refl (rows_gain price p id (shares_after_deal us d) ds h.1)
  where
    row : HoldingHistoryRow
    row = record { lot = id; trade = d.trade; before = lot_quantity us id; after = lot_quantity (shares_after_deal us d) id }

    rest : List HoldingHistoryRow
    rest = filter has_quantity_change (lot_history_rows_per_deal id (shares_after_deal us d) ds)

    by_test : (b : Bool) → has_quantity_change row ≡ b → total_by (row_gain price p) rest ≡ lot_gains p id (shares_after_deal us d) ds
        → total_by (row_gain price p) (cond b (row ∷ rest) rest) ≡ (row.before -ℤ row.after) *ℤ (pos d.price -ℤ pos p) +ℤ lot_gains p id (shares_after_deal us d) ds
    by_test true e ih = λ i. (row.before -ℤ row.after) *ℤ (pos (h.0 i) -ℤ pos p) +ℤ ih i
    by_test false e ih =
        ih ∙ sym (ap (λ z. z *ℤ (pos d.price -ℤ pos p) +ℤ lot_gains p id (shares_after_deal us d) ds) (zero_is (row.before -ℤ row.after) (not_not (is_zero (row.before -ℤ row.after)) e))
        ∙ ap (λ z. z +ℤ lot_gains p id (shares_after_deal us d) ds) (zero-*ℤ (pos d.price -ℤ pos p)) ∙ no_more (lot_gains p id (shares_after_deal us d) ds))
