-- The shares that a deal closes, lot by lot, and their buy value and sell value.
use Rattle.std.proofs.Common.{◌≡◌, ◌≢◌, ℕ, ◌+◌, ◌*◌, ◌-◌, ◌≤◌, min, eqb, Bool, true, false, cond, List, [], ◌∷◌, length, map, unsigned_abs, nat_abs, sum_by}
use Rattle.std.proofs.Common.{refl, sym, ◌∙◌, ap, arith, ℤ, pos, negsuc, ◌-ℤ◌}
use Rattle.std.specs.List.{AllByRecursion}
use Rattle.std.proofs.lemmas.Bool.{eqb-true}
use Rattle.std.proofs.lemmas.Int.{ints}
use Rattle.std.proofs.lemmas.List.Sums.{sum_by-cons}
use Rattle.brk_money.specs.declared.side.Side.{Side}
use Rattle.brk_money.specs.declared.side.Side.TheVariants.{Buy, Sell}
use Rattle.brk_model.specs.Shares.{signed_by_side}
use Rattle.brk_model.specs.Tables.{Tables}
use Rattle.brk_lots.specs.Lots.{share_of_lot, shares_of_lots, side_of_qty}
use Rattle.brk_lots.specs.Walks.{cost_of_first_shares, touches_of_first_shares}
use Rattle.brk_lots.specs.ClosedValues.{buy_value_by_side, sell_value_by_side}
use Rattle.brk_lots.specs.declared.lot.Lot.{Lot}
use Rattle.brk_lots.specs.declared.lot.Touch.{Touch}
use Rattle.brk_lots.proofs.Runs.{length_run}
use Rattle.brk_model_explain.specs.Trades.{Closing, buy_value_of_closings, trade_price_or_zero, sell_value_of_closings, shares_of_closing, total_closed_shares}
use Rattle.brk_view_theorems.specs.Closings.{HoldsForAllButLast, ClosesWholeLot}
use Rattle.brk_view_theorems.proofs.ClosedLots.{closing_at}

-- ---- one lot

-- the row of a lot of which shares are taken
abbrev row_of : ℕ → Lot → Touch
row_of k l = record { lot = l.trade; before = l.qty; after = signed_by_side (side_of_qty l.qty) (unsigned_abs l.qty - k) }

shares_taken : (q : ℤ) (k : ℕ) → nat_abs (q -ℤ signed_by_side (side_of_qty q) (unsigned_abs q - k)) ≡ min k (unsigned_abs q)
shares_taken (pos n) k = omega (arith, ints)
shares_taken (negsuc n) k = omega (arith, ints)

-- ---- all lots

-- a sum over the rows of a walk
sum_rows : (f : Closing → ℕ) (T : Tables) (id k : ℕ) (l : Lot) (ls : List Lot) → (k ≡ 0 → f (closing_at T id (row_of k l)) ≡ 0) → (k ≡ 0 → touches_of_first_shares (k - unsigned_abs l.qty) ls ≡ [])
    → sum_by f (map (closing_at T id) (touches_of_first_shares k (l ∷ ls))) ≡ f (closing_at T id (row_of k l)) + sum_by f (map (closing_at T id) (touches_of_first_shares (k - unsigned_abs l.qty) ls))
sum_rows f T id k l ls none rest = by_test (eqb k 0) refl
  where
    R : List Touch
    R = touches_of_first_shares (k - unsigned_abs l.qty) ls

    by_test : (b : Bool) → eqb k 0 ≡ b → sum_by f (map (closing_at T id) (cond {A = List Touch} b [] (row_of k l ∷ R))) ≡ f (closing_at T id (row_of k l)) + sum_by f (map (closing_at T id) R)
    by_test true e =
        let z : k ≡ 0 = eqb-true k 0 e in
        let a : f (closing_at T id (row_of k l)) ≡ 0 = none z in
        let b : sum_by f (map (closing_at T id) R) ≡ 0 = ap (λ ts. sum_by f (map (closing_at T id) ts)) (rest z) in
        omega (arith, a, b)
    by_test false e = sum_by-cons f (closing_at T id (row_of k l)) (map (closing_at T id) R)

no_rows : (k n : ℕ) (ls : List Lot) → k ≡ 0 → touches_of_first_shares (k - n) ls ≡ []
no_rows k n [] e = refl
no_rows k n (l ∷ ls) e =
    let z : k - n ≡ 0 = omega (arith, e) in
    ap (λ m. touches_of_first_shares m (l ∷ ls)) z

none_taken : (T : Tables) (id k : ℕ) (l : Lot) → k ≡ 0 → shares_of_closing (closing_at T id (row_of k l)) ≡ 0
none_taken T id k l e = let h = shares_taken l.qty k in omega (arith, h, e)

pub all_taken : (T : Tables) (id k : ℕ) (ls : List Lot) → total_closed_shares (map (closing_at T id) (touches_of_first_shares k ls)) ≡ min k (length (shares_of_lots ls))
all_taken T id k [] = omega arith
all_taken T id k (l ∷ ls) =
    let a = sum_rows shares_of_closing T id k l ls (none_taken T id k l) (no_rows k (unsigned_abs l.qty) ls) in
    let b : shares_of_closing (closing_at T id (row_of k l)) ≡ min k (unsigned_abs l.qty) = shares_taken l.qty k in
    let c = all_taken T id (k - unsigned_abs l.qty) ls in
    let d : length (shares_of_lots (l ∷ ls)) ≡ unsigned_abs l.qty + length (shares_of_lots ls) = length_run (unsigned_abs l.qty) (share_of_lot l) (shares_of_lots ls) in
    omega (arith, a, b, c, d)

-- at the price of each lot
pub all_paid : (T : Tables) (id k : ℕ) (ls : List Lot) → AllByRecursion (λ l. trade_price_or_zero T l.trade ≡ l.price) ls
    → sum_by (λ c. shares_of_closing c * c.price) (map (closing_at T id) (touches_of_first_shares k ls)) ≡ cost_of_first_shares k ls
all_paid T id k [] h = refl
all_paid T id k (l ∷ ls) h =
    sum_rows (λ c. shares_of_closing c * c.price) T id k l ls
    (λ e. ap (λ n. n * trade_price_or_zero T l.trade) (none_taken T id k l e) ∙ nothing (trade_price_or_zero T l.trade)) (no_rows k (unsigned_abs l.qty) ls)
    ∙ (λ i. shares_taken l.qty k i * h.0 i + all_paid T id (k - unsigned_abs l.qty) ls h.1 i)
  where
    nothing : (p : ℕ) → 0 * p ≡ 0
    nothing p = omega arith

-- at one price
pub all_at : (price : ℕ) (cs : List Closing) → sum_by (λ c. shares_of_closing c * price) cs ≡ total_closed_shares cs * price
all_at price [] = nothing price
  where
    nothing : (p : ℕ) → 0 ≡ 0 * p
    nothing p = omega arith
all_at price (c ∷ cs) =
    sum_by-cons (λ c. shares_of_closing c * price) c cs ∙ ap (λ n. shares_of_closing c * price + n) (all_at price cs) ∙ spread (shares_of_closing c) (total_closed_shares cs)
    ∙ ap (λ n. n * price) (sym (sum_by-cons shares_of_closing c cs))
  where
    spread : (m n : ℕ) → m * price + n * price ≡ (m + n) * price
    spread m n = omega arith

-- ---- bought and sold

pub buys : (side : Side) (price : ℕ) (cs : List Closing)
    → buy_value_of_closings side price cs
    ≡ buy_value_by_side side (sum_by (λ c. shares_of_closing c * price) cs) (sum_by (λ c. shares_of_closing c * c.price) cs)
buys Buy price cs = refl
buys Sell price cs = refl

pub sells : (side : Side) (price : ℕ) (cs : List Closing)
    → sell_value_of_closings side price cs ≡ sell_value_by_side side (sum_by (λ c. shares_of_closing c * price) cs)
    (sum_by (λ c. shares_of_closing c * c.price) cs)
sells Buy price cs = refl
sells Sell price cs = refl

-- ---- what is left

-- of a lot from which more than its shares are taken nothing is left
used_up : (q : ℤ) (k : ℕ) → unsigned_abs q ≤ k → signed_by_side (side_of_qty q) (unsigned_abs q - k) ≡ pos 0
used_up q k h = let z : unsigned_abs q - k ≡ 0 = omega (arith, h) in ap (signed_by_side (side_of_qty q)) z ∙ none (side_of_qty q)
  where
    none : (s : Side) → signed_by_side s 0 ≡ pos 0
    none Buy = refl
    none Sell = refl

pub none_left : (T : Tables) (id k : ℕ) (ls : List Lot) → HoldsForAllButLast ClosesWholeLot (map (closing_at T id) (touches_of_first_shares k ls))
none_left T id k [] = tt
none_left T id k (l ∷ []) = by_test (eqb k 0)
  where
    by_test : (b : Bool) → HoldsForAllButLast ClosesWholeLot (map (closing_at T id) (cond {A = List Touch} b [] (row_of k l ∷ [])))
    by_test true = tt
    by_test false = tt
none_left T id k (l ∷ m ∷ ls) = by_test (eqb k 0) (eqb j 0) refl (none_left T id j (m ∷ ls))
  where
    j : ℕ
    j = k - unsigned_abs l.qty

    R : List Touch
    R = row_of j m ∷ touches_of_first_shares (j - unsigned_abs m.qty) ls

    by_test : (b c : Bool) → eqb j 0 ≡ c → HoldsForAllButLast ClosesWholeLot (map (closing_at T id) (cond {A = List Touch} c [] R))
        → HoldsForAllButLast ClosesWholeLot (map (closing_at T id) (cond {A = List Touch} b [] (row_of k l ∷ cond {A = List Touch} c [] R)))
    by_test true c e h = tt
    by_test false true e h = tt
    by_test false false e h = (used_up l.qty k (more (eqb_false j e)), h)
      where
        eqb_false : (n : ℕ) → eqb n 0 ≡ false → n ≢ 0
        eqb_false n e = λ z. let t : true ≡ false = sym (ap (λ m. eqb m 0) z) ∙ e in absurd (cc)

        more : j ≢ 0 → unsigned_abs l.qty ≤ k
        more n = omega (arith, n)
