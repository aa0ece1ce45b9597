-- The shares after some deals are runs of equal shares, one for each deal that opened a lot.
use Rattle.std.proofs.Common.{◌≡◌, ℕ, ◌-◌, ◌==◌, zero, suc, Bool, true, false, cond, List, [], ◌∷◌, ◌++◌, refl, sym, ◌∙◌, ap, subst, length, take, drop, replicate, arith, pos, ◌+ℤ◌}
use Rattle.std.specs.Prelude.{fold}
use Rattle.std.specs.List.{AllByRecursion}
use Rattle.std.specs.Int.RustNames.{unsigned_abs}
use Rattle.std.proofs.lemmas.Bool.{eq-eqb}
use Rattle.std.proofs.lemmas.Int.{ints}
use lib.IntN.{+ℤ_assoc, +ℤ_idl}
use Rattle.brk_money.specs.declared.side.Side.{Side}
use Rattle.brk_money.specs.declared.side.Side.TheVariants.{Buy, Sell}
use Rattle.brk_model.specs.Lists.{total_by}
use Rattle.brk_model.specs.Shares.{Share, Deal, closed_share_count_of_deal, remaining_shares, lot_quantity, net_share_count, shares_opened_by_trade}
use Rattle.brk_model.specs.Shares.{opened_share, replay, shares_after_deal, signed_by_side}
use Rattle.brk_lots.specs.Lots.{side_of_qty}
use Rattle.brk_trade_books.proofs.References.{append_nil}
use Rattle.brk_trade_books.proofs.Places.{append_assoc}

-- ---- runs

-- a run of shares that a deal opened, and runs of those that others did
abbrev pub AreRuns : List Deal → List Share → Type 0
AreRuns [] shares = shares ≡ []
AreRuns (d ∷ ds) shares = (k : ℕ) × (rest : List Share) × (shares ≡ replicate k (opened_share d) ++ rest) × AreRuns ds rest

no_runs : (ds : List Deal) → AreRuns ds []
no_runs [] = refl
no_runs (d ∷ ds) = (0, [], refl, no_runs ds)

take_none : {X : Type 0} (n : ℕ) (xs : List X) → xs ≡ [] → take n xs ≡ []
take_none zero [] e = refl
take_none (suc n) [] e = refl
take_none n (x ∷ xs) e = absurd (cc)

drop_none : {X : Type 0} (n : ℕ) (xs : List X) → xs ≡ [] → drop n xs ≡ []
drop_none zero [] e = refl
drop_none (suc n) [] e = refl
drop_none n (x ∷ xs) e = absurd (cc)

take_run : {X : Type 0} (x : X) (rest : List X) (k n : ℕ) → (j : ℕ) × (m : ℕ) × (take n (replicate k x ++ rest) ≡ replicate j x ++ take m rest)
take_run x rest zero n = (0, n, refl)
take_run x rest (suc k) zero = (0, 0, refl)
take_run x rest (suc k) (suc n) = let r = take_run x rest k n in (suc r.0, r.1, ap (λ xs. x ∷ xs) r.2)

drop_run : {X : Type 0} (x : X) (rest : List X) (k n : ℕ) → (j : ℕ) × (m : ℕ) × (drop n (replicate k x ++ rest) ≡ replicate j x ++ drop m rest)
drop_run x rest zero n = (0, n, refl)
drop_run x rest (suc k) zero = (suc k, 0, refl)
drop_run x rest (suc k) (suc n) = drop_run x rest k n

runs_take : (ds : List Deal) (shares : List Share) (n : ℕ) → AreRuns ds shares → AreRuns ds (take n shares)
runs_take [] shares n r = take_none n shares r
runs_take (d ∷ ds) shares n r =
    let t = take_run (opened_share d) r.1 r.0 n in
    (t.0, take t.1 r.1, ap (take n) r.2 ∙ t.2, runs_take ds r.1 t.1 r.3)

runs_drop : (ds : List Deal) (shares : List Share) (n : ℕ) → AreRuns ds shares → AreRuns ds (drop n shares)
runs_drop [] shares n r = drop_none n shares r
runs_drop (d ∷ ds) shares n r =
    let t = drop_run (opened_share d) r.1 r.0 n in
    (t.0, drop t.1 r.1, ap (drop n) r.2 ∙ t.2, runs_drop ds r.1 t.1 r.3)

runs_more : (ds : List Deal) (shares : List Share) (d : Deal) (k : ℕ) → AreRuns ds shares → AreRuns (ds ++ d ∷ []) (shares ++ replicate k (opened_share d))
runs_more [] shares d k r = (k, [], ap (λ xs. xs ++ replicate k (opened_share d)) r ∙ sym (append_nil (replicate k (opened_share d))), refl)
runs_more (e ∷ ds) shares d k r = (
  r.0,
  r.1 ++ replicate k (opened_share d),
  ap (λ xs. xs ++ replicate k (opened_share d)) r.2 ∙ append_assoc (replicate r.0 (opened_share e)) r.1 (replicate k (opened_share d)),
  runs_more ds r.1 d k r.3,
)

runs_kept : (ds : List Deal) (shares : List Share) (d : Deal) → AreRuns ds shares → AreRuns ds (remaining_shares d shares)
runs_kept ds shares d r =
    elim d.is_lifo as (λ b. AreRuns ds (cond b (take (length shares - closed_share_count_of_deal d shares) shares) (drop (closed_share_count_of_deal d shares) shares)))
    [ true ↦ runs_take ds shares (length shares - closed_share_count_of_deal d shares) r | false ↦ runs_drop ds shares (closed_share_count_of_deal d shares) r ]

runs_after : (ds : List Deal) (shares : List Share) (more : List Deal) → AreRuns ds shares → AreRuns (ds ++ more) (fold shares_after_deal shares more)
unfolding shares_after_deal
runs_after ds shares [] r = subst (λ ds. AreRuns ds shares) (sym (append_nil ds)) r
runs_after ds shares (d ∷ more) r =
    let next = runs_more ds (remaining_shares d shares) d _ (runs_kept ds shares d r) in
    subst (λ ds. AreRuns ds (fold shares_after_deal (shares_after_deal shares d) more)) (append_assoc ds (d ∷ []) more) (runs_after (ds ++ d ∷ []) (shares_after_deal shares d) more next)

pub runs_of : (ds : List Deal) → AreRuns ds (replay ds)
runs_of ds = runs_after [] [] ds refl

-- ---- the lot of a run

-- a share more, of the trade or of another
lot_more : (id : ℕ) (s : Share) (shares : List Share) (b : Bool) → (s.trade == id) ≡ b
    → lot_quantity (s ∷ shares) id ≡ cond b (signed_by_side s.side 1 +ℤ lot_quantity shares id) (lot_quantity shares id)
unfolding total_by
lot_more id s shares true e = ap (λ b. net_share_count (cond b (s ∷ shares_opened_by_trade id shares) (shares_opened_by_trade id shares))) e
lot_more id s shares false e = ap (λ b. net_share_count (cond b (s ∷ shares_opened_by_trade id shares) (shares_opened_by_trade id shares))) e

-- shares of another trade
pub lot_other : (id : ℕ) (s : Share) (k : ℕ) (rest : List Share) → (s.trade == id) ≡ false → lot_quantity (replicate k s ++ rest) id ≡ lot_quantity rest id
lot_other id s zero rest e = refl
lot_other id s (suc k) rest e = lot_more id s (replicate k s ++ rest) false e ∙ lot_other id s k rest e

signed_more : (side : Side) (k : ℕ) → signed_by_side side 1 +ℤ signed_by_side side k ≡ signed_by_side side (suc k)
signed_more Buy k = omega (arith, ints)
signed_more Sell k = omega (arith, ints)

-- shares of the trade itself
pub lot_own : (s : Share) (k : ℕ) (rest : List Share) → lot_quantity (replicate k s ++ rest) s.trade ≡ signed_by_side s.side k +ℤ lot_quantity rest s.trade
lot_own s zero rest = by_side s.side
  where
    by_side : (side : Side) → lot_quantity rest s.trade ≡ signed_by_side side 0 +ℤ lot_quantity rest s.trade
    by_side Buy = sym (+ℤ_idl (lot_quantity rest s.trade))
    by_side Sell = sym (+ℤ_idl (lot_quantity rest s.trade))
lot_own s (suc k) rest =
    lot_more s.trade s (replicate k s ++ rest) true (eq-eqb s.trade s.trade refl)
    ∙ ap (λ z. signed_by_side s.side 1 +ℤ z) (lot_own s k rest)
    ∙ sym (+ℤ_assoc (signed_by_side s.side 1) (signed_by_side s.side k) (lot_quantity rest s.trade))
    ∙ ap (λ z. z +ℤ lot_quantity rest s.trade) (signed_more s.side k)

-- of a trade that is none of theirs deals leave no lot
pub no_lot : (id : ℕ) (ds : List Deal) (shares : List Share) → AllByRecursion (λ d. (d.trade == id) ≡ false) ds → AreRuns ds shares → lot_quantity shares id ≡ pos 0
unfolding total_by
no_lot id [] shares h r = ap (λ xs. lot_quantity xs id) r
no_lot id (d ∷ ds) shares h r = ap (λ xs. lot_quantity xs id) r.2 ∙ lot_other id (opened_share d) r.0 r.1 h.0 ∙ no_lot id ds r.1 h.1 r.3

-- a run is as its lot tells
pub run_told : (side : Side) (k : ℕ) (trade price stamp : ℕ)
    → replicate {A = Share} (unsigned_abs (signed_by_side side k)) (record { side = side_of_qty (signed_by_side side k); trade = trade; price = price; stamp = stamp })
    ≡ replicate {A = Share} k (record { side = side; trade = trade; price = price; stamp = stamp })
run_told Buy k trade price stamp = refl
run_told Sell zero trade price stamp = refl
run_told Sell (suc k) trade price stamp = refl
