-- The lots, touches and values of the definitions, lot by lot.
use Rattle.std.proofs.Common.{◌≡◌, ◌≢◌, ℕ, zero, suc, ◌*◌, ◌-◌, ◌<◌, min, eqb, Bool, true, false, not, cond, List, [], ◌∷◌, ◌++◌, length, take, map, replicate}
use Rattle.std.proofs.Common.{unsigned_abs, refl, sym, ap, ◌∙◌, arith, inl, inr}
use Rattle.std.specs.List.{filter, AllByRecursion}
use Rattle.std.proofs.lemmas.Bool.{eq-eqb, ne_eqb, cases_eq}
use Rattle.brk_money.specs.Kinds.{is_same_side}
use Rattle.brk_money.specs.declared.side.Side.{Side}
use Rattle.brk_money.specs.declared.side.Side.TheVariants.{Buy, Sell}
use Rattle.brk_model.specs.Shares as model
use Rattle.brk_model.specs.Shares.{Share, Deal, signed_by_side, first_shares_of_lots, lots_of_shares, lot_quantity, touches_of_existing_lots}
use Rattle.brk_model.specs.Shares.{touch_of_lot_with_share, changes_lot_quantity, opened_share, closed_share_count_of_deal, shares_after_deal}
use Rattle.brk_model.specs.Shares.{closed_value_at_opening_prices, buy_value, sell_value}
use Rattle.brk_lots.specs.declared.lot.Lot.{Lot}
use Rattle.brk_lots.specs.Lots.{side_of_qty, share_of_lot, shares_of_lots, list_reversed_if_lifo, abstract_lot, abstract_touch}
use Rattle.brk_lots.specs.Position.{IsPositionInAnyOrder}
use Rattle.brk_lots.specs.Walks.{closed_share_count}
use Rattle.brk_lots.specs.ClosedValues.{buy_value_by_side, sell_value_by_side}
use Rattle.brk_lots.proofs.Runs.{count_of, cost, without, run_lots, size_positive, signed_back}
use Rattle.brk_lots.proofs.Changes.{all_from, all_firsts, changes, row, firsts_walk, firsts_alike, count_alike, counts_are, shares_appended}
use Rattle.brk_lots.proofs.Ends.{cost_end}
use Rattle.brk_lots.proofs.Counts.{OneSide, lot_counts, lot_appended, all_run, all_shares, walk_side, differ_none, differ}

-- ---- the lots of shares

lots_each : (s : Side) (us : List Share) (ls : List Lot) → OneSide s us → AllByRecursion (λ l. side_of_qty l.qty ≡ s) ls
    → AllByRecursion (λ l. count_of l.trade us ≡ unsigned_abs l.qty) ls → map (model.lot_of_share us) (map share_of_lot ls) ≡ map abstract_lot ls
lots_each s us [] one sides counts = refl
lots_each s us (l ∷ ls) one sides counts =
    let qty : lot_quantity us l.trade ≡ l.qty =
    lot_counts s l.trade us one ∙ ap (signed_by_side s) counts.0 ∙ ap (λ t. signed_by_side t (unsigned_abs l.qty)) (sym sides.0) ∙ signed_back l.qty in
    let here : model.lot_of_share us (share_of_lot l) ≡ abstract_lot l = rw qty refl in
    rw here (ap (λ (ms : List model.Lot). abstract_lot l ∷ ms) (lots_each s us ls one sides.1 counts.1))

-- the shares of a position have its lots
pub lots_walk : (ls : List Lot) → IsPositionInAnyOrder ls → lots_of_shares (shares_of_lots ls) ≡ map abstract_lot ls
unfolding lots_of_shares
lots_walk ls w =
    let side = walk_side ls w in
    let one : OneSide side.0 (shares_of_lots ls) = all_shares (λ u. u.side ≡ side.0) ls side.1 in
    ap (map (model.lot_of_share (shares_of_lots ls))) (firsts_walk ls w) ∙ lots_each side.0 (shares_of_lots ls) ls one side.1 (counts_are ls w)

-- equal shares are one lot
pub lots_alike : (n : ℕ) (u : Share) → lots_of_shares (replicate n u) ≡ map abstract_lot (run_lots n u)
unfolding lots_of_shares
lots_alike zero u = refl
lots_alike (suc n) u =
    let qty : lot_quantity (replicate (suc n) u) u.trade ≡ signed_by_side u.side (suc n) =
    lot_counts u.side u.trade (replicate (suc n) u) (all_run (λ v. v.side ≡ u.side) (suc n) u refl) ∙ ap (signed_by_side u.side) (count_alike (suc n) u) in
    ap (map (model.lot_of_share (replicate (suc n) u))) (firsts_alike n u)
    ∙ ap (λ z. record { trade = u.trade; price = u.price; stamp = u.stamp; qty = z } ∷ []) qty

-- ---- what a deal changes

-- the shares after a deal are those that stay and the ones that it opens
pub after_is : (d : Deal) (us : List Share) → shares_after_deal us d ≡ without d.is_lifo (closed_share_count_of_deal d us) us ++ replicate (d.qty - closed_share_count_of_deal d us) (opened_share d)
unfolding shares_after_deal
after_is d us = refl

-- what is left of a lot that the deal does not open
pub lot_after : (d : Deal) (s : Side) (us : List Share) (t : ℕ) → OneSide s (without d.is_lifo (closed_share_count_of_deal d us) us) → d.trade ≢ t
    → lot_quantity (shares_after_deal us d) t ≡ signed_by_side s (count_of t (shares_after_deal us d))
lot_after d s us t left other =
    let kept = without d.is_lifo (closed_share_count_of_deal d us) us in
    let n = d.qty - closed_share_count_of_deal d us in
    ap (λ (vs : List Share). lot_quantity vs t) (after_is d us)
    ∙ lot_appended t n kept (opened_share d) other
    ∙ lot_counts s t kept left
    ∙ ap (signed_by_side s) (sym (shares_appended t n kept (opened_share d) other) ∙ ap (count_of t) (sym (after_is d us)))

touch_is : (d : Deal) (s : Side) (us : List Share) (v : Share) → OneSide s us → OneSide s (without d.is_lifo (closed_share_count_of_deal d us) us) → v.side ≡ s → v.trade ≢ d.trade
    → touch_of_lot_with_share d us v ≡ abstract_touch (row (λ t. count_of t us) (λ t. count_of t (shares_after_deal us d)) v)
touch_is d s us v one left side other =
    let before : lot_quantity us v.trade ≡ signed_by_side v.side (count_of v.trade us) = lot_counts s v.trade us one ∙ ap (λ t. signed_by_side t (count_of v.trade us)) (sym side) in
    let after : lot_quantity (shares_after_deal us d) v.trade ≡ signed_by_side v.side (count_of v.trade (shares_after_deal us d)) =
    lot_after d s us v.trade left (λ e. other (sym e)) ∙ ap (λ t. signed_by_side t (count_of v.trade (shares_after_deal us d))) (sym side) in
    rw (before, after) refl

pub touches_are : (d : Deal) (s : Side) (us : List Share) → OneSide s us → OneSide s (without d.is_lifo (closed_share_count_of_deal d us) us) → AllByRecursion (λ v. v.trade ≢ d.trade) us
    → touches_of_existing_lots d us ≡ map abstract_touch (changes us (shares_after_deal us d))
unfolding touches_of_existing_lots
touches_are d s us one left fresh = each (first_shares_of_lots us) (all_firsts Fits us (all_from (λ v. v.side ≡ s) (λ v. v.trade ≢ d.trade) Fits (λ v p q. (p, q)) us one fresh)) where
  Fits : Share → Type 0
  Fits v = (v.side ≡ s) × (v.trade ≢ d.trade)

  before : ℕ → ℕ
  before t = count_of t us

  after : ℕ → ℕ
  after t = count_of t (shares_after_deal us d)

  moved : Share → Bool
  moved v = not (eqb (before v.trade) (after v.trade))

  change_is : (v : Share) → changes_lot_quantity (abstract_touch (row before after v)) ≡ moved v
  change_is v = elim (cases_eq (before v.trade) (after v.trade)) [
    | inl e ↦ rw (e, eq-eqb (after v.trade) (after v.trade) refl) (ap not (differ_none v.side (after v.trade)))
    | inr n ↦ rw (ne_eqb (before v.trade) (after v.trade) n) (ap not (differ v.side (before v.trade) (after v.trade) n))
  ]

  each : (vs : List Share) → AllByRecursion Fits vs → filter changes_lot_quantity (map (touch_of_lot_with_share d us) vs) ≡ map abstract_touch (map (row before after) (filter moved vs))
  each [] h = refl
  each (v ∷ vs) h =
      let e : touch_of_lot_with_share d us v ≡ abstract_touch (row before after v) = touch_is d s us v one left h.0.0 h.0.1 in
      ap (λ b. cond b (touch_of_lot_with_share d us v ∷ rest) rest) (ap changes_lot_quantity e ∙ change_is v) ∙ step (moved v) e (each vs h.1) where
        rest : List model.Touch
        rest = filter changes_lot_quantity (map (touch_of_lot_with_share d us) vs)

        step : (b : Bool) → touch_of_lot_with_share d us v ≡ abstract_touch (row before after v) → rest ≡ map abstract_touch (map (row before after) (filter moved vs))
            → cond b (touch_of_lot_with_share d us v ∷ rest) rest ≡ map abstract_touch (map (row before after) (cond b (v ∷ filter moved vs) (filter moved vs)))
        step true e k = ap (λ (t : model.Touch). t ∷ rest) e ∙ ap (λ (ts : List model.Touch). abstract_touch (row before after v) ∷ ts) k
        step false e k = k

-- ---- how many shares a deal closes

pub met_is : (d : Deal) (ls : List Lot) → IsPositionInAnyOrder ls → closed_share_count d.side d.qty ls ≡ closed_share_count_of_deal d (shares_of_lots ls)
met_is d [] w = refl
met_is d (l ∷ ls) w = one (unsigned_abs l.qty) (size_positive l.qty w.0) where
  one : (n : ℕ) → 0 < n
      → cond (is_same_side (side_of_qty l.qty) d.side) 0 (min d.qty (length (replicate n (share_of_lot l) ++ shares_of_lots ls)))
      ≡ closed_share_count_of_deal d (replicate n (share_of_lot l) ++ shares_of_lots ls)
  one zero p = absurd (omega arith)
  one (suc n) p = at (is_same_side (side_of_qty l.qty) d.side) where
    at : (b : Bool) → cond b 0 (min d.qty (length (replicate (suc n) (share_of_lot l) ++ shares_of_lots ls)))
        ≡ cond (not b) (min d.qty (length (replicate (suc n) (share_of_lot l) ++ shares_of_lots ls))) 0
    at true = refl
    at false = refl

-- ---- the values of a deal

pub bought_is : (d : Deal) (us : List Share)
    → buy_value d us ≡ buy_value_by_side d.side (closed_share_count_of_deal d us * d.price)
    (cost (take (closed_share_count_of_deal d us) (list_reversed_if_lifo d.is_lifo us)))
unfolding buy_value
bought_is d us = at d.side ∙ ap (buy_value_by_side d.side (closed_share_count_of_deal d us * d.price)) (sym (cost_end d.is_lifo (closed_share_count_of_deal d us) us)) where
  at : (s : Side) → model.buy_value_for_side s d us ≡ buy_value_by_side s (closed_share_count_of_deal d us * d.price) (closed_value_at_opening_prices d us)
  at Buy = refl
  at Sell = refl

pub sold_is : (d : Deal) (us : List Share)
    → sell_value d us ≡ sell_value_by_side d.side (closed_share_count_of_deal d us * d.price)
    (cost (take (closed_share_count_of_deal d us) (list_reversed_if_lifo d.is_lifo us)))
unfolding sell_value
sold_is d us = at d.side ∙ ap (sell_value_by_side d.side (closed_share_count_of_deal d us * d.price)) (sym (cost_end d.is_lifo (closed_share_count_of_deal d us) us)) where
  at : (s : Side) → model.sell_value_for_side s d us ≡ sell_value_by_side s (closed_share_count_of_deal d us * d.price) (closed_value_at_opening_prices d us)
  at Buy = refl
  at Sell = refl

-- some equal shares are one lot
pub lots_some : (n : ℕ) (u : Share) → 0 < n → lots_of_shares (replicate n u) ≡ record { trade = u.trade; price = u.price; stamp = u.stamp; qty = signed_by_side u.side n } ∷ []
lots_some zero u p = absurd (omega arith)
lots_some (suc n) u p = lots_alike (suc n) u
