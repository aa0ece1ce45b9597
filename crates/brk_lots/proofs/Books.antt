-- Sums over the shares and the lots of whole histories.
use Rattle.std.proofs.Common.{◌≡◌, ℕ, zero, suc, ℤ, pos, negsuc, ◌+ℤ◌, ◌-ℤ◌, ◌*ℤ◌, ◌+◌, ◌*◌, ◌-◌, ◌≤◌, min, Bool, true, false, not, cond, List, [], ◌∷◌, ◌++◌}
use Rattle.std.proofs.Common.{length, take, replicate, unsigned_abs, refl, sym, ap, ◌∙◌, arith}
use Rattle.std.specs.Prelude.{fold}
use Rattle.std.proofs.lemmas.Int.{ints}
use Rattle.std.proofs.lemmas.List.{length-replicate, append-nil, nil_from_length}
use Rattle.std.proofs.lemmas.List.Sums.{sum_by-cons}
use Rattle.brk_money.specs.Kinds.{is_same_side}
use Rattle.brk_money.specs.declared.side.Side.{Side}
use Rattle.brk_money.specs.declared.side.Side.TheVariants.{Buy, Sell}
use Rattle.brk_model.specs.Lists.{total_by}
use Rattle.brk_model.specs.Shares.{Share, Deal, signed_by_side, net_share_count, realised_gain, replay, opened_share, closed_share_count_of_deal, shares_after_deal, buy_value}
use Rattle.brk_lots.specs.declared.lot.Lot.{Lot}
use Rattle.brk_lots.specs.Lots.{side_of_qty, share_of_lot, shares_of_lots, list_reversed_if_lifo}
use Rattle.brk_lots.specs.ClosedValues.{buy_value_by_side, sell_value_by_side}
use Rattle.brk_lots.specs.Books.{lot_quantity_sum, cost_basis_of_lots, cost_basis_of_shares, deal_quantity_sum, realised_gain_sum, purchase_value_minus_sale_value}
use Rattle.brk_lots.proofs.Runs.{cost, without, cost_run, signed_back}
use Rattle.brk_lots.proofs.Ends.{all_join, cost_parts}
use Rattle.brk_lots.proofs.Counts.{OneSide, net_of, owes, all_run}
use Rattle.brk_lots.proofs.Deals.{all_without}
use Rattle.brk_lots.proofs.Plain.{after_is, bought_is, sold_is}
use Rattle.brk_lots.proofs.Left.{same_is, length_without}

signed_add : (s : Side) (m n : ℕ) → signed_by_side s m +ℤ signed_by_side s n ≡ signed_by_side s (m + n)
signed_add Buy m n = omega (arith, ints)
signed_add Sell zero n = let e : 0 + n ≡ n = omega arith in rw e (none n) where
  none : (n : ℕ) → pos 0 +ℤ signed_by_side Sell n ≡ signed_by_side Sell n
  none zero = refl
  none (suc n) = omega (arith, ints)
signed_add Sell (suc m) zero = let e : suc m + 0 ≡ suc m = omega arith in rw e (omega (arith, ints))
signed_add Sell (suc m) (suc n) = let e : suc m + suc n ≡ suc (suc (m + n)) = omega arith in rw e (omega (arith, ints))

cost_of : (s : Side) (us : List Share) → OneSide s us → cost_basis_of_shares us ≡ signed_by_side s (cost us)
unfolding total_by
cost_of Buy [] h = refl
cost_of Sell [] h = refl
cost_of s (u ∷ us) h =
    ap (λ t. signed_by_side t u.price +ℤ cost_basis_of_shares us) h.0 ∙ ap (λ z. signed_by_side s u.price +ℤ z) (cost_of s us h.1)
    ∙ signed_add s u.price (cost us) ∙ ap (signed_by_side s) (sym (sum_by-cons (λ (v : Share). v.price) u us))

net_join : (us vs : List Share) → net_share_count (us ++ vs) ≡ net_share_count us +ℤ net_share_count vs
unfolding total_by
net_join [] vs = omega (arith, ints)
net_join (u ∷ us) vs = omega (arith, ints, net_join us vs)

cost_join : (us vs : List Share) → cost_basis_of_shares (us ++ vs) ≡ cost_basis_of_shares us +ℤ cost_basis_of_shares vs
unfolding total_by
cost_join [] vs = omega (arith, ints)
cost_join (u ∷ us) vs = omega (arith, ints, cost_join us vs)

net_step : (s t : Side) (l w k r q : ℕ) → w + k ≡ l → q ≡ k + r → (s ≡ t → k ≡ 0) → signed_by_side s w +ℤ signed_by_side t r ≡ signed_by_side s l +ℤ signed_by_side t q
net_step Buy Buy l w k r q a b c = omega (arith, ints, a, b, c refl)
net_step Sell Sell l w k r q a b c = omega (arith, ints, a, b, c refl, owes w, owes r, owes l, owes q)
net_step Buy Sell l w k r q a b c = omega (arith, ints, a, b, owes r, owes q)
net_step Sell Buy l w k r q a b c = omega (arith, ints, a, b, owes w, owes l)

cost_step : (s t : Side) (all left closed value rest total : ℕ) → left + closed ≡ all → total ≡ value + rest → (s ≡ t → (closed ≡ 0) × (value ≡ 0))
    → signed_by_side s left +ℤ signed_by_side t rest
    ≡ signed_by_side s all +ℤ ((pos (sell_value_by_side t value closed) -ℤ pos (buy_value_by_side t value closed)) +ℤ signed_by_side t total)
cost_step Buy Buy all left closed value rest total a b c = let h = c refl in omega (arith, ints, a, b, h.0, h.1)
cost_step Sell Sell all left closed value rest total a b c = let h = c refl in omega (arith, ints, a, b, h.0, h.1, owes left, owes rest, owes all, owes total)
cost_step Buy Sell all left closed value rest total a b c = omega (arith, ints, a, b, owes rest, owes total)
cost_step Sell Buy all left closed value rest total a b c = omega (arith, ints, a, b, owes left, owes all)

pub same_self : (s : Side) → is_same_side s s ≡ true
same_self Buy = refl
same_self Sell = refl

-- how many are closed
pub closed_is : (d : Deal) (u : Share) (us : List Share) → closed_share_count_of_deal d (u ∷ us) ≡ cond (is_same_side u.side d.side) 0 (min d.qty (length (u ∷ us)))
closed_is d u us = at (is_same_side u.side d.side) where
  at : (b : Bool) → cond (not b) (min d.qty (length (u ∷ us))) 0 ≡ cond b 0 (min d.qty (length (u ∷ us)))
  at true = refl
  at false = refl

pub count_fits : (d : Deal) (us : List Share) → (closed_share_count_of_deal d us ≤ d.qty) × (closed_share_count_of_deal d us ≤ length us)
count_fits d [] = (omega arith, omega arith)
count_fits d (v ∷ vs) = rw (closed_is d v vs) (at (is_same_side v.side d.side)) where
  at : (b : Bool) → (cond b 0 (min d.qty (length (v ∷ vs))) ≤ d.qty) × (cond b 0 (min d.qty (length (v ∷ vs))) ≤ length (v ∷ vs))
  at true = (omega arith, omega arith)
  at false = (omega arith, omega arith)

pub count_own : (d : Deal) (s : Side) (us : List Share) → OneSide s us → s ≡ d.side → closed_share_count_of_deal d us ≡ 0
count_own d s [] h e = refl
count_own d s (v ∷ vs) h e = closed_is d v vs ∙ rw (h.0, e, same_self d.side) refl

pub count_other : (d : Deal) (s : Side) (us : List Share) → OneSide s us → is_same_side s d.side ≡ false → closed_share_count_of_deal d us ≡ min d.qty (length us)
count_other d s [] h e = omega arith
count_other d s (v ∷ vs) h e = closed_is d v vs ∙ rw (h.0, e) refl

-- what stays of one side is of that side
pub stays : (s : Side) (d : Deal) (us : List Share) → OneSide s us → OneSide s (without d.is_lifo (closed_share_count_of_deal d us) us)
stays s d us h = all_without (λ v. v.side ≡ s) d.is_lifo (closed_share_count_of_deal d us) us h

opens : (d : Deal) (n : ℕ) → OneSide d.side (replicate n (opened_share d))
opens d n = all_run (λ v. v.side ≡ d.side) n (opened_share d) refl

net_after_one : (s : Side) (d : Deal) (us : List Share) → OneSide s us → net_share_count (shares_after_deal us d) ≡ net_share_count us +ℤ signed_by_side d.side d.qty
net_after_one s d us h =
    let k = closed_share_count_of_deal d us in
    let f = count_fits d us in
    let w : net_share_count (without d.is_lifo k us) ≡ signed_by_side s (length us - k) = net_of s (without d.is_lifo k us) (stays s d us h) ∙ ap (signed_by_side s) (length_without d.is_lifo k us) in
    let r : net_share_count (replicate (d.qty - k) (opened_share d)) ≡ signed_by_side d.side (d.qty - k) =
    net_of d.side (replicate (d.qty - k) (opened_share d)) (opens d (d.qty - k))
    ∙ ap (signed_by_side d.side) (length-replicate (d.qty - k) (opened_share d)) in
    let e : signed_by_side s (length us - k) +ℤ signed_by_side d.side (d.qty - k) ≡ signed_by_side s (length us) +ℤ signed_by_side d.side d.qty =
    net_step s d.side (length us) (length us - k) k (d.qty - k) d.qty (omega (arith, f.1)) (omega (arith, f.0)) (count_own d s us h) in
    ap net_share_count (after_is d us) ∙ net_join (without d.is_lifo k us) (replicate (d.qty - k) (opened_share d)) ∙ rw (w, r, net_of s us h) e

gain_is : (d : Deal) (us : List Share) → let k = closed_share_count_of_deal d us in let x = cost (take k (list_reversed_if_lifo d.is_lifo us)) in
    realised_gain d us ≡ pos (sell_value_by_side d.side (k * d.price) x) -ℤ pos (buy_value_by_side d.side (k * d.price) x)
gain_is d us = ap (λ n. pos n -ℤ pos (buy_value d us)) (sold_is d us)
    ∙ ap (λ n. pos (sell_value_by_side d.side (closed_share_count_of_deal d us * d.price)
    (cost (take (closed_share_count_of_deal d us) (list_reversed_if_lifo d.is_lifo us)))) -ℤ pos n) (bought_is d us)

cost_after_one : (s : Side) (d : Deal) (us : List Share) → OneSide s us
    → cost_basis_of_shares (shares_after_deal us d) ≡ cost_basis_of_shares us +ℤ (realised_gain d us +ℤ signed_by_side d.side (d.qty * d.price))
cost_after_one s d us h =
    let k = closed_share_count_of_deal d us in
    let u = opened_share d in
    let x = cost (take k (list_reversed_if_lifo d.is_lifo us)) in
    let f = count_fits d us in
    let w : cost_basis_of_shares (without d.is_lifo k us) ≡ signed_by_side s (cost (without d.is_lifo k us)) = cost_of s (without d.is_lifo k us) (stays s d us h) in
    let rc : cost (replicate (d.qty - k) u) ≡ (d.qty - k) * d.price = ap cost (sym (append-nil (replicate (d.qty - k) u))) ∙ cost_run (d.qty - k) u [] ∙ omega arith in
    let r : cost_basis_of_shares (replicate (d.qty - k) u) ≡ signed_by_side d.side ((d.qty - k) * d.price) =
    cost_of d.side (replicate (d.qty - k) u) (opens d (d.qty - k)) ∙ ap (signed_by_side d.side) rc in
    let total : d.qty * d.price ≡ k * d.price + (d.qty - k) * d.price = parts d.qty k d.price f.0 in
    let e = cost_step s d.side (cost us) (cost (without d.is_lifo k us)) x (k * d.price) ((d.qty - k) * d.price) (d.qty * d.price) (cost_parts d.is_lifo k us) total
    (λ z. (ap (λ n. cost (take n (list_reversed_if_lifo d.is_lifo us))) (count_own d s us h z), ap (λ n. n * d.price) (count_own d s us h z) ∙ omega arith)) in
    ap cost_basis_of_shares (after_is d us) ∙ cost_join (without d.is_lifo k us) (replicate (d.qty - k) u) ∙ rw (w, r, cost_of s us h, gain_is d us) e where
      parts : (q k p : ℕ) → k ≤ q → q * p ≡ k * p + (q - k) * p
      parts q k p h = let e : q ≡ k + (q - k) = omega arith in ap (λ n. n * p) e ∙ omega arith

-- all have one side after a deal
pub side_after : (s : Side) (d : Deal) (us : List Share) → OneSide s us → (t : Side) × OneSide t (shares_after_deal us d)
side_after s d us h = let a = each (is_same_side s d.side) (d.qty - closed_share_count_of_deal d us) refl refl in (a.0, rw (after_is d us) a.1) where
  left : List Share
  left = without d.is_lifo (closed_share_count_of_deal d us) us

  stay : OneSide s left
  stay = stays s d us h

  each : (b : Bool) (r : ℕ) → is_same_side s d.side ≡ b → d.qty - closed_share_count_of_deal d us ≡ r → (t : Side) × OneSide t (left ++ replicate r (opened_share d))
  each b zero e z = (s, all_join (λ v. v.side ≡ s) left [] stay tt)
  each true (suc r) e z =
      let same = same_is s d.side e in
      (s, all_join (λ v. v.side ≡ s) left (replicate (suc r) (opened_share d)) stay (all_run (λ v. v.side ≡ s) (suc r) (opened_share d) (sym same)))
  each false (suc r) e z =
      let k = count_other d s us h e in
      let none : left ≡ [] = nil_from_length left (length_without d.is_lifo (closed_share_count_of_deal d us) us ∙ omega (arith, k, z)) in
      (d.side, rw none (opens d (suc r)))

-- after any deals the shares have one side
pub sides_after : (s : Side) (ds : List Deal) (us : List Share) → OneSide s us → (t : Side) × OneSide t (fold shares_after_deal us ds)
sides_after s [] us h = (s, h)
sides_after s (d ∷ ds) us h = let a = side_after s d us h in sides_after a.0 ds (shares_after_deal us d) a.1

net_after : (s : Side) (ds : List Deal) (us : List Share) → OneSide s us → net_share_count (fold shares_after_deal us ds) ≡ net_share_count us +ℤ deal_quantity_sum ds
unfolding total_by
net_after s [] us h = omega (arith, ints)
net_after s (d ∷ ds) us h =
    let a = side_after s d us h in
    omega (arith, ints, net_after a.0 ds (shares_after_deal us d) a.1, net_after_one s d us h)

cost_after : (s : Side) (ds : List Deal) (us : List Share) → OneSide s us
    → cost_basis_of_shares (fold shares_after_deal us ds) ≡ cost_basis_of_shares us +ℤ (realised_gain_sum ds us +ℤ purchase_value_minus_sale_value ds)
unfolding total_by
cost_after s [] us h = omega (arith, ints)
cost_after s (d ∷ ds) us h =
    let a = side_after s d us h in
    omega (arith, ints, cost_after a.0 ds (shares_after_deal us d) a.1, cost_after_one s d us h)

-- ---- lots add up to what their shares add up to

pub lots_net : (ls : List Lot) → lot_quantity_sum ls ≡ net_share_count (shares_of_lots ls)
unfolding total_by
lots_net [] = refl
lots_net (l ∷ ls) =
    let n = unsigned_abs l.qty in
    let run : OneSide (side_of_qty l.qty) (replicate n (share_of_lot l)) = all_run (λ v. v.side ≡ side_of_qty l.qty) n (share_of_lot l) refl in
    let r : net_share_count (replicate n (share_of_lot l)) ≡ l.qty = net_of (side_of_qty l.qty) (replicate n (share_of_lot l)) run
    ∙ ap (signed_by_side (side_of_qty l.qty)) (length-replicate n (share_of_lot l)) ∙ signed_back l.qty in
    ap (λ z. l.qty +ℤ z) (lots_net ls) ∙ ap (λ z. z +ℤ net_share_count (shares_of_lots ls)) (sym r) ∙ sym (net_join (replicate n (share_of_lot l)) (shares_of_lots ls))

signed_times : (z : ℤ) (p : ℕ) → z *ℤ pos p ≡ signed_by_side (side_of_qty z) (unsigned_abs z * p)
signed_times (pos n) p = refl
signed_times (negsuc n) p = refl

lots_worth : (ls : List Lot) → cost_basis_of_lots ls ≡ cost_basis_of_shares (shares_of_lots ls)
unfolding total_by
lots_worth [] = refl
lots_worth (l ∷ ls) =
    let n = unsigned_abs l.qty in
    let s = side_of_qty l.qty in
    let run : OneSide s (replicate n (share_of_lot l)) = all_run (λ v. v.side ≡ s) n (share_of_lot l) refl in
    let c : cost (replicate n (share_of_lot l)) ≡ n * l.price = ap cost (sym (append-nil (replicate n (share_of_lot l)))) ∙ cost_run n (share_of_lot l) [] ∙ omega arith in
    let r : cost_basis_of_shares (replicate n (share_of_lot l)) ≡ l.qty *ℤ pos l.price = cost_of s (replicate n (share_of_lot l)) run ∙ ap (signed_by_side s) c ∙ sym (signed_times l.qty l.price) in
    ap (λ z. l.qty *ℤ pos l.price +ℤ z) (lots_worth ls) ∙ ap (λ z. z +ℤ cost_basis_of_shares (shares_of_lots ls)) (sym r) ∙ sym (cost_join (replicate n (share_of_lot l)) (shares_of_lots ls))

-- ---- the laws, from the empty position

pub quantities_add_up : (ds : List Deal) (ls : List Lot) → shares_of_lots ls ≡ replay ds → lot_quantity_sum ls ≡ deal_quantity_sum ds
unfolding total_by
quantities_add_up ds ls e = lots_net ls ∙ ap net_share_count e ∙ net_after Buy ds [] tt ∙ omega (arith, ints)

pub costs_add_up : (ds : List Deal) (ls : List Lot) → shares_of_lots ls ≡ replay ds → cost_basis_of_lots ls ≡ realised_gain_sum ds [] +ℤ purchase_value_minus_sale_value ds
unfolding total_by
costs_add_up ds ls e = lots_worth ls ∙ ap cost_basis_of_shares e ∙ cost_after Buy ds [] tt ∙ omega (arith, ints)
