-- The number of shares that replayed deals leave, and their cost basis.
use Rattle.std.proofs.Common.{◌≡◌, ℕ, ◌*◌, ℤ, pos, ◌+ℤ◌, ◌*ℤ◌, List, [], ◌∷◌, ◌++◌, map, replicate, unsigned_abs, refl, sym, ap, ◌∙◌, arith}
use Rattle.std.specs.Prelude.{fold}
use Rattle.std.proofs.lemmas.Int.{ints}
use Rattle.brk_money.specs.declared.side.Side.{Side}
use Rattle.brk_money.specs.declared.side.Side.TheVariants.{Buy, Sell}
use Rattle.brk_model.specs.Lists.{total_by}
use Rattle.brk_model.specs.Shares.{Share, Deal, realised_gain, net_share_count, replay, shares_after_deal, signed_by_side}
use Rattle.brk_lots.specs.Books.{deal_quantity_sum, realised_gain_sum, cost_basis_of_lots, cost_basis_of_shares, purchase_value_minus_sale_value}
use Rattle.brk_lots.specs.Lots.{share_of_lot, shares_of_lots, side_of_qty}
use Rattle.brk_lots.specs.declared.lot.Lot.{Lot}
use Rattle.brk_lots.proofs.Books.{costs_add_up, lots_net, quantities_add_up}
use Rattle.brk_trade_books.proofs.Worth.{total-append}

-- ---- each share as a lot

single : Share → Lot
single u = record { trade = u.trade; price = u.price; qty = signed_by_side u.side 1; stamp = u.stamp }

shares_single : (us : List Share) → shares_of_lots (map single us) ≡ us
unfolding single
shares_single [] = refl
shares_single (u ∷ us) = ap (λ vs. replicate (unsigned_abs (signed_by_side u.side 1)) (share_of_lot (single u)) ++ vs) (shares_single us) ∙ one u.side
  where
    one : (s : Side) → replicate (unsigned_abs (signed_by_side s 1)) (record { side = side_of_qty (signed_by_side s 1); trade = u.trade; price = u.price; stamp = u.stamp }) ++ us
        ≡ record { side = s; trade = u.trade; price = u.price; stamp = u.stamp } ∷ us
    one Buy = refl
    one Sell = refl

times_one : (p : ℕ) → 1 * p ≡ p
times_one p = omega arith

-- a share of a side at a price
pub signed_price : (s : Side) (p : ℕ) → signed_by_side s 1 *ℤ pos p ≡ signed_by_side s p
signed_price Buy p = ap (signed_by_side Buy) (times_one p)
signed_price Sell p = ap (signed_by_side Sell) (times_one p)

cost_single : (us : List Share) → cost_basis_of_lots (map single us) ≡ cost_basis_of_shares us
unfolding single total_by
cost_single [] = refl
cost_single (u ∷ us) = λ i. signed_price u.side u.price i +ℤ cost_single us i

-- ---- all deals

cost_replayed : (ds : List Deal) → cost_basis_of_shares (replay ds) ≡ realised_gain_sum ds [] +ℤ purchase_value_minus_sale_value ds
cost_replayed ds = sym (cost_single (replay ds)) ∙ costs_add_up ds (map single (replay ds)) (shares_single (replay ds))

pub net_replayed : (ds : List Deal) → net_share_count (replay ds) ≡ deal_quantity_sum ds
net_replayed ds = ap net_share_count (sym (shares_single (replay ds))) ∙ sym (lots_net (map single (replay ds))) ∙ quantities_add_up ds (map single (replay ds)) (shares_single (replay ds))

-- ---- one more

pub fold_last : (us : List Share) (ds : List Deal) (d : Deal) → fold shares_after_deal us (ds ++ d ∷ []) ≡ shares_after_deal (fold shares_after_deal us ds) d
fold_last us [] d = refl
fold_last us (e ∷ ds) d = fold_last (shares_after_deal us e) ds d

gains_last : (ds : List Deal) (d : Deal) (us : List Share) → realised_gain_sum (ds ++ d ∷ []) us ≡ realised_gain_sum ds us +ℤ realised_gain d (fold shares_after_deal us ds)
gains_last [] d us = omega (arith, ints)
gains_last (e ∷ ds) d us = ap (λ z. realised_gain e us +ℤ z) (gains_last ds d (shares_after_deal us e))
    ∙ regroup (realised_gain e us) (realised_gain_sum ds (shares_after_deal us e)) (realised_gain d (fold shares_after_deal (shares_after_deal us e) ds))
  where
    regroup : (a b c : ℤ) → a +ℤ (b +ℤ c) ≡ (a +ℤ b) +ℤ c
    regroup a b c = omega (arith, ints)

last_total : {X : Type 0} (f : X → ℤ) (xs : List X) (x : X) → total_by f (xs ++ x ∷ []) ≡ total_by f xs +ℤ f x
unfolding total_by
last_total f xs x = total-append f xs (x ∷ []) ∙ ap (λ z. total_by f xs +ℤ z) (one (f x))
  where
    one : (z : ℤ) → z +ℤ pos 0 ≡ z
    one z = omega (arith, ints)

pub net_step : (ds : List Deal) (d : Deal) → net_share_count (shares_after_deal (replay ds) d) ≡ net_share_count (replay ds) +ℤ signed_by_side d.side d.qty
net_step ds d =
    ap net_share_count (sym (fold_last [] ds d)) ∙ net_replayed (ds ++ d ∷ []) ∙ last_total (λ e. signed_by_side e.side e.qty) ds d
    ∙ ap (λ z. z +ℤ signed_by_side d.side d.qty) (sym (net_replayed ds))

pub cost_step : (ds : List Deal) (d : Deal)
    → cost_basis_of_shares (shares_after_deal (replay ds) d)
    ≡ cost_basis_of_shares (replay ds) +ℤ (realised_gain d (replay ds) +ℤ signed_by_side d.side (d.qty * d.price))
cost_step ds d =
    ap cost_basis_of_shares (sym (fold_last [] ds d)) ∙ cost_replayed (ds ++ d ∷ [])
    ∙ (λ i. gains_last ds d [] i +ℤ last_total (λ e. signed_by_side e.side (e.qty * e.price)) ds d i)
    ∙ regroup (realised_gain_sum ds []) (realised_gain d (replay ds)) (purchase_value_minus_sale_value ds) (signed_by_side d.side (d.qty * d.price))
    ∙ ap (λ z. z +ℤ (realised_gain d (replay ds) +ℤ signed_by_side d.side (d.qty * d.price))) (sym (cost_replayed ds))
  where
    regroup : (a b c e : ℤ) → (a +ℤ b) +ℤ (c +ℤ e) ≡ (a +ℤ c) +ℤ (b +ℤ e)
    regroup a b c e = omega (arith, ints)
