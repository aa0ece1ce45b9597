-- Shares of one side, counted with their sign.
use Rattle.std.proofs.Common.{◌≡◌, ◌≢◌, ℕ, zero, suc, ℤ, pos, negsuc, ◌+ℤ◌, ◌-ℤ◌, ◌+◌, eqb, Bool, true, false, cond, List, [], ◌∷◌, ◌++◌, length, replicate, unsigned_abs, refl, sym, ap, ◌∙◌, arith}
use Rattle.std.specs.List.{AllByRecursion}
use Rattle.std.proofs.lemmas.Int.{ints}
use Rattle.std.proofs.lemmas.Bool.{ne_eqb}
use Rattle.std.proofs.lemmas.List.{append-nil}
use Rattle.std.proofs.lemmas.List.Elements.{filter-append}
use Rattle.std.proofs.lemmas.List.Sums.{sum_by-cons}
use Rattle.brk_money.specs.declared.side.Side.{Side}
use Rattle.brk_money.specs.declared.side.Side.TheVariants.{Buy, Sell}
use Rattle.brk_model.specs.Lists.{total_by, is_zero}
use Rattle.brk_model.specs.Shares.{Share, signed_by_side, net_share_count, shares_opened_by_trade, lot_quantity}
use Rattle.brk_lots.specs.declared.lot.Lot.{Lot}
use Rattle.brk_lots.specs.Lots.{side_of_qty, share_of_lot, shares_of_lots}
use Rattle.brk_lots.specs.Position.{HasSameSideAndOtherTrade, IsPositionInAnyOrder}
use Rattle.brk_lots.proofs.Runs.{count_of}
use Rattle.brk_lots.proofs.Changes.{all_from, all_filter}
use Rattle.brk_lots.proofs.Ends.{all_join}

-- All shares of `us` have the side `s`.
abbrev pub OneSide : Side → List Share → Type 0
OneSide s us = AllByRecursion (λ u. u.side ≡ s) us

pub net_of : (s : Side) (us : List Share) → OneSide s us → net_share_count us ≡ signed_by_side s (length us)
unfolding total_by
net_of Buy [] h = refl
net_of Sell [] h = refl
net_of Buy (u ∷ us) h = rw (h.0, net_of Buy us h.1) (omega (arith, ints))
net_of Sell (u ∷ us) h = rw (h.0, net_of Sell us h.1) (sell (length us)) where
  sell : (n : ℕ) → signed_by_side Sell 1 +ℤ signed_by_side Sell n ≡ signed_by_side Sell (suc n)
  sell zero = refl
  sell (suc n) = omega (arith, ints)

pub owes : (n : ℕ) → signed_by_side Sell n +ℤ pos n ≡ pos 0
owes zero = refl
owes (suc n) = omega (arith, ints)

-- a trade's shares, by their count
count_opened : (t : ℕ) (us : List Share) → length (shares_opened_by_trade t us) ≡ count_of t us
count_opened t [] = refl
count_opened t (u ∷ us) = at (eqb u.trade t) (count_opened t us) ∙ sym (sum_by-cons (λ (v : Share). cond (eqb v.trade t) 1 0) u us) where
  at : (b : Bool) → length (shares_opened_by_trade t us) ≡ count_of t us → length (cond b (u ∷ shares_opened_by_trade t us) (shares_opened_by_trade t us)) ≡ cond b 1 0 + count_of t us
  at true e = omega arith
  at false e = omega arith

pub lot_counts : (s : Side) (t : ℕ) (us : List Share) → OneSide s us → lot_quantity us t ≡ signed_by_side s (count_of t us)
lot_counts s t us h =
    net_of s (shares_opened_by_trade t us) (all_filter (λ (u : Share). u.side ≡ s) (λ u. eqb u.trade t) us h) ∙ ap (signed_by_side s) (count_opened t us)

-- shares that another trade opened add nothing to a lot
pub lot_appended : (t n : ℕ) (us : List Share) (u : Share) → u.trade ≢ t → lot_quantity (us ++ replicate n u) t ≡ lot_quantity us t
unfolding total_by
lot_appended t n us u h =
    ap net_share_count (filter-append (λ (v : Share). eqb v.trade t) us (replicate n u) ∙ ap (λ (vs : List Share). shares_opened_by_trade t us ++ vs) (none n)
    ∙ append-nil (shares_opened_by_trade t us)) where
      none : (n : ℕ) → shares_opened_by_trade t (replicate n u) ≡ []
      none zero = refl
      none (suc n) = rw (ne_eqb u.trade t h) (none n)

-- ---- the shares of lots

pub all_run : {X : Type 0} (P : X → Type 0) (n : ℕ) (x : X) → P x → AllByRecursion P (replicate n x)
all_run P zero x h = tt
all_run P (suc n) x h = (h, all_run P n x h)

pub all_shares : (P : Share → Type 0) (ls : List Lot) → AllByRecursion (λ l. P (share_of_lot l)) ls → AllByRecursion P (shares_of_lots ls)
all_shares P [] h = tt
all_shares P (l ∷ ls) h = all_join P (replicate (unsigned_abs l.qty) (share_of_lot l)) (shares_of_lots ls) (all_run P (unsigned_abs l.qty) (share_of_lot l) h.0) (all_shares P ls h.1)

-- the lots of a position have one side
pub walk_side : (ls : List Lot) → IsPositionInAnyOrder ls → (s : Side) × AllByRecursion (λ l. side_of_qty l.qty ≡ s) ls
walk_side [] w = (Buy, tt)
walk_side (l ∷ ls) w = (side_of_qty l.qty, (refl, all_from (HasSameSideAndOtherTrade l) (HasSameSideAndOtherTrade l) (λ m. side_of_qty m.qty ≡ side_of_qty l.qty) (λ m p q. p.0) ls w.1 w.1))

-- ---- a difference of two counts

zero_only : (z : ℤ) → z ≢ pos 0 → is_zero z ≡ false
zero_only (pos zero) h = absurd (h refl)
zero_only (pos (suc n)) h = refl
zero_only (negsuc n) h = refl

signed_same : (s : Side) (m n : ℕ) → signed_by_side s m -ℤ signed_by_side s n ≡ pos 0 → m ≡ n
signed_same Buy m n e = omega (arith, ints, e)
signed_same Sell m n e = omega (arith, ints, e, owes m, owes n)

self_less : (z : ℤ) → z -ℤ z ≡ pos 0
self_less z = omega (arith, ints)

pub differ_none : (s : Side) (n : ℕ) → is_zero (signed_by_side s n -ℤ signed_by_side s n) ≡ true
differ_none s n = ap is_zero (self_less (signed_by_side s n))

pub differ : (s : Side) (m n : ℕ) → m ≢ n → is_zero (signed_by_side s m -ℤ signed_by_side s n) ≡ false
differ s m n h = zero_only (signed_by_side s m -ℤ signed_by_side s n) (λ e. h (signed_same s m n e))
