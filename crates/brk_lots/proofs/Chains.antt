-- The changes of a lot form a chain from 0 to its quantity.
use Rattle.std.proofs.Common.{◌≡◌, ◌≢◌, ℕ, zero, suc, ℤ, pos, negsuc, ◌-ℤ◌, ◌-◌, ◌≤◌, eqb, Bool, true, false, not, cond, List, [], ◌∷◌, filter, length, map}
use Rattle.std.proofs.Common.{refl, sym, ap, ◌∙◌, subst, arith, ◌⊎◌, inl, inr}
use Rattle.std.specs.Prelude.{fold}
use Rattle.std.specs.List.{AllByRecursion}
use Rattle.std.proofs.lemmas.Int.{ints}
use Rattle.std.proofs.lemmas.List.Sums.{sum_by-take-le, sum_by-take-drop}
use Rattle.std.proofs.lemmas.Bool.{cases_eq, cases_Bool}
use Rattle.brk_money.specs.declared.side.Side.{Side}
use Rattle.brk_money.specs.declared.side.Side.TheVariants.{Buy, Sell}
use Rattle.brk_model.specs.Lists.{is_zero}
use Rattle.brk_model.specs.Shares.{Share, Deal, Touch, signed_by_side, replay, shares_after_deal, opened_share, closed_share_count_of_deal, lot_quantity, changes_lot_quantity, touch_of_lot}
use Rattle.brk_lots.specs.Deals.{PrecedesDealOfOtherTrade, AreDistinctAscendingDeals}
use Rattle.brk_model.specs.Tables.{HoldingHistoryRow, holding_history_row}
use Rattle.brk_lots.specs.HistoryRows.{has_quantity_change, lot_history_rows_per_deal, touch_of_row}
use Rattle.brk_lots.specs.Chains.{changes_of_lot, ShrinksTowardZero, IsLotHistory}
use Rattle.brk_lots.proofs.Runs.{count_of, without}
use Rattle.brk_lots.proofs.Changes.{all_from, shares_appended}
use Rattle.brk_lots.proofs.Counts.{OneSide, lot_counts, differ_none, differ, owes}
use Rattle.brk_lots.proofs.Plain.{after_is, lot_after}
use Rattle.brk_lots.proofs.Books.{stays, side_after}

count_without : (t : ℕ) (lifo : Bool) (k : ℕ) (us : List Share) → count_of t (without lifo k us) ≤ count_of t us
count_without t true k us = sum_by-take-le (λ (u : Share). cond (eqb u.trade t) 1 0) us (length us - k)
count_without t false k us = omega (arith, sum_by-take-drop (λ (u : Share). cond (eqb u.trade t) 1 0) us k)

count_after : (t : ℕ) (d : Deal) (us : List Share) → d.trade ≢ t → count_of t (shares_after_deal us d) ≤ count_of t us
count_after t d us h =
    let k = closed_share_count_of_deal d us in
    let e : count_of t (shares_after_deal us d) ≡ count_of t (without d.is_lifo k us) =
    ap (count_of t) (after_is d us) ∙ shares_appended t (d.qty - k) (without d.is_lifo k us) (opened_share d) h in
    omega (arith, e, count_without t d.is_lifo k us)

-- where a deal does not open the lot, it changes it where it changes its count
change_by : (t : ℕ) (d : Deal) (s : Side) (us : List Share) → OneSide s us → d.trade ≢ t
    → changes_lot_quantity (touch_of_lot t d us) ≡ not (is_zero (signed_by_side s (count_of t us) -ℤ signed_by_side s (count_of t (shares_after_deal us d))))
change_by t d s us one h =
    ap (λ z. not (is_zero (z -ℤ lot_quantity (shares_after_deal us d) t))) (lot_counts s t us one)
    ∙ ap (λ z. not (is_zero (signed_by_side s (count_of t us) -ℤ z))) (lot_after d s us t (stays s d us one) h)

-- The HOLDING_HISTORY rows of the lot of the trade `t` that change its quantity, by the deals `ds`
-- on the shares `us`.
abbrev moved : ℕ → List Deal → List Share → List HoldingHistoryRow
moved t ds us = filter has_quantity_change (lot_history_rows_per_deal t us ds)

-- where no deal opens the lot again, it falls
falls : (t : ℕ) (ds : List Deal) (s : Side) (us : List Share) → OneSide s us → AllByRecursion (λ d. d.trade ≢ t) ds
    → ShrinksTowardZero (lot_quantity us t) (changes_of_lot t ds us) (lot_quantity (fold shares_after_deal us ds) t)
falls t [] s us one h = refl
falls t (d ∷ ds) s us one h = let a = side_after s d us one in step (falls t ds a.0 (shares_after_deal us d) a.1 h.1) where
  after : List Share
  after = shares_after_deal us d

  to : ℤ
  to = lot_quantity (fold shares_after_deal after ds) t

  before_is : lot_quantity us t ≡ signed_by_side s (count_of t us)
  before_is = lot_counts s t us one

  after_was : lot_quantity after t ≡ signed_by_side s (count_of t after)
  after_was = lot_after d s us t (stays s d us one) h.0

  step : ShrinksTowardZero (lot_quantity after t) (changes_of_lot t ds after) to → ShrinksTowardZero (lot_quantity us t) (changes_of_lot t (d ∷ ds) us) to
  step rest = elim (cases_eq (count_of t us) (count_of t after)) [
    | inl e ↦
        let same : lot_quantity us t ≡ lot_quantity after t = before_is ∙ ap (signed_by_side s) e ∙ sym after_was in
        let no : changes_lot_quantity (touch_of_lot t d us) ≡ false = change_by t d s us one h.0
        ∙ ap (λ n. not (is_zero (signed_by_side s n -ℤ signed_by_side s (count_of t after)))) e ∙ ap not (differ_none s (count_of t after)) in
        subst (λ b. ShrinksTowardZero (lot_quantity us t)
        (map touch_of_row (cond b (holding_history_row d.trade (touch_of_lot t d us) ∷ moved t ds after) (moved t ds after))) to) (sym no)
        (subst (λ z. ShrinksTowardZero z (changes_of_lot t ds after) to) (sym same) rest)
    | inr n ↦
        let yes : changes_lot_quantity (touch_of_lot t d us) ≡ true = change_by t d s us one h.0 ∙ ap not (differ s (count_of t us) (count_of t after) n) in
        let fewer = count_after t d us h.0 in
        subst (λ b. ShrinksTowardZero (lot_quantity us t) (map touch_of_row (cond b (holding_history_row d.trade (touch_of_lot t d us) ∷ moved t ds after) (moved t ds after))) to) (sym yes)
        (refl, (s, count_of t after, count_of t us, after_was, before_is, omega (arith, n, fewer)), rest)
  ]

signed_none : (s : Side) (n : ℕ) → signed_by_side s n ≡ pos 0 → n ≡ 0
signed_none Buy n e = omega (arith, ints, e)
signed_none Sell n e = omega (arith, ints, e, owes n)

none_signed : (s : Side) → signed_by_side s 0 ≡ pos 0
none_signed Buy = refl
none_signed Sell = refl

from_none : (rows : List Touch) (to : ℤ) → ShrinksTowardZero (pos 0) rows to → IsLotHistory rows to
from_none [] to h = h
from_none (row ∷ rows) to h =
    let near = h.1 in
    let e : near.2 ≡ 0 = signed_none near.0 near.2 (sym near.4 ∙ h.0) in
    let less = near.5 in
    absurd (omega (arith, e, less))

zero_is : (z : ℤ) → is_zero z ≡ true → z ≡ pos 0
zero_is (pos zero) e = refl
zero_is (pos (suc n)) e = cc
zero_is (negsuc n) e = cc

-- from no share of it, a lot has a life
life : (t : ℕ) (ds : List Deal) (s : Side) (us : List Share) → OneSide s us → AreDistinctAscendingDeals ds → count_of t us ≡ 0
    → IsLotHistory (changes_of_lot t ds us) (lot_quantity (fold shares_after_deal us ds) t)
life t [] s us one a z = sym (lot_counts s t us one ∙ ap (signed_by_side s) z ∙ none_signed s)
life t (d ∷ ds) s us one a z = let b = side_after s d us one in step b.0 b.1 (cases_eq d.trade t) (life t ds b.0 (shares_after_deal us d) b.1 a.1) where
  after : List Share
  after = shares_after_deal us d

  to : ℤ
  to = lot_quantity (fold shares_after_deal after ds) t

  rows : List Touch
  rows = changes_of_lot t ds after

  none : lot_quantity us t ≡ pos 0
  none = lot_counts s t us one ∙ ap (signed_by_side s) z ∙ none_signed s

  opened : (b : Bool) → changes_lot_quantity (touch_of_lot t d us) ≡ b → ShrinksTowardZero (lot_quantity after t) rows to
      → IsLotHistory (map touch_of_row (cond b (holding_history_row d.trade (touch_of_lot t d us) ∷ moved t ds after) (moved t ds after))) to
  opened true e fall = (none, fall)
  opened false e fall =
      let same : is_zero (lot_quantity us t -ℤ lot_quantity after t) ≡ true =
      elim (cases_Bool (is_zero (lot_quantity us t -ℤ lot_quantity after t))) [ inl y ↦ y | inr n ↦ let f : true ≡ false = sym (ap not n) ∙ e in cc ] in
      let d0 : lot_quantity us t -ℤ lot_quantity after t ≡ pos 0 = zero_is (lot_quantity us t -ℤ lot_quantity after t) same in
      let e0 : lot_quantity after t ≡ pos 0 = omega (arith, ints, d0, none) in
      from_none rows to (subst (λ y. ShrinksTowardZero y rows to) e0 fall)

  step : (r : Side) → OneSide r after → (d.trade ≡ t) ⊎ (d.trade ≡ t → ⊥) → (count_of t after ≡ 0 → IsLotHistory rows to) → IsLotHistory (changes_of_lot t (d ∷ ds) us) to
  step r side (inl own) rest =
      let others : AllByRecursion (λ e. e.trade ≢ t) ds = all_from (PrecedesDealOfOtherTrade d) (PrecedesDealOfOtherTrade d) (λ e. e.trade ≢ t) (λ e l m x. l.0 (own ∙ sym x)) ds a.0 a.0 in
      opened (changes_lot_quantity (touch_of_lot t d us)) refl (falls t ds r after side others)
  step r side (inr other) rest =
      let fewer = count_after t d us other in
      let zero_after : count_of t after ≡ 0 = omega (arith, fewer, z) in
      let no : changes_lot_quantity (touch_of_lot t d us) ≡ false =
      change_by t d s us one other ∙ ap (λ n. not (is_zero (signed_by_side s n -ℤ signed_by_side s (count_of t after)))) (z ∙ sym zero_after) ∙ ap not (differ_none s (count_of t after)) in
      subst (λ b. IsLotHistory (map touch_of_row (cond b (holding_history_row d.trade (touch_of_lot t d us) ∷ moved t ds after) (moved t ds after))) to) (sym no) (rest zero_after)

pub lots_live : (ds : List Deal) (t : ℕ) → AreDistinctAscendingDeals ds → IsLotHistory (changes_of_lot t ds []) (lot_quantity (replay ds) t)
lots_live ds t a = life t ds Buy [] tt a refl
