-- The touched lots and the opened one are all of a deal's holding history.
use Rattle.std.proofs.Common.{◌≡◌, ◌≢◌, ℕ, zero, suc, pos, ◌-ℤ◌, ◌+◌, ◌-◌, ◌<◌, eqb, Bool, true, false, not, cond, List, [], ◌∷◌, ◌++◌, map, replicate, refl, sym, ap, ◌∙◌, arith, inl, inr}
use Rattle.std.specs.List.{filter, AllByRecursion}
use Rattle.std.proofs.lemmas.Bool.{eq-eqb, ne_eqb, cases_eq}
use Rattle.std.proofs.lemmas.List.{map-append}
use Rattle.std.proofs.lemmas.List.Elements.{filter-append}
use Rattle.std.proofs.lemmas.List.Sums.{sum_by-cons}
use Rattle.brk_money.specs.declared.side.Side.{Side}
use Rattle.brk_money.specs.declared.side.Side.TheVariants.{Buy, Sell}
use Rattle.brk_model.specs.Lists.{is_zero, total_by}
use Rattle.brk_model.specs.Shares as model
use Rattle.brk_model.specs.Shares.{Share, Deal, signed_by_side, net_share_count, first_shares_of_lots, lots_of_shares, lot_quantity, shares_opened_by_trade}
use Rattle.brk_model.specs.Shares.{lot_touches_of_deal, touches_of_existing_lots, touch_of_lot_with_share, changes_lot_quantity, opened_share, opened_shares}
use Rattle.brk_model.specs.Shares.{closed_share_count_of_deal, shares_after_deal}
use Rattle.brk_lots.specs.Chains.{opening_touch}
use Rattle.brk_lots.proofs.Runs.{count_of, without, shares_run_own}
use Rattle.brk_lots.proofs.Changes.{all_from, all_firsts, other_than, firsts_alike, count_alike}
use Rattle.brk_lots.proofs.Counts.{lot_counts, all_run, differ}
use Rattle.brk_lots.proofs.Deals.{all_without}
use Rattle.brk_lots.proofs.Plain.{after_is, lots_alike, lots_some}

-- True if no share of `us` was opened by the trade of the share `v`.
abbrev new_to : List Share → Share → Bool
new_to us v = eqb (count_of v.trade us) 0

new_to_more : (u : Share) (us : List Share) (v : Share) → new_to (u ∷ us) v ≡ cond (other_than u.trade v) (new_to us v) false
new_to_more u us v = elim (cases_eq v.trade u.trade) [
  | inl e ↦ rw (sum_by-cons (λ (w : Share). cond (eqb w.trade v.trade) 1 0) u us, eq-eqb u.trade v.trade (sym e), eq-eqb v.trade u.trade e) (ne_eqb _ _ (λ z. absurd (omega arith)))
  | inr n ↦ rw (sum_by-cons (λ (w : Share). cond (eqb w.trade v.trade) 1 0) u us, ne_eqb u.trade v.trade (λ z. n (sym z)), ne_eqb v.trade u.trade n) (ap (λ m. eqb m 0) (omega arith))
]

filter_both : (p q r : Share → Bool) → ((v : Share) → r v ≡ cond (p v) (q v) false) → (us : List Share) → filter p (filter q us) ≡ filter r us
filter_both p q r h [] = refl
filter_both p q r h (u ∷ us) = rw (h u) (step (p u) (q u) refl refl (filter_both p q r h us)) where
  step : (a b : Bool) → p u ≡ a → q u ≡ b → filter p (filter q us) ≡ filter r us → filter p (cond b (u ∷ filter q us) (filter q us)) ≡ cond (cond a b false) (u ∷ filter r us) (filter r us)
  step true true e f g = rw e (ap (λ (vs : List Share). u ∷ vs) g)
  step true false e f g = g
  step false true e f g = rw e g
  step false false e f g = g

firsts_join : (us vs : List Share) → first_shares_of_lots (us ++ vs) ≡ first_shares_of_lots us ++ filter (new_to us) (first_shares_of_lots vs)
firsts_join [] vs = sym (all_pass (first_shares_of_lots vs)) where
  all_pass : (ws : List Share) → filter (new_to []) ws ≡ ws
  all_pass [] = refl
  all_pass (w ∷ ws) = ap (λ (xs : List Share). w ∷ xs) (all_pass ws)
firsts_join (u ∷ us) vs =
    ap (λ (ws : List Share). u ∷ filter (other_than u.trade) ws) (firsts_join us vs)
    ∙ ap (λ (ws : List Share). u ∷ ws) (filter-append (other_than u.trade) (first_shares_of_lots us) (filter (new_to us) (first_shares_of_lots vs))
    ∙ ap (λ (ws : List Share). filter (other_than u.trade) (first_shares_of_lots us) ++ ws)
    (filter_both (other_than u.trade) (new_to us) (new_to (u ∷ us)) (new_to_more u us) (first_shares_of_lots vs)))

none_pass : (p : Share → Bool) (us : List Share) → AllByRecursion (λ v. p v ≡ false) us → filter p us ≡ []
none_pass p [] h = refl
none_pass p (u ∷ us) h = rw h.0 (none_pass p us h.1)

-- each share is one of its list
known_more : (u : Share) (us : List Share) (v : Share) → 0 < count_of v.trade us → 0 < count_of v.trade (u ∷ us)
known_more u us v h = omega (arith, sum_by-cons (λ (w : Share). cond (eqb w.trade v.trade) 1 0) u us, h)

known : (us : List Share) → AllByRecursion (λ v. 0 < count_of v.trade us) us
known [] = tt
known (u ∷ us) =
    let one : count_of u.trade (u ∷ us) ≡ 1 + count_of u.trade us = shares_run_own 1 u us in
    (omega (arith, one), all_from (λ v. 0 < count_of v.trade us) (λ v. 0 < count_of v.trade us) (λ v. 0 < count_of v.trade (u ∷ us)) (λ v h k. known_more u us v h) us (known us) (known us))

-- No share of `us` was opened by the trade `t`.
abbrev Without : ℕ → List Share → Type 0
Without t us = AllByRecursion (λ v. v.trade ≢ t) us

count_none : (t : ℕ) (us : List Share) → Without t us → count_of t us ≡ 0
count_none t [] h = refl
count_none t (u ∷ us) h = sum_by-cons (λ (w : Share). cond (eqb w.trade t) 1 0) u us ∙ rw (ne_eqb u.trade t h.0) (omega (arith, count_none t us h.1))

opened_none : (t : ℕ) (us : List Share) → Without t us → shares_opened_by_trade t us ≡ []
opened_none t [] h = refl
opened_none t (u ∷ us) h = rw (ne_eqb u.trade t h.0) (opened_none t us h.1)

-- the first shares of those before and after: those before, and the one that is new
firsts_after : (us kept : List Share) (r : ℕ) (u : Share) → Without u.trade us → Without u.trade kept → AllByRecursion (λ v. new_to us v ≡ false) kept
    → first_shares_of_lots (us ++ (kept ++ replicate r u)) ≡ first_shares_of_lots us ++ first_shares_of_lots (replicate r u)
firsts_after us kept r u fresh left old =
    let none : filter (new_to us) (first_shares_of_lots kept) ≡ [] = none_pass (new_to us) (first_shares_of_lots kept) (all_firsts (λ v. new_to us v ≡ false) kept old) in
    firsts_join us (kept ++ replicate r u)
    ∙ ap (λ (vs : List Share). first_shares_of_lots us ++ filter (new_to us) vs) (firsts_join kept (replicate r u))
    ∙ ap (λ (vs : List Share). first_shares_of_lots us ++ vs) (filter-append (new_to us) (first_shares_of_lots kept) (filter (new_to kept) (first_shares_of_lots (replicate r u)))
    ∙ ap (λ (vs : List Share). vs ++ filter (new_to us) (filter (new_to kept) (first_shares_of_lots (replicate r u)))) none ∙ last r) where
      last : (r : ℕ) → filter (new_to us) (filter (new_to kept) (first_shares_of_lots (replicate r u))) ≡ first_shares_of_lots (replicate r u)
      last zero = refl
      last (suc n) =
          let f : first_shares_of_lots (replicate (suc n) u) ≡ u ∷ [] = firsts_alike n u in
          let one : filter (new_to us) (filter (new_to kept) (u ∷ [])) ≡ u ∷ [] = rw (count_none u.trade kept left, count_none u.trade us fresh) refl in
          ap (λ (vs : List Share). filter (new_to us) (filter (new_to kept) vs)) f ∙ one ∙ sym f

-- a deal opens its lot with what it does not close
pub opened_qty : (d : Deal) (us : List Share) → Without d.trade us → lot_quantity (shares_after_deal us d) d.trade ≡ signed_by_side d.side (d.qty - closed_share_count_of_deal d us)
unfolding total_by
opened_qty d us fresh =
    let u = opened_share d in
    let n = d.qty - closed_share_count_of_deal d us in
    let kept = without d.is_lifo (closed_share_count_of_deal d us) us in
    let left : shares_opened_by_trade d.trade kept ≡ [] = opened_none d.trade kept (all_without (λ v. v.trade ≢ d.trade) d.is_lifo (closed_share_count_of_deal d us) us fresh) in
    ap (λ (vs : List Share). lot_quantity vs d.trade) (after_is d us)
    ∙ ap net_share_count (filter-append (λ (v : Share). eqb v.trade d.trade) kept (replicate n u) ∙ ap (λ (vs : List Share). vs ++ shares_opened_by_trade d.trade (replicate n u)) left)
    ∙ lot_counts d.side d.trade (replicate n u) (all_run (λ v. v.side ≡ d.side) n u refl) ∙ ap (signed_by_side d.side) (count_alike n u)

-- what the deal opens
opened_row : (d : Deal) (us : List Share) → Without d.trade us → (n : ℕ) → d.qty - closed_share_count_of_deal d us ≡ n
    → filter changes_lot_quantity (map (touch_of_lot_with_share d us) (first_shares_of_lots (replicate n (opened_share d)))) ≡ map opening_touch (lots_of_shares (replicate n (opened_share d)))
unfolding total_by
opened_row d us fresh zero z = ap (map opening_touch) (sym (lots_alike 0 (opened_share d)))
opened_row d us fresh (suc n) z =
    let u = opened_share d in
    let before : lot_quantity us d.trade ≡ pos 0 = ap net_share_count (opened_none d.trade us fresh) in
    let after : lot_quantity (shares_after_deal us d) d.trade ≡ signed_by_side d.side (suc n) = opened_qty d us fresh ∙ ap (signed_by_side d.side) z in
    let touch : touch_of_lot_with_share d us u ≡ record { lot = d.trade; before = pos 0; after = signed_by_side d.side (suc n) } = rw (before, after) refl in
    let changes : changes_lot_quantity (record { lot = d.trade; before = pos 0; after = signed_by_side d.side (suc n) }) ≡ true = opens d.side in
    ap (λ (vs : List Share). filter changes_lot_quantity (map (touch_of_lot_with_share d us) vs)) (firsts_alike n u)
    ∙ ap (λ (t : model.Touch). filter changes_lot_quantity (t ∷ [])) touch
    ∙ ap (λ (b : Bool). cond {A = List model.Touch} b (record { lot = d.trade; before = pos 0; after = signed_by_side d.side (suc n) } ∷ []) []) changes
    ∙ ap (map opening_touch) (sym (lots_some (suc n) u (omega arith))) where
      opens : (s : Side) → not (is_zero (pos 0 -ℤ signed_by_side s (suc n))) ≡ true
      opens Buy = ap not (differ Buy 0 (suc n) (λ e. absurd (omega (arith, e))))
      opens Sell = ap not (differ Sell 0 (suc n) (λ e. absurd (omega (arith, e))))

pub history_rows : (d : Deal) (us : List Share) → Without d.trade us → lot_touches_of_deal d us ≡ touches_of_existing_lots d us ++ map opening_touch (lots_of_shares (opened_shares d us))
unfolding lot_touches_of_deal touches_of_existing_lots
history_rows d us fresh =
    let k = closed_share_count_of_deal d us in
    let kept = without d.is_lifo k us in
    let u = opened_share d in
    let old : AllByRecursion (λ v. new_to us v ≡ false) us =
    all_from (λ v. 0 < count_of v.trade us) (λ v. 0 < count_of v.trade us) (λ v. new_to us v ≡ false)
    (λ v h g. ne_eqb (count_of v.trade us) 0 (λ z. absurd (omega (arith, z, h)))) us (known us) (known us) in
    ap (λ (vs : List Share). filter changes_lot_quantity (map (touch_of_lot_with_share d us) (first_shares_of_lots (us ++ vs)))) (after_is d us)
    ∙ ap (λ (vs : List Share). filter changes_lot_quantity (map (touch_of_lot_with_share d us) vs))
    (firsts_after us kept (d.qty - k) u fresh (all_without (λ v. v.trade ≢ d.trade) d.is_lifo k us fresh) (all_without (λ v. new_to us v ≡ false) d.is_lifo k us old))
    ∙ ap (filter changes_lot_quantity) (map-append (touch_of_lot_with_share d us) (first_shares_of_lots us) (first_shares_of_lots (replicate (d.qty - k) u)))
    ∙ filter-append changes_lot_quantity (map (touch_of_lot_with_share d us) (first_shares_of_lots us)) (map (touch_of_lot_with_share d us) (first_shares_of_lots (replicate (d.qty - k) u)))
    ∙ ap (λ (ts : List model.Touch). filter changes_lot_quantity (map (touch_of_lot_with_share d us) (first_shares_of_lots us)) ++ ts) (opened_row d us fresh (d.qty - k) refl)
