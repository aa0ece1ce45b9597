-- A walk that closes lots one after another, and one lot more.
use Rattle.std.proofs.Common.{◌≡◌, ℕ, ◌+◌, ◌*◌, ◌-◌, ◌<◌, min, eqb, true, false, cond, List, [], ◌∷◌, length, unsigned_abs, refl, sym, ap, ◌∙◌, arith}
use Rattle.std.proofs.lemmas.Bool.{ne_eqb}
use Rattle.brk_money.specs.Kinds.{is_same_side}
use Rattle.brk_money.specs.declared.side.Side.{Side}
use Rattle.brk_model.specs.Shares.{signed_by_side}
use Rattle.brk_lots.specs.declared.lot.Lot.{Lot}
use Rattle.brk_lots.specs.Lots.{side_of_qty, share_of_lot, shares_of_lots}
use Rattle.brk_lots.specs.Position.{IsPositionInAnyOrder}
use Rattle.brk_lots.specs.Walks.{touches_of_first_shares, cost_of_first_shares, closed_share_count}
use Rattle.brk_lots.proofs.Runs.{size_positive, length_run}

pub touches_none : (ls : List Lot) → touches_of_first_shares 0 ls ≡ []
touches_none [] = refl
touches_none (l ∷ ls) = refl

pub paid_none : (ls : List Lot) → cost_of_first_shares 0 ls ≡ 0
paid_none [] = refl
paid_none (l ∷ ls) =
    let a : 0 - unsigned_abs l.qty ≡ 0 = omega arith in
    let b : min 0 (unsigned_abs l.qty) ≡ 0 = omega arith in
    let c : 0 * l.price ≡ 0 = omega arith in rw (a, b, c, paid_none ls) (omega arith)

-- ---- what the lots meet

pub met_none : (side : Side) (ls : List Lot) → closed_share_count side 0 ls ≡ 0
met_none side [] = refl
met_none side (l ∷ ls) = elim (is_same_side (side_of_qty l.qty) side) as (λ b. cond b 0 (min 0 (length (shares_of_lots (l ∷ ls)))) ≡ 0) [ true ↦ refl | false ↦ omega arith ]

pub met_first : (side : Side) (q : ℕ) (l : Lot) (ls : List Lot)
    → closed_share_count side q (l ∷ ls) ≡ cond (is_same_side (side_of_qty l.qty) side) 0 (min q (unsigned_abs l.qty + length (shares_of_lots ls)))
met_first side q l ls = ap (λ n. cond (is_same_side (side_of_qty l.qty) side) 0 (min q n)) (length_run (unsigned_abs l.qty) (share_of_lot l) (shares_of_lots ls))

pub met_own : (side : Side) (q : ℕ) (l : Lot) (ls : List Lot) → is_same_side (side_of_qty l.qty) side ≡ true → closed_share_count side q (l ∷ ls) ≡ 0
met_own side q l ls e = ap (λ b. cond b 0 (min q (length (shares_of_lots (l ∷ ls))))) e

pub met_other : (side : Side) (q : ℕ) (l : Lot) (ls : List Lot) → is_same_side (side_of_qty l.qty) side ≡ false
    → closed_share_count side q (l ∷ ls) ≡ min q (unsigned_abs l.qty + length (shares_of_lots ls))
met_other side q l ls e = met_first side q l ls ∙ ap (λ b. cond b 0 (min q (unsigned_abs l.qty + length (shares_of_lots ls)))) e

-- beside a lot of the other side, all that is left is of the other side
pub met_rest : (side : Side) (q : ℕ) (l : Lot) (ls : List Lot) → IsPositionInAnyOrder (l ∷ ls) → is_same_side (side_of_qty l.qty) side ≡ false
    → closed_share_count side q ls ≡ min q (length (shares_of_lots ls))
met_rest side q l [] h e = omega arith
met_rest side q l (m ∷ ls) h e =
    let one : side_of_qty m.qty ≡ side_of_qty l.qty = h.1.0.0 in
    let other : is_same_side (side_of_qty m.qty) side ≡ false = rw one e in
    met_other side q m ls other ∙ ap (min q) (sym (length_run (unsigned_abs m.qty) (share_of_lot m) (shares_of_lots ls)))

-- ---- one lot more

pub met_more : (side : Side) (q : ℕ) (l : Lot) (ls : List Lot) → IsPositionInAnyOrder (l ∷ ls) → is_same_side (side_of_qty l.qty) side ≡ false
    → closed_share_count side q (l ∷ ls) ≡ min q (unsigned_abs l.qty) + closed_share_count side (q - min q (unsigned_abs l.qty)) ls
met_more side q l ls h e = omega (arith, met_other side q l ls e, met_rest side (q - min q (unsigned_abs l.qty)) l ls h e)

pub touches_more : (side : Side) (q : ℕ) (l : Lot) (ls : List Lot) → IsPositionInAnyOrder (l ∷ ls) → is_same_side (side_of_qty l.qty) side ≡ false → 0 < q
    → touches_of_first_shares (closed_share_count side q (l ∷ ls)) (l ∷ ls)
    ≡ record { lot = l.trade; before = l.qty; after = signed_by_side (side_of_qty l.qty) (unsigned_abs l.qty - min q (unsigned_abs l.qty)) }
    ∷ touches_of_first_shares (closed_share_count side (q - min q (unsigned_abs l.qty)) ls) ls
touches_more side q l ls h e p =
    let k = met_other side q l ls e in
    let r = met_rest side (q - min q (unsigned_abs l.qty)) l ls h e in
    let n = size_positive l.qty h.0 in
    let a : eqb (closed_share_count side q (l ∷ ls)) 0 ≡ false = ne_eqb _ _ (λ z. absurd (omega arith)) in
    let b : unsigned_abs l.qty - closed_share_count side q (l ∷ ls) ≡ unsigned_abs l.qty - min q (unsigned_abs l.qty) = omega arith in
    let d : closed_share_count side q (l ∷ ls) - unsigned_abs l.qty ≡ closed_share_count side (q - min q (unsigned_abs l.qty)) ls = omega arith in
    rw (a, b, d) refl

pub paid_more : (side : Side) (q : ℕ) (l : Lot) (ls : List Lot) → IsPositionInAnyOrder (l ∷ ls) → is_same_side (side_of_qty l.qty) side ≡ false
    → cost_of_first_shares (closed_share_count side q (l ∷ ls)) (l ∷ ls) ≡ min q (unsigned_abs l.qty) * l.price
    + cost_of_first_shares (closed_share_count side (q - min q (unsigned_abs l.qty)) ls) ls
paid_more side q l ls h e =
    let k = met_other side q l ls e in
    let r = met_rest side (q - min q (unsigned_abs l.qty)) l ls h e in
    let b : min (closed_share_count side q (l ∷ ls)) (unsigned_abs l.qty) ≡ min q (unsigned_abs l.qty) = omega arith in
    let d : closed_share_count side q (l ∷ ls) - unsigned_abs l.qty ≡ closed_share_count side (q - min q (unsigned_abs l.qty)) ls = omega arith in
    rw (b, d) refl
