use Rattle.std.proofs.Common.{rules, arith, ◌≡◌, ◌≢◌, ◌++◌, ◌+◌, ◌<◌, ℕ, ℤ, pos, List, [], ◌∷◌, length, get_or, set, take, w64, to_z, of_z, refl, sym, ap, ◌∙◌}
use Rattle.std.specs.Int.RustNames.{FitsSigned}
use Rattle.std.proofs.Math.Seq.{take-set-lt}
use Rattle.std.proofs.lemmas.Int.{to_z-of_z}
use Rattle.std.proofs.lemmas.List.{get_or-take, get_or_default, take_more_set}
use Rattle.brk_lots.specs.declared.lot.Lot.{Lot}
use Rattle.brk_lots.specs.Walks.{lot_with_nonzero_quantity}
use Rattle.brk_lots.proofs.Left.{int_differ}
use Rattle.brk_lots.proofs.cutting.remove_back.Goals as goal

-- a lot is left with another quantity
with_qty : (q z : ℤ) (r l : Lot) → q ≢ pos 0 → z ≡ q → r ≡ l → record { trade = r.trade; price = r.price; qty = z; stamp = r.stamp } ∷ [] ≡ lot_with_nonzero_quantity q l
with_qty q z r l n e s =
    ap (λ (m : Lot). record { trade = m.trade; price = m.price; qty = z; stamp = m.stamp } ∷ []) s
    ∙ ap (λ y. record { trade = l.trade; price = l.price; qty = y; stamp = l.stamp } ∷ []) e ∙ rw (int_differ q (pos 0) n) refl

-- what is written at the end of a cut list
written : (xs ys : List Lot) (i : ℕ) (y : Lot) → i < length xs → ys ≡ take (i + 1) xs → set ys i y ≡ take i xs ++ y ∷ []
written xs ys i y h e = ap (λ (zs : List Lot). set zs i y) e ∙ sym (take-set-lt (i + 1) xs i y (omega arith)) ∙ take_more_set xs i y h

read : (xs ys : List Lot) (i : ℕ) (r l : Lot) → i < length xs → ys ≡ take (i + 1) xs → r ≡ get_or ys i r → l ≡ get_or xs i l → r ≡ l
read xs ys i r l h e p q = p ∙ ap (λ (zs : List Lot). get_or zs i r) e ∙ get_or-take (i + 1) xs i r (omega arith) ∙ get_or_default xs i r l h ∙ sym q

pub returns-clause-left : goal.returns-clause-left
returns-clause-left c lot e =
    let xs = c.args.lots.now.items in
    let i = c.args.last in
    let r = c.index_mut.result.now in
    let fits : FitsSigned w64 c.args.qty = search rules in
    let q : to_z w64 (of_z w64 c.args.qty) ≡ c.args.qty = to_z-of_z w64 c.args.qty fits in
    let n : c.args.qty ≢ pos 0 = search rules in
    let h : i < length xs = omega arith in
    let same : r ≡ lot = read xs c.truncate-2.new.self.items i r lot h c.truncate-2.ensures.items c.index_mut.ensures.value e in
    written xs c.truncate-2.new.self.items i _ h c.truncate-2.ensures.items ∙ ap (λ (ys : List Lot). take i xs ++ ys) (with_qty c.args.qty _ r lot n q same)
