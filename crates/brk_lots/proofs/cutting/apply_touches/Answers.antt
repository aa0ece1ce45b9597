use Rattle.std.proofs.Common.{rules, arith, ◌≡◌, ◌≢◌, ◌++◌, ◌+◌, ◌-◌, ◌<◌, ◌≤◌, ℕ, List, length, get_or, drop, take, w64, to_z, of_z, sym, ap, ◌∙◌, subst}
use Rattle.std.specs.Int.RustNames.{FitsSigned}
use Rattle.std.proofs.lemmas.Int.{to_z-of_z}
use Rattle.std.proofs.lemmas.List.{drop-append-le, drop-drop, drop-take, get_or-drop, get_or_default, length-drop, length-take}
use Rattle.brk_lots.specs.declared.lot.Lot.{Lot}
use Rattle.brk_lots.specs.declared.lot.Touch.{Touch}
use Rattle.brk_lots.specs.Lots.{list_reversed_if_lifo}
use Rattle.brk_lots.specs.Walks.{touches_of_first_shares, lot_with_nonzero_quantity}
use Rattle.brk_lots.proofs.Cuts.{rows_fit_end, left_front, left_back, left_whole}
use Rattle.brk_lots.proofs.cutting.apply_touches.Goals as goal

-- there are no more rows than lots
fits : (all : List Lot) (first : ℕ) (rows : List Touch) → (lifo : _) (k : _) → rows ≡ touches_of_first_shares k (list_reversed_if_lifo lifo (drop first all)) → length rows ≤ length all - first
fits all first rows lifo k e = let h = subst (λ (rs : List Touch). length rs ≤ length (drop first all)) (sym e) (rows_fit_end lifo k (drop first all)) in omega (arith, h, length-drop first all)

-- the lot at a place, whichever stands in for it elsewhere
place : (all : List Lot) (i : ℕ) (f : Lot) → i < length all → get_or all i f ≡ get_or all i (get_or all i f)
place all i f h = get_or_default all i f (get_or all i f) h

-- the same of the lots from an index on
inside : (all : List Lot) (first i j : ℕ) (f : Lot) → i < length all → first + j ≡ i → get_or all i f ≡ get_or (drop first all) j (get_or all i f)
inside all first i j f h e = place all i f h ∙ ap (λ n. get_or all n (get_or all i f)) (sym e) ∙ sym (get_or-drop first all j (get_or all i f))

-- the quantity of a row, as the code passes it on
passed : (rows : List Touch) (i : ℕ) (t : Touch) → FitsSigned w64 t.after → t ≡ get_or rows i t → to_z w64 (of_z w64 (get_or rows i t).after) ≡ t.after
passed rows i t f e = ap (λ (s : Touch). to_z w64 (of_z w64 s.after)) (sym e) ∙ to_z-of_z w64 t.after f

-- lots before those that the last row cuts off, behind an index
front_kept : (all left : List Lot) (first i m : ℕ) → first + m ≡ i → i ≤ length all → drop first (take i all ++ left) ≡ take m (drop first all) ++ left
front_kept all left first i m e h =
    drop-append-le first (take i all) left (omega (arith, length-take i all)) ∙ ap (λ n. drop first (take n all) ++ left) (sym e) ∙ ap (λ (ls : List Lot). ls ++ left) (drop-take first m all)

pub returns-then-count-eq0-clause-left : goal.returns-then-count-eq0-clause-left
returns-then-count-eq0-clause-left c =
    let r = c.requires.rows in
    sym (left_whole r.0 r.1 (drop c.args.first c.args.lots.now.items) c.requires.walk c.args.touched.now r.2 c.if-count-eq0.true)

pub close_front-requires : goal.close_front-requires
close_front-requires c =
    let r = c.requires.rows in
    let h = fits c.args.lots.now.items c.args.first c.args.touched.now r.0 r.1 r.2 in
    let some : 0 < length c.args.touched.now = omega (arith, c.if-count-eq0.false) in
    omega (arith, h, some)

pub returns-then-eq-clause-left : goal.returns-then-eq-clause-left
returns-then-eq-clause-left c =
    let all = c.args.lots.now.items in
    let rows = c.args.touched.now in
    let r = c.requires.rows in
    let first = c.args.first in
    let f : Lot = c.index.result.now in
    let h = fits all first rows r.0 r.1 r.2 in
    let some : 0 < length rows = omega (arith, c.if-count-eq0.false) in
    let at : first + length rows - 1 < length all = omega (arith, h, some) in
    let l : Lot = get_or all (first + length rows - 1) f in
    let same : c.index-touched-0.result.lot ≡ f.trade = search rules in
    let f0 : f ≡ get_or (drop first all) 0 f = c.index.ensures ∙ ap (λ n. get_or all n f) (omega arith) ∙ sym (get_or-drop first all 0 f) in
    let next : first + length rows - 1 + 1 ≡ first + length rows = omega (arith, some) in
    let fit : FitsSigned w64 c.index-touched-count.result.after = search rules in
    let q = passed rows (length rows - 1) c.index-touched-count.result fit c.index-touched-count.is in
    c.close_front.ensures.left l (place all (first + length rows - 1) f at)
    ∙ ap (λ z. lot_with_nonzero_quantity z l ++ drop (first + length rows - 1 + 1) all) q
    ∙ ap (λ (n : ℕ). lot_with_nonzero_quantity c.index-touched-count.result.after l ++ drop n all) next
    ∙ ap (λ (ls : List Lot). lot_with_nonzero_quantity c.index-touched-count.result.after l ++ ls) (sym (drop-drop (length rows) first all))
    ∙ sym (left_front r.0 r.1 (drop first all) c.requires.walk rows r.2 some c.index-touched-0.result f c.index-touched-0.is f0 same
    c.index-touched-count.result l c.index-touched-count.is (inside all first (first + length rows - 1) (length rows - 1) f at (omega (arith, some))))

pub overflow_sub-last : goal.overflow_sub-last
overflow_sub-last c =
    let r = c.requires.rows in
    let h = fits c.args.lots.now.items c.args.first c.args.touched.now r.0 r.1 r.2 in
    omega (arith, h, c.len.ensures)

pub returns-clause-left : goal.returns-clause-left
returns-clause-left c =
    let all = c.args.lots.now.items in
    let rows = c.args.touched.now in
    let r = c.requires.rows in
    let first = c.args.first in
    let f : Lot = c.index.result.now in
    let h = fits all first rows r.0 r.1 r.2 in
    let some : 0 < length rows = omega (arith, c.if-count-eq0.false) in
    let n : c.len.result ≡ length all = omega (arith, c.len.ensures) in
    let i = c.len.result - length rows in
    let at : i < length all = omega (arith, h, some, n) in
    let l : Lot = get_or all i f in
    let other : c.index-touched-0.result.lot ≢ f.trade = search rules in
    let f0 : f ≡ get_or (drop first all) 0 f = c.index.ensures ∙ ap (λ n. get_or all n f) (omega arith) ∙ sym (get_or-drop first all 0 f) in
    let m : ℕ = length (drop first all) - length rows in
    let back : first + m ≡ i = omega (arith, h, n, length-drop first all) in
    let fit : FitsSigned w64 c.index-touched-count.result.after = search rules in
    let q = passed rows (length rows - 1) c.index-touched-count.result fit c.index-touched-count.is in
    ap (drop first) (c.remove_back.ensures.left l (place all i f at) ∙ ap (λ z. take i all ++ lot_with_nonzero_quantity z l) q)
    ∙ front_kept all (lot_with_nonzero_quantity c.index-touched-count.result.after l) first i m back (omega (arith, at))
    ∙ sym (left_back r.0 r.1 (drop first all) c.requires.walk rows r.2 some c.index-touched-0.result f c.index-touched-0.is f0 other
    c.index-touched-count.result l c.index-touched-count.is (inside all first i m f at back))

pub returns-clause-begins : goal.returns-clause-begins
returns-clause-begins c =
    let r = c.requires.rows in
    let h = fits c.args.lots.now.items c.args.first c.args.touched.now r.0 r.1 r.2 in
    omega (arith, h, c.len.ensures, c.remove_back.ensures.within)
