-- The rows of a closing remove lots from one end, and reduce at most one other lot.
use Rattle.std.proofs.Common.{◌≡◌, ◌≢◌, ℕ, zero, suc, ℤ, pos, ◌-◌, ◌≤◌, ◌<◌, eqb, Bool, true, false, cond, List, [], ◌∷◌, ◌++◌, length, get_or, take, drop}
use Rattle.std.proofs.Common.{reverse, unsigned_abs, refl, sym, ap, ◌∙◌, subst, arith}
use Rattle.std.specs.List.{AllByRecursion}
use Rattle.std.specs.Ordering.{int_eq}
use Rattle.std.proofs.lemmas.Bool.{ne_eqb}
use Rattle.std.proofs.lemmas.List.{length-reverse, reverse-append, reverse-reverse, get_or-reverse}
use Rattle.brk_model.specs.Shares.{signed_by_side}
use Rattle.brk_lots.specs.declared.lot.Lot.{Lot}
use Rattle.brk_lots.specs.declared.lot.Touch.{Touch}
use Rattle.brk_lots.specs.Lots.{side_of_qty, list_reversed_if_lifo}
use Rattle.brk_lots.specs.Position.{HasSameSideAndOtherTrade, IsPositionInAnyOrder}
use Rattle.brk_lots.specs.Walks.{touches_of_first_shares, lots_after_touches, lot_with_nonzero_quantity}
use Rattle.brk_lots.proofs.Runs.{size_positive, signed_back}
use Rattle.brk_lots.proofs.Ends.{reverse_first, drop_reverse, all_reverse, walk_reverse, walk_end}
use Rattle.brk_lots.proofs.Left.{kept, with_shares, smaller_with, left_kept, left_end}

pub rows_fit : (k : ℕ) (ls : List Lot) → length (touches_of_first_shares k ls) ≤ length ls
rows_fit k [] = omega arith
rows_fit k (l ∷ ls) = at (eqb k 0) (rows_fit (k - unsigned_abs l.qty) ls) where
  at : (b : Bool) → length (touches_of_first_shares (k - unsigned_abs l.qty) ls) ≤ length ls
      → length (cond {A = List Touch} b []
      (record { lot = l.trade; before = l.qty; after = signed_by_side (side_of_qty l.qty) (unsigned_abs l.qty - k) }
      ∷ touches_of_first_shares (k - unsigned_abs l.qty) ls)) ≤ suc (length ls)
  at true h = omega arith
  at false h = omega arith

pub rows_fit_end : (lifo : Bool) (k : ℕ) (ls : List Lot) → length (touches_of_first_shares k (list_reversed_if_lifo lifo ls)) ≤ length ls
rows_fit_end true k ls = omega (arith, rows_fit k (reverse ls), length-reverse ls)
rows_fit_end false k ls = rows_fit k ls

-- where nothing is taken, all is kept
kept_all : (ls : List Lot) → IsPositionInAnyOrder ls → kept 0 ls ≡ ls
kept_all [] w = refl
kept_all (l ∷ ls) w =
    let a : unsigned_abs l.qty - 0 ≡ unsigned_abs l.qty = omega arith in
    let b : 0 - unsigned_abs l.qty ≡ 0 = omega arith in
    rw (a, b, kept_all ls w.2) (whole (unsigned_abs l.qty) (size_positive l.qty w.0) refl) where
      whole : (n : ℕ) → 0 < n → n ≡ unsigned_abs l.qty → with_shares n l ++ ls ≡ l ∷ ls
      whole zero p e = absurd (omega arith)
      whole (suc n) p e =
          let q : signed_by_side (side_of_qty l.qty) (suc n) ≡ l.qty = ap (signed_by_side (side_of_qty l.qty)) e ∙ signed_back l.qty in
          rw q refl

-- where there are no rows, nothing was taken
none_taken : (k : ℕ) (ls : List Lot) → IsPositionInAnyOrder ls → length (touches_of_first_shares k ls) ≡ 0 → kept k ls ≡ ls
none_taken k [] w e = refl
none_taken zero (l ∷ ls) w e = kept_all (l ∷ ls) w
none_taken (suc k) (l ∷ ls) w e =
    let more : eqb (suc k) 0 ≡ false = ne_eqb (suc k) 0 (λ z. absurd (omega arith)) in
    let h : suc (length (touches_of_first_shares (suc k - unsigned_abs l.qty) ls)) ≡ 0 = rw more at e in
    absurd (omega (arith, h))

-- the last of the lots that the rows cut off is left with what its row says
cut : (k : ℕ) (ls : List Lot) → IsPositionInAnyOrder ls → (t : Touch) (l : Lot) → 0 < length (touches_of_first_shares k ls)
    → t ≡ get_or (touches_of_first_shares k ls) (length (touches_of_first_shares k ls) - 1) t → l ≡ get_or ls (length (touches_of_first_shares k ls) - 1) l
    → kept k ls ≡ lot_with_nonzero_quantity t.after l ++ drop (length (touches_of_first_shares k ls)) ls
cut k [] w t l p e f = absurd (omega (arith, p))
cut zero (m ∷ ls) w t l p e f = absurd (omega (arith, p))
cut (suc k) (m ∷ ls) w t l p e f = at (length (touches_of_first_shares (suc k - unsigned_abs m.qty) ls)) refl (cut (suc k - unsigned_abs m.qty) ls w.2 t l) where
  n : ℕ
  n = unsigned_abs m.qty

  later : List Touch
  later = touches_of_first_shares (suc k - n) ls

  row : Touch
  row = record { lot = m.trade; before = m.qty; after = signed_by_side (side_of_qty m.qty) (n - suc k) }

  more : eqb (suc k) 0 ≡ false
  more = ne_eqb (suc k) 0 (λ z. absurd (omega arith))

  rows : touches_of_first_shares (suc k) (m ∷ ls) ≡ row ∷ later
  rows = rw more refl

  e' : t ≡ get_or (row ∷ later) (suc (length later) - 1) t
  e' = rw rows at e

  f' : l ≡ get_or (m ∷ ls) (suc (length later) - 1) l
  f' = rw rows at f

  at : (j : ℕ) → length later ≡ j
      → (0 < length later → t ≡ get_or later (length later - 1) t → l ≡ get_or ls (length later - 1) l
      → kept (suc k - n) ls ≡ lot_with_nonzero_quantity t.after l ++ drop (length later) ls) → kept (suc k) (m ∷ ls) ≡ lot_with_nonzero_quantity t.after l
      ++ drop (length (touches_of_first_shares (suc k) (m ∷ ls))) (m ∷ ls)
  at zero z rec =
      let i : suc (length later) - 1 ≡ 0 = omega (arith, z) in
      let t0 : t ≡ row = rw i at e' in
      let l0 : l ≡ m = rw i at f' in
      let rest : kept (suc k - n) ls ≡ ls = none_taken (suc k - n) ls w.2 z in
      let cut_off : drop (length (touches_of_first_shares (suc k) (m ∷ ls))) (m ∷ ls) ≡ ls = ap (λ (ts : List Touch). drop (length ts) (m ∷ ls)) rows ∙ ap (λ i. drop (suc i) (m ∷ ls)) z in
      ap (λ (ms : List Lot). with_shares (n - suc k) m ++ ms) rest
      ∙ ap (λ (ms : List Lot). ms ++ ls) (sym (smaller_with m (n - suc k)))
      ∙ ap (λ (s : Touch). lot_with_nonzero_quantity s.after m ++ ls) (sym t0)
      ∙ ap (λ (x : Lot). lot_with_nonzero_quantity t.after x ++ ls) (sym l0)
      ∙ ap (λ (ms : List Lot). lot_with_nonzero_quantity t.after l ++ ms) (sym cut_off)
  at (suc j) z rec =
      let i : suc (length later) - 1 ≡ suc (length later - 1) = omega (arith, z) in
      let t0 : t ≡ get_or later (length later - 1) t = rw i at e' in
      let l0 : l ≡ get_or ls (length later - 1) l = rw i at f' in
      let rest : kept (suc k - n) ls ≡ lot_with_nonzero_quantity t.after l ++ drop (length later) ls = rec (omega (arith, z)) t0 l0 in
      let whole : n ≤ suc k = some_later (suc k) n ls (omega (arith, z)) in
      let gone : n - suc k ≡ 0 = omega (arith, whole) in
      let cut_off : drop (length (touches_of_first_shares (suc k) (m ∷ ls))) (m ∷ ls) ≡ drop (length later) ls = ap (λ (ts : List Touch). drop (length ts) (m ∷ ls)) rows in
      ap (λ x. with_shares x m ++ kept (suc k - n) ls) gone ∙ rest ∙ ap (λ (ms : List Lot). lot_with_nonzero_quantity t.after l ++ ms) (sym cut_off) where
        some_later : (k n : ℕ) (ls : List Lot) → 0 < length (touches_of_first_shares (k - n) ls) → n ≤ k
        some_later k n [] p = absurd (omega (arith, p))
        some_later k n (l ∷ ls) p = nonzero (k - n) refl p where
          nonzero : (i : ℕ) → k - n ≡ i → 0 < length (touches_of_first_shares i (l ∷ ls)) → n ≤ k
          nonzero zero e p = absurd (omega (arith, p))
          nonzero (suc i) e p = omega (arith, e)

-- ---- from either end

-- from the front
cut_front : (k : ℕ) (ls : List Lot) → IsPositionInAnyOrder ls → (ts : List Touch) → ts ≡ touches_of_first_shares k ls → 0 < length ts → (t : Touch) (l : Lot)
    → t ≡ get_or ts (length ts - 1) t → l ≡ get_or ls (length ts - 1) l
    → lots_after_touches ts ls ≡ lot_with_nonzero_quantity t.after l ++ drop (length ts) ls
cut_front k ls w ts e p t l te le =
    let t0 : t ≡ get_or (touches_of_first_shares k ls) (length (touches_of_first_shares k ls) - 1) t = subst (λ (rs : List Touch). t ≡ get_or rs (length rs - 1) t) e te in
    let l0 : l ≡ get_or ls (length (touches_of_first_shares k ls) - 1) l = subst (λ (rs : List Touch). l ≡ get_or ls (length rs - 1) l) e le in
    ap (λ (rs : List Touch). lots_after_touches rs ls) e ∙ left_kept k ls w
    ∙ cut k ls w t l (subst (λ (rs : List Touch). 0 < length rs) e p) t0 l0
    ∙ ap (λ (rs : List Touch). lot_with_nonzero_quantity t.after l ++ drop (length rs) ls) (sym e)

smaller_reverse : (q : ℤ) (l : Lot) → reverse (lot_with_nonzero_quantity q l) ≡ lot_with_nonzero_quantity q l
smaller_reverse q l = at (int_eq q (pos 0)) where
  at : (b : Bool) → reverse (cond {A = List Lot} b [] (record { trade = l.trade; price = l.price; qty = q; stamp = l.stamp } ∷ []))
      ≡ cond {A = List Lot} b [] (record { trade = l.trade; price = l.price; qty = q; stamp = l.stamp } ∷ [])
  at true = refl
  at false = refl

-- from the back
cut_back : (k : ℕ) (ls : List Lot) → IsPositionInAnyOrder ls → (ts : List Touch) → ts ≡ touches_of_first_shares k (reverse ls) → 0 < length ts
    → (t : Touch) (l : Lot) → t ≡ get_or ts (length ts - 1) t → l ≡ get_or ls (length ls - length ts) l
    → lots_after_touches ts ls ≡ take (length ls - length ts) ls ++ lot_with_nonzero_quantity t.after l
cut_back k ls w ts e p t l te le =
    let walk = reverse ls in
    let n : length walk ≡ length ls = length-reverse ls in
    let fit : length ts ≤ length ls = subst (λ (rs : List Touch). length rs ≤ length ls) (sym e) (rows_fit_end true k ls) in
    let i : length ls - 1 - (length ts - 1) ≡ length ls - length ts = omega (arith, p, fit) in
    let l0 : l ≡ get_or walk (length ts - 1) l = le ∙ ap (λ j. get_or ls j l) (sym i) ∙ sym (get_or-reverse ls (length ts - 1) l (omega (arith, p, fit))) in
    let front : lots_after_touches ts walk ≡ lot_with_nonzero_quantity t.after l ++ drop (length ts) walk = cut_front k walk (walk_reverse ls w) ts e p t l te l0 in
    left_end true ts ls ∙ ap reverse front ∙ reverse-append (lot_with_nonzero_quantity t.after l) (drop (length ts) walk)
    ∙ ap (λ (ms : List Lot). ms ++ reverse (lot_with_nonzero_quantity t.after l)) (drop_reverse (length ts) walk ∙ rw (n, reverse-reverse ls) refl)
    ∙ ap (λ (ms : List Lot). take (length ls - length ts) ls ++ ms) (smaller_reverse t.after l)

-- where the oldest lot is also the newest there is no other
only_one : (ls : List Lot) → IsPositionInAnyOrder ls → (f : Lot) → 0 < length ls → (get_or (reverse ls) 0 f).trade ≡ (get_or ls 0 f).trade → reverse ls ≡ ls
only_one [] w f p e = refl
only_one (l ∷ []) w f p e = refl
only_one (l ∷ m ∷ ls) w f p e =
    let others : AllByRecursion (HasSameSideAndOtherTrade l) (reverse (m ∷ ls)) = all_reverse (HasSameSideAndOtherTrade l) (m ∷ ls) w.1 in
    let first : reverse (l ∷ m ∷ ls) ≡ reverse (m ∷ ls) ++ l ∷ [] = reverse_first l (m ∷ ls) in
    let g : (get_or (reverse (m ∷ ls) ++ l ∷ []) 0 f).trade ≡ l.trade = subst (λ (ms : List Lot). (get_or ms 0 f).trade ≡ l.trade) first e in
    absurd (differs (reverse (m ∷ ls)) (length-reverse (m ∷ ls)) others g) where
      differs : (ms : List Lot) → length ms ≡ suc (length ls) → AllByRecursion (HasSameSideAndOtherTrade l) ms → (get_or (ms ++ l ∷ []) 0 f).trade ≡ l.trade → ⊥
      differs [] n h g = absurd (omega (arith, n))
      differs (x ∷ ms) n h g = h.0.1 g

first_row : (k : ℕ) (ls : List Lot) (t : Touch) (f : Lot) → 0 < length (touches_of_first_shares k ls) → t ≡ get_or (touches_of_first_shares k ls) 0 t → t.lot ≡ (get_or ls 0 f).trade
first_row k [] t f p e = absurd (omega (arith, p))
first_row zero (l ∷ ls) t f p e = absurd (omega (arith, p))
first_row (suc k) (l ∷ ls) t f p e =
    let more : eqb (suc k) 0 ≡ false = ne_eqb (suc k) 0 (λ z. absurd (omega arith)) in
    let row : t ≡ record { lot = l.trade; before = l.qty; after = signed_by_side (side_of_qty l.qty) (unsigned_abs l.qty - suc k) } = rw more at e in
    ap (λ (s : Touch). s.lot) row

-- the first row names the oldest lot where the lots were taken from the front, and of one lot
-- either way
pub left_front : (lifo : Bool) (k : ℕ) (ls : List Lot) → IsPositionInAnyOrder ls → (ts : List Touch)
    → ts ≡ touches_of_first_shares k (list_reversed_if_lifo lifo ls) → 0 < length ts → (s : Touch) (f : Lot) → s ≡ get_or ts 0 s → f ≡ get_or ls 0 f
    → s.lot ≡ f.trade
    → (t : Touch) (l : Lot) → t ≡ get_or ts (length ts - 1) t → l ≡ get_or ls (length ts - 1) l → lots_after_touches ts ls ≡ lot_with_nonzero_quantity t.after l ++ drop (length ts) ls
left_front false k ls w ts e p s f se fe same t l te le = cut_front k ls w ts e p t l te le
left_front true k ls w ts e p s f se fe same t l te le =
    let some : 0 < length ls = omega (arith, p, subst (λ (rs : List Touch). length rs ≤ length ls) (sym e) (rows_fit_end true k ls)) in
    let s0 : s ≡ get_or (touches_of_first_shares k (reverse ls)) 0 s = subst (λ (rs : List Touch). s ≡ get_or rs 0 s) e se in
    let r : s.lot ≡ (get_or (reverse ls) 0 f).trade = first_row k (reverse ls) s f (subst (λ (rs : List Touch). 0 < length rs) e p) s0 in
    let one : reverse ls ≡ ls = only_one ls w f some (sym r ∙ same ∙ ap (λ (x : Lot). x.trade) fe) in
    cut_front k ls w ts (e ∙ ap (touches_of_first_shares k) one) p t l te le

pub left_back : (lifo : Bool) (k : ℕ) (ls : List Lot) → IsPositionInAnyOrder ls → (ts : List Touch)
    → ts ≡ touches_of_first_shares k (list_reversed_if_lifo lifo ls) → 0 < length ts → (s : Touch) (f : Lot) → s ≡ get_or ts 0 s → f ≡ get_or ls 0 f
    → s.lot ≢ f.trade
    → (t : Touch) (l : Lot) → t ≡ get_or ts (length ts - 1) t → l ≡ get_or ls (length ls - length ts) l
    → lots_after_touches ts ls ≡ take (length ls - length ts) ls ++ lot_with_nonzero_quantity t.after l
left_back true k ls w ts e p s f se fe other t l te le = cut_back k ls w ts e p t l te le
left_back false k ls w ts e p s f se fe other t l te le =
    let s0 : s ≡ get_or (touches_of_first_shares k ls) 0 s = subst (λ (rs : List Touch). s ≡ get_or rs 0 s) e se in
    absurd (other (first_row k ls s f (subst (λ (rs : List Touch). 0 < length rs) e p) s0 ∙ ap (λ (x : Lot). x.trade) (sym fe)))

-- where there are no rows, all lots are left
pub left_whole : (lifo : Bool) (k : ℕ) (ls : List Lot) → IsPositionInAnyOrder ls → (ts : List Touch)
    → ts ≡ touches_of_first_shares k (list_reversed_if_lifo lifo ls) → length ts ≡ 0 → lots_after_touches ts ls ≡ ls
left_whole lifo k ls w ts e z =
    let z0 : length (touches_of_first_shares k (list_reversed_if_lifo lifo ls)) ≡ 0 = subst (λ (rs : List Touch). length rs ≡ 0) e z in
    left_end lifo ts ls ∙ ap (λ (rs : List Touch). list_reversed_if_lifo lifo (lots_after_touches rs (list_reversed_if_lifo lifo ls))) e
    ∙ ap (list_reversed_if_lifo lifo) (left_kept k (list_reversed_if_lifo lifo ls) (walk_end lifo ls w) ∙ none_taken k (list_reversed_if_lifo lifo ls) (walk_end lifo ls w) z0) ∙ twice lifo where
      twice : (b : Bool) → list_reversed_if_lifo b (list_reversed_if_lifo b ls) ≡ ls
      twice true = reverse-reverse ls
      twice false = refl
