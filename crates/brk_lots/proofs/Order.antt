-- A position has one order by stamp, so that sorting it by trade and then by stamp leaves it
-- unchanged.
use Rattle.std.proofs.Common.{◌≡◌, ◌≢◌, ℕ, suc, ◌+◌, ◌<◌, ◌≤◌, eqb, ltb, Bool, true, false, cond, List, [], ◌∷◌, length, get_or, refl, sym, ap, ◌∙◌, subst, arith, ◌⊎◌, inl, inr}
use Rattle.std.specs.List.{sum_by, AllByRecursion}
use Rattle.std.specs.List.Sorted.{IsPermutation, IsNonDecreasingBy}
use Rattle.std.specs.Ordering.{int_eq}
use Rattle.std.proofs.lemmas.Bool.{eq-eqb, ne_eqb, eqb-true, cases_eq, cases_Bool, ltb-false, ltb-true, le-ltb, lt-ltb}
use Rattle.std.proofs.lemmas.Bool.Decides.{Decides-int_eq}
use Rattle.std.proofs.lemmas.List.Sums.{sum_by-cons}
use Rattle.std.proofs.lemmas.List.Sorted.{sum_by-IsPermutation}
use Rattle.brk_lots.specs.declared.lot.Lot.{Lot}
use Rattle.brk_lots.specs.Order.{FirstLotSatisfies, PrecedesOnSameSide, IsOneSidedAndAscending, NeighboursDifferInTrade}
use Rattle.brk_lots.specs.Position.{PrecedesInPosition, IsPosition, AreOpenedByOtherTrades}
use Rattle.brk_lots.proofs.Changes.{all_from}

-- No two lots of the list were opened by the same trade.
abbrev pub Distinct : List Lot → Type 0
Distinct [] = Unit {0}
Distinct (l ∷ ls) = AreOpenedByOtherTrades l.trade ls × Distinct ls

-- The number `n` of each lot is at most that of every later lot of the list.
abbrev pub Ascends : (Lot → ℕ) → List Lot → Type 0
Ascends n [] = Unit {0}
Ascends n (l ∷ ls) = AllByRecursion (λ m. n l ≤ n m) ls × Ascends n ls

-- ---- a position climbs and its trades are distinct

first_of_all : (P : Lot → Type 0) (ls : List Lot) → AllByRecursion P ls → FirstLotSatisfies P ls
first_of_all P [] h = tt
first_of_all P (l ∷ ls) h = h.0

higher_all : (l : Lot) (ls : List Lot) → FirstLotSatisfies (PrecedesOnSameSide l) ls → IsOneSidedAndAscending ls → AllByRecursion (PrecedesOnSameSide l) ls
higher_all l [] h c = tt
higher_all l (m ∷ ls) h c = (
  h,
  all_from (PrecedesOnSameSide m) (PrecedesOnSameSide m) (PrecedesOnSameSide l) (λ k p q. (p.0 ∙ h.0, let a = h.1 in let b = p.1 in omega (arith, a, b)))
      ls (higher_all m ls c.1 c.2) (higher_all m ls c.1 c.2),
)

pub climbs_of : (ls : List Lot) → IsPosition ls → IsOneSidedAndAscending ls
climbs_of [] p = tt
climbs_of (l ∷ ls) p = (
  p.0,
  first_of_all (PrecedesOnSameSide l) ls
      (all_from (PrecedesInPosition l) (PrecedesInPosition l) (PrecedesOnSameSide l) (λ m a b. (a.0.0, a.1)) ls p.1 p.1),
  climbs_of ls p.2,
)

pub distinct_of : (ls : List Lot) → IsPosition ls → Distinct ls
distinct_of [] p = tt
distinct_of (l ∷ ls) p = (all_from (PrecedesInPosition l) (PrecedesInPosition l) (λ m. m.trade ≢ l.trade) (λ m a b. a.0.1) ls p.1 p.1, distinct_of ls p.2)

pub position_of : (ls : List Lot) → IsOneSidedAndAscending ls → Distinct ls → IsPosition ls
position_of [] c d = tt
position_of (l ∷ ls) c d = (c.0, all_from (PrecedesOnSameSide l) (λ m. m.trade ≢ l.trade) (PrecedesInPosition l) (λ m a b. ((a.0, b), a.1)) ls (higher_all l ls c.1 c.2) d.0, position_of ls c.2 d.1)

-- ---- neighbours of sorted lots

all_by_index : (P : Lot → Type 0) (ls : List Lot) (d : Lot) → ((k : ℕ) → k < length ls → P (get_or ls k d)) → AllByRecursion P ls
all_by_index P [] d h = tt
all_by_index P (l ∷ ls) d h = (h 0 (omega arith), all_by_index P ls d (λ k p. h (suc k) (omega (arith, p))))

pub ascends_of : (n : Lot → ℕ) (ls : List Lot) → IsNonDecreasingBy n ls → Ascends n ls
ascends_of n [] h = tt
ascends_of n (l ∷ ls) h = (
  all_by_index (λ m. n l ≤ n m) ls l (λ k p. h 0 (suc k) l (omega arith) (omega (arith, p))),
  ascends_of n ls (λ i j d p q. h (suc i) (suc j) d (omega (arith, p)) (omega (arith, q))),
)

pub differ_of : (ls : List Lot) → Distinct ls → NeighboursDifferInTrade ls
differ_of [] d = tt
differ_of (l ∷ ls) d = (first_of_all (λ m. m.trade ≢ l.trade) ls d.0, differ_of ls d.1)

pub distinct_by : (ls : List Lot) → Ascends (λ l. l.trade) ls → NeighboursDifferInTrade ls → Distinct ls
distinct_by [] a d = tt
distinct_by (l ∷ []) a d = (tt, tt)
distinct_by (l ∷ m ∷ ls) a d =
    let p = a.0.0 in
    let q : l.trade ≢ m.trade = (λ e. d.0 (sym e)) in
    let above : l.trade < m.trade = omega (arith, p, q) in (
      (d.0, all_from (λ k. m.trade ≤ k.trade) (λ k. m.trade ≤ k.trade) (λ k. k.trade ≢ l.trade) (λ k p q e. absurd (omega (arith, above, p, e))) ls a.1.0 a.1.0),
      distinct_by (m ∷ ls) a.1 d.1,
    )

-- ---- distinct trades in any order

-- 1 if the trade `n` opened the lot `l`, otherwise 0.
abbrev of_trade : ℕ → Lot → ℕ
of_trade n l = cond (eqb l.trade n) 1 0

new_none : (n : ℕ) (ls : List Lot) → AreOpenedByOtherTrades n ls → sum_by (of_trade n) ls ≡ 0
new_none n [] h = refl
new_none n (l ∷ ls) h = sum_by-cons (of_trade n) l ls ∙ rw (ne_eqb l.trade n h.0) (omega (arith, new_none n ls h.1))

none_new : (n : ℕ) (ls : List Lot) → sum_by (of_trade n) ls ≡ 0 → AreOpenedByOtherTrades n ls
none_new n [] e = tt
none_new n (l ∷ ls) e =
    let s = sum_by-cons (of_trade n) l ls in
    let f : of_trade n l + sum_by (of_trade n) ls ≡ 0 = sym s ∙ e in
    (λ same. let one : of_trade n l ≡ 1 = ap (λ b. cond b 1 0) (eq-eqb l.trade n same) in absurd (omega (arith, one, f)), none_new n ls (omega (arith, f)))

counts : (ls : List Lot) → Distinct ls → (n : ℕ) → sum_by (of_trade n) ls ≤ 1
counts [] d n = omega arith
counts (l ∷ ls) d n = rw (sum_by-cons (of_trade n) l ls) (at (cases_eq l.trade n) (counts ls d.1 n)) where
  at : (l.trade ≡ n) ⊎ (l.trade ≡ n → ⊥) → sum_by (of_trade n) ls ≤ 1 → of_trade n l + sum_by (of_trade n) ls ≤ 1
  at (inl e) h =
      let none : sum_by (of_trade n) ls ≡ 0 = new_none n ls (subst (λ m. AreOpenedByOtherTrades m ls) e d.0) in
      let one : of_trade n l ≡ 1 = ap (λ b. cond b 1 0) (eq-eqb l.trade n e) in
      omega (arith, none, one)
  at (inr e) h =
      let none : of_trade n l ≡ 0 = ap (λ b. cond b 1 0) (ne_eqb l.trade n e) in
      omega (arith, none, h)

counted : (ls : List Lot) → ((n : ℕ) → sum_by (of_trade n) ls ≤ 1) → Distinct ls
counted [] h = tt
counted (l ∷ ls) h =
    let one : of_trade l.trade l ≡ 1 = ap (λ b. cond b 1 0) (eq-eqb l.trade l.trade refl) in
    let s : of_trade l.trade l + sum_by (of_trade l.trade) ls ≤ 1 = rw (sum_by-cons (of_trade l.trade) l ls) at (h l.trade) in
    (none_new l.trade ls (omega (arith, one, s)), counted ls (λ n. let t : of_trade n l + sum_by (of_trade n) ls ≤ 1 = rw (sum_by-cons (of_trade n) l ls) at (h n) in omega (arith, t)))

pub distinct_moved : (xs ys : List Lot) → IsPermutation xs ys → Distinct xs → Distinct ys
distinct_moved xs ys p d = counted ys (λ n. let e = sum_by-IsPermutation (of_trade n) xs ys p in let h = counts xs d n in omega (arith, e, h))

-- ---- rising stamps leave one order

sum_none : (f : Lot → ℕ) (ls : List Lot) → AllByRecursion (λ l. f l ≡ 0) ls → sum_by f ls ≡ 0
sum_none f [] h = refl
sum_none f (l ∷ ls) h = let e = sum_none f ls h.1 in let z = h.0 in omega (arith, sum_by-cons f l ls, e, z)

-- the two lots are the same
same_lot : Lot → Lot → Bool
same_lot l m = cond (eqb l.trade m.trade) (cond (eqb l.price m.price) (cond (eqb l.stamp m.stamp) (int_eq l.qty m.qty) false) false) false

same_self : (l : Lot) → same_lot l l ≡ true
unfolding same_lot
same_self l = rw (eq-eqb l.trade l.trade refl, eq-eqb l.price l.price refl, eq-eqb l.stamp l.stamp refl) ((Decides-int_eq l.qty l.qty).1 refl)

same_lots : (l m : Lot) → same_lot l m ≡ true → l ≡ m
unfolding same_lot
same_lots l m e = at (eqb l.trade m.trade) (eqb l.price m.price) (eqb l.stamp m.stamp) refl refl refl e where
  at : (a b c : Bool) → eqb l.trade m.trade ≡ a → eqb l.price m.price ≡ b → eqb l.stamp m.stamp ≡ c → cond a (cond b (cond c (int_eq l.qty m.qty) false) false) false ≡ true → l ≡ m
  at true true true p q r h =
      let t = eqb-true l.trade m.trade p in
      let u = eqb-true l.price m.price q in
      let s = eqb-true l.stamp m.stamp r in
      let v = (Decides-int_eq l.qty m.qty).0 h in
      ap (λ x. record { trade = x; price = l.price; qty = l.qty; stamp = l.stamp }) t
      ∙ ap (λ x. record { trade = m.trade; price = x; qty = l.qty; stamp = l.stamp }) u
      ∙ ap (λ x. record { trade = m.trade; price = m.price; qty = x; stamp = l.stamp }) v
      ∙ ap (λ x. record { trade = m.trade; price = m.price; qty = m.qty; stamp = x }) s
  at true true false p q r h = cc
  at true false c p q r h = cc
  at false b c p q r h = cc

-- 1 if the lot `l` was opened before the stamp `n`, otherwise 0.
abbrev older : ℕ → Lot → ℕ
older n l = cond (ltb l.stamp n) 1 0

-- 1 if the lot `l` was opened at the stamp `n` or before, otherwise 0.
abbrev no_later : ℕ → Lot → ℕ
no_later n l = cond (ltb n l.stamp) 0 1

-- 1 if the lot `l` has the stamp of the lot `m` and is another lot, otherwise 0.
abbrev beside : Lot → Lot → ℕ
beside m l = cond (eqb l.stamp m.stamp) (cond (same_lot l m) 0 1) 0

pub one_order : (xs ys : List Lot) → IsOneSidedAndAscending xs → Ascends (λ l. l.stamp) ys → ((f : Lot → ℕ) → sum_by f ys ≡ sum_by f xs) → ys ≡ xs
one_order [] [] c a h = refl
one_order [] (y ∷ ys) c a h = let e = h (λ l. 1) in absurd (omega (arith, e, sum_by-cons (λ (l : Lot). 1) y ys))
one_order (x ∷ xs) [] c a h = let e = h (λ l. 1) in absurd (omega (arith, e, sum_by-cons (λ (l : Lot). 1) x xs))
one_order (x ∷ xs) (y ∷ ys) c a h =
    let up : AllByRecursion (PrecedesOnSameSide x) xs = higher_all x xs c.1 c.2 in
    let none_older : sum_by (older x.stamp) (x ∷ xs) ≡ 0 =
    sum_none (older x.stamp) (x ∷ xs) (
      ap (λ b. cond b 1 0) (le-ltb x.stamp x.stamp (omega arith)),
      all_from (PrecedesOnSameSide x) (PrecedesOnSameSide x) (λ l. older x.stamp l ≡ 0)
          (λ l p q. ap (λ b. cond b 1 0) (le-ltb l.stamp x.stamp (let r = p.1 in omega (arith, r)))) xs up up,
    ) in
    let none_beside : sum_by (beside x) (x ∷ xs) ≡ 0 =
    sum_none (beside x) (x ∷ xs) (
      rw (eq-eqb x.stamp x.stamp refl, same_self x) refl,
      all_from (PrecedesOnSameSide x) (PrecedesOnSameSide x) (λ l. beside x l ≡ 0)
          (λ l p q. ap (λ b. cond b (cond (same_lot l x) 0 1) 0) (ne_eqb l.stamp x.stamp (λ e. let r = p.1 in absurd (omega (arith, r, e))))) xs up up,
    ) in
    let low : x.stamp ≤ y.stamp = elim (cases_Bool (ltb y.stamp x.stamp)) [
      | inl e ↦
          let one : older x.stamp y ≡ 1 = ap (λ b. cond b 1 0) e in
          let s = h (older x.stamp) in
          absurd (omega (arith, one, s, none_older, sum_by-cons (older x.stamp) y ys))
      | inr e ↦ ltb-false y.stamp x.stamp e
    ] in
    let high : y.stamp ≤ x.stamp = elim (cases_Bool (ltb x.stamp y.stamp)) [
      | inl e ↦
          let p : x.stamp < y.stamp = ltb-true x.stamp y.stamp e in
          let none : sum_by (no_later x.stamp) (y ∷ ys) ≡ 0 =
          sum_none (no_later x.stamp) (y ∷ ys) (
            ap (λ b. cond b 0 1) e,
            all_from (λ l. y.stamp ≤ l.stamp) (λ l. y.stamp ≤ l.stamp) (λ l. no_later x.stamp l ≡ 0)
                (λ l q r. ap (λ b. cond b 0 1) (lt-ltb x.stamp l.stamp (omega (arith, p, q)))) ys a.0 a.0,
          ) in
          let one : no_later x.stamp x ≡ 1 = ap (λ b. cond b 0 1) (le-ltb x.stamp x.stamp (omega arith)) in
          let s = h (no_later x.stamp) in
          absurd (omega (arith, one, s, none, sum_by-cons (no_later x.stamp) x xs))
      | inr e ↦ ltb-false x.stamp y.stamp e
    ] in
    let stamps : y.stamp ≡ x.stamp = omega (arith, low, high) in
    let zero_beside : beside x y ≡ 0 = (let s = h (beside x) in omega (arith, s, none_beside, sum_by-cons (beside x) y ys)) in
    let same : same_lot y x ≡ true = elim (cases_Bool (same_lot y x)) [
      | inl e ↦ e
      | inr e ↦
          let one : beside x y ≡ 1 = rw (eq-eqb y.stamp x.stamp stamps, e) refl in
          absurd (omega (arith, one, zero_beside))
    ] in
    let first : y ≡ x = same_lots y x same in
    let rest : ys ≡ xs = one_order xs ys c.2 a.1 (λ f. let s = h f in let fe : f y ≡ f x = ap f first in omega (arith, s, fe, sum_by-cons f y ys, sum_by-cons f x xs)) in
    ap (λ (l : Lot). l ∷ ys) first ∙ ap (λ (ls : List Lot). x ∷ ls) rest
