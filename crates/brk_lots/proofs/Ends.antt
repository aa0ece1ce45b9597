-- A position from its other end.
use Rattle.std.proofs.Common.{◌≡◌, ◌≢◌, ℕ, zero, suc, pos, ◌+◌, ◌-◌, ◌≤◌, min, eqb, Bool, true, false, cond, List, [], ◌∷◌, ◌++◌, length, take, drop, replicate}
use Rattle.std.proofs.Common.{reverse, unsigned_abs, refl, sym, ap, ◌∙◌, subst, arith, append-nil}
use Rattle.std.specs.List.{AllByRecursion}
use Rattle.std.proofs.lemmas.List.{length-reverse, reverse-append, reverse-reverse, replicate_more}
use Rattle.std.proofs.lemmas.List.Sums.{sum_by-append, sum_by-cons, sum_by-take-drop}
use Rattle.std.proofs.lemmas.List.Concat.{flat_map-append}
use Rattle.brk_money.specs.Kinds.{is_same_side}
use Rattle.brk_money.specs.declared.side.Side.{Side}
use Rattle.brk_model.specs.Shares.{Share}
use Rattle.brk_lots.specs.declared.lot.Lot.{Lot}
use Rattle.brk_lots.specs.Lots.{side_of_qty, share_of_lot, shares_of_lots, list_reversed_if_lifo}
use Rattle.brk_lots.specs.Walks.{closed_share_count}
use Rattle.brk_lots.specs.Position.{HasSameSideAndOtherTrade, IsPositionInAnyOrder, PrecedesInPosition, IsPosition}
use Rattle.brk_lots.proofs.Runs.{count_of, cost, without, length_run}
use Rattle.brk_lots.proofs.Walks.{met_first}
use Rattle.brk_lots.proofs.Changes.{all_from}

pub reverse_first : {X : Type 0} (x : X) (xs : List X) → reverse (x ∷ xs) ≡ reverse xs ++ x ∷ []
reverse_first x xs = reverse-append (x ∷ []) xs

-- ---- what holds of all

pub all_join : {X : Type 0} (P : X → Type 0) (xs ys : List X) → AllByRecursion P xs → AllByRecursion P ys → AllByRecursion P (xs ++ ys)
all_join P [] ys p q = q
all_join P (x ∷ xs) ys p q = (p.0, all_join P xs ys p.1 q)

pub all_reverse : {X : Type 0} (P : X → Type 0) (xs : List X) → AllByRecursion P xs → AllByRecursion P (reverse xs)
all_reverse P [] p = tt
all_reverse P (x ∷ xs) p = rw (reverse_first x xs) (all_join P (reverse xs) (x ∷ []) (all_reverse P xs p.1) (p.0, tt))

pub all_end : {X : Type 0} (P : X → Type 0) (lifo : Bool) (xs : List X) → AllByRecursion P xs → AllByRecursion P (list_reversed_if_lifo lifo xs)
all_end P true xs p = all_reverse P xs p
all_end P false xs p = p

-- ---- a walk from the other end is a walk

pub walk_of : (ls : List Lot) → IsPosition ls → IsPositionInAnyOrder ls
walk_of [] h = tt
walk_of (l ∷ ls) h = (h.0, all_from (PrecedesInPosition l) (PrecedesInPosition l) (HasSameSideAndOtherTrade l) (λ m p q. p.0) ls h.1 h.1, walk_of ls h.2)

walk_push : (ls : List Lot) (l : Lot) → IsPositionInAnyOrder ls → l.qty ≢ pos 0 → AllByRecursion (HasSameSideAndOtherTrade l) ls → IsPositionInAnyOrder (ls ++ l ∷ [])
walk_push [] l w n b = (n, tt, tt)
walk_push (m ∷ ls) l w n b =
    (w.0, all_join (HasSameSideAndOtherTrade m) ls (l ∷ []) w.1 ((sym b.0.0, λ e. b.0.1 (sym e)), tt), walk_push ls l w.2 n b.1)

pub walk_reverse : (ls : List Lot) → IsPositionInAnyOrder ls → IsPositionInAnyOrder (reverse ls)
walk_reverse [] w = tt
walk_reverse (l ∷ ls) w = rw (reverse_first l ls) (walk_push (reverse ls) l (walk_reverse ls w.2) w.0 (all_reverse (HasSameSideAndOtherTrade l) ls w.1))

pub walk_end : (lifo : Bool) (ls : List Lot) → IsPositionInAnyOrder ls → IsPositionInAnyOrder (list_reversed_if_lifo lifo ls)
walk_end true ls w = walk_reverse ls w
walk_end false ls w = w

-- what holds from an end holds from the front
pub all_back : {X : Type 0} (P : X → Type 0) (lifo : Bool) (xs : List X) → AllByRecursion P (list_reversed_if_lifo lifo xs) → AllByRecursion P xs
all_back P true xs p = subst (AllByRecursion P) (reverse-reverse xs) (all_reverse P (reverse xs) p)
all_back P false xs p = p

-- ---- the shares from the other end

reverse_run : {X : Type 0} (n : ℕ) (x : X) → reverse (replicate n x) ≡ replicate n x
reverse_run zero x = refl
reverse_run {X} (suc n) x =
    let e : n + 1 ≡ suc n = omega arith in
    reverse_first x (replicate n x) ∙ ap (λ (xs : List X). xs ++ x ∷ []) (reverse_run n x)
    ∙ replicate_more n x ∙ ap (λ (k : ℕ). replicate k x) e

pub reverse_shares : (ls : List Lot) → shares_of_lots (reverse ls) ≡ reverse (shares_of_lots ls)
reverse_shares [] = refl
reverse_shares (l ∷ ls) =
    ap shares_of_lots (reverse_first l ls)
    ∙ flat_map-append (λ m. replicate (unsigned_abs m.qty) (share_of_lot m)) (reverse ls) (l ∷ [])
    ∙ ap (λ (us : List Share). us ++ (replicate (unsigned_abs l.qty) (share_of_lot l) ++ [])) (reverse_shares ls)
    ∙ ap (λ (us : List Share). reverse (shares_of_lots ls) ++ us) (append-nil (replicate (unsigned_abs l.qty) (share_of_lot l)) ∙ sym (reverse_run (unsigned_abs l.qty) (share_of_lot l)))
    ∙ sym (reverse-append (replicate (unsigned_abs l.qty) (share_of_lot l)) (shares_of_lots ls))

pub shares_end : (lifo : Bool) (ls : List Lot) → shares_of_lots (list_reversed_if_lifo lifo ls) ≡ list_reversed_if_lifo lifo (shares_of_lots ls)
shares_end true ls = reverse_shares ls
shares_end false ls = refl

-- to drop from the front of the reverse is to drop from the back
pub drop_reverse : {X : Type 0} (k : ℕ) (xs : List X) → reverse (drop k xs) ≡ take (length xs - k) (reverse xs)
drop_reverse zero xs = let e : length xs - 0 ≡ length (reverse xs) = omega (arith, length-reverse xs) in rw e (sym (take_whole (reverse xs))) where
  take_whole : {X : Type 0} (ys : List X) → take (length ys) ys ≡ ys
  take_whole [] = refl
  take_whole {X} (y ∷ ys) = ap (λ (zs : List X). y ∷ zs) (take_whole ys)
drop_reverse (suc k) [] = let e : 0 - suc k ≡ 0 = omega arith in rw e refl
drop_reverse {X} (suc k) (x ∷ xs) =
    let e : suc (length xs) - suc k ≡ length xs - k = omega arith in
    rw (e, reverse_first x xs) (drop_reverse k xs ∙ cut (length xs - k) (reverse xs) (omega (arith, length-reverse xs))) where
      cut : (n : ℕ) (ys : List X) → n ≤ length ys → take n ys ≡ take n (ys ++ x ∷ [])
      cut zero ys h = refl
      cut (suc n) [] h = absurd (omega arith)
      cut (suc n) (y ∷ ys) h = ap (λ (zs : List X). y ∷ zs) (cut n ys (omega arith))

pub without_end : (lifo : Bool) (k : ℕ) (us : List Share) → list_reversed_if_lifo lifo (drop k (list_reversed_if_lifo lifo us)) ≡ without lifo k us
without_end true k us = drop_reverse k (reverse us) ∙ rw (length-reverse us, reverse-reverse us) refl
without_end false k us = refl

-- ---- as many are met from either end

pub met_all : (side s : Side) (q : ℕ) (ls : List Lot) → AllByRecursion (λ l. side_of_qty l.qty ≡ s) ls
    → closed_share_count side q ls ≡ cond (is_same_side s side) 0 (min q (length (shares_of_lots ls)))
met_all side s q [] h = elim (is_same_side s side) as (λ b. 0 ≡ cond b 0 (min q 0)) [ true ↦ refl | false ↦ omega arith ]
met_all side s q (l ∷ ls) h =
    met_first side q l ls
    ∙ ap (λ t. cond (is_same_side t side) 0 (min q (unsigned_abs l.qty + length (shares_of_lots ls)))) h.0
    ∙ ap (λ n. cond (is_same_side s side) 0 (min q n)) (sym (length_run (unsigned_abs l.qty) (share_of_lot l) (shares_of_lots ls)))

pub met_reverse : (side : Side) (q : ℕ) (ls : List Lot) → IsPositionInAnyOrder ls → closed_share_count side q (reverse ls) ≡ closed_share_count side q ls
met_reverse side q [] w = refl
met_reverse side q (l ∷ ls) w =
    let s = side_of_qty l.qty in
    let same : AllByRecursion (λ m. side_of_qty m.qty ≡ s) (l ∷ ls) =
    (refl, all_from (HasSameSideAndOtherTrade l) (HasSameSideAndOtherTrade l) (λ m. side_of_qty m.qty ≡ s) (λ m p r. p.0) ls w.1 w.1) in
    let len : length (shares_of_lots (reverse (l ∷ ls))) ≡ length (shares_of_lots (l ∷ ls)) = ap length (reverse_shares (l ∷ ls)) ∙ length-reverse (shares_of_lots (l ∷ ls)) in
    met_all side s q (reverse (l ∷ ls)) (all_reverse (λ m. side_of_qty m.qty ≡ s) (l ∷ ls) same)
    ∙ ap (λ n. cond (is_same_side s side) 0 (min q n)) len
    ∙ sym (met_all side s q (l ∷ ls) same)

pub met_end : (lifo : Bool) (side : Side) (q : ℕ) (ls : List Lot) → IsPositionInAnyOrder ls → closed_share_count side q (list_reversed_if_lifo lifo ls) ≡ closed_share_count side q ls
met_end true side q ls w = met_reverse side q ls w
met_end false side q ls w = refl

pub shares_reverse : (t : ℕ) (us : List Share) → count_of t (reverse us) ≡ count_of t us
shares_reverse t [] = refl
shares_reverse t (u ∷ us) =
    ap (count_of t) (reverse_first u us) ∙ sum_by-append (λ (v : Share). cond (eqb v.trade t) 1 0) (reverse us) (u ∷ [])
    ∙ omega (arith, shares_reverse t us, sum_by-cons (λ (v : Share). cond (eqb v.trade t) 1 0) u us, sum_by-cons (λ (v : Share). cond (eqb v.trade t) 1 0) u [])

-- ---- the price of the shares that leave, from either end

cost_reverse : (us : List Share) → cost (reverse us) ≡ cost us
cost_reverse [] = refl
cost_reverse (u ∷ us) =
    ap cost (reverse-append (u ∷ []) us) ∙ sum_by-append (λ (v : Share). v.price) (reverse us) (u ∷ [])
    ∙ omega (arith, cost_reverse us, sum_by-cons (λ (v : Share). v.price) u us, sum_by-cons (λ (v : Share). v.price) u [])

-- the shares that leave and those that stay cost what all did
pub cost_parts : (lifo : Bool) (k : ℕ) (us : List Share) → cost (without lifo k us) + cost (take k (list_reversed_if_lifo lifo us)) ≡ cost us
cost_parts true k us =
    let e : cost (without true k us) ≡ cost (drop k (reverse us)) = ap cost (sym (without_end true k us)) ∙ cost_reverse (drop k (reverse us)) in
    omega (arith, e, cost_reverse us, sum_by-take-drop (λ (v : Share). v.price) (reverse us) k)
cost_parts false k us = omega (arith, sum_by-take-drop (λ (v : Share). v.price) us k)

-- the first k shares from an end cost what the shares that are without the others cost
pub cost_end : (lifo : Bool) (k : ℕ) (us : List Share) → cost (take k (list_reversed_if_lifo lifo us)) ≡ cost (cond lifo (drop (length us - k) us) (take k us))
cost_end true k us = omega (arith, cost_parts true k us, sum_by-take-drop (λ (v : Share). v.price) us (length us - k))
cost_end false k us = refl
