-- The changes of lots when the first shares of a list are dropped.
use Rattle.std.proofs.Common.{◌≡◌, ◌≢◌, ℕ, zero, suc, ◌+◌, ◌*◌, ◌-◌, ◌<◌, min, eqb, Bool, true, false, not, cond, List, [], ◌∷◌, ◌++◌, take, drop, map}
use Rattle.std.proofs.Common.{replicate, unsigned_abs, refl, sym, ap, ◌∙◌, arith}
use Rattle.std.specs.Bool.{⊤}
use Rattle.std.specs.List.{filter, AllByRecursion}
use Rattle.std.proofs.lemmas.Bool.{eq-eqb, ne_eqb}
use Rattle.std.proofs.lemmas.List.{append-nil}
use Rattle.std.proofs.lemmas.List.Sums.{sum_by-append}
use Rattle.brk_model.specs.Shares.{Share, signed_by_side, first_shares_of_lots}
use Rattle.brk_lots.specs.declared.lot.Lot.{Lot}
use Rattle.brk_lots.specs.declared.lot.Touch.{Touch}
use Rattle.brk_lots.specs.Lots.{side_of_qty, share_of_lot, shares_of_lots}
use Rattle.brk_lots.specs.Position.{HasSameSideAndOtherTrade, IsPositionInAnyOrder, AreOpenedByOtherTrades}
use Rattle.brk_lots.specs.Walks.{touches_of_first_shares, cost_of_first_shares}
use Rattle.brk_lots.proofs.Runs.{count_of, cost, size_positive, signed_back, drop_run, take_run, cost_run, shares_run_own, shares_run_other}
use Rattle.brk_lots.proofs.Walks.{touches_none}

-- ---- what holds of each lot

pub all_from : {X : Type 0} (P Q R : X → Type 0) → ((x : X) → P x → Q x → R x) → (xs : List X) → AllByRecursion P xs → AllByRecursion Q xs → AllByRecursion R xs
all_from P Q R f [] p q = tt
all_from P Q R f (x ∷ xs) p q = (f x p.0 q.0, all_from P Q R f xs p.1 q.1)

pub all_filter : {X : Type 0} (P : X → Type 0) (p : X → Bool) (xs : List X) → AllByRecursion P xs → AllByRecursion P (filter p xs)
all_filter P p [] h = tt
all_filter {X} P p (x ∷ xs) h = at (p x) (all_filter P p xs h.1) where
  at : (b : Bool) → AllByRecursion P (filter p xs) → AllByRecursion P (cond b (x ∷ filter p xs) (filter p xs))
  at true k = (h.0, k)
  at false k = k

-- ---- the price of the shares that are dropped

pub cost_taken : (k : ℕ) (ls : List Lot) → cost (take k (shares_of_lots ls)) ≡ cost_of_first_shares k ls
cost_taken zero [] = refl
cost_taken (suc k) [] = refl
cost_taken k (l ∷ ls) =
    ap cost (take_run k (unsigned_abs l.qty) (share_of_lot l) (shares_of_lots ls))
    ∙ cost_run (min k (unsigned_abs l.qty)) (share_of_lot l) (take (k - unsigned_abs l.qty) (shares_of_lots ls))
    ∙ ap (λ m. min k (unsigned_abs l.qty) * l.price + m) (cost_taken (k - unsigned_abs l.qty) ls)

-- ---- a trade that opened none of the lots has no share

pub shares_new : (t : ℕ) (ls : List Lot) → AreOpenedByOtherTrades t ls → count_of t (shares_of_lots ls) ≡ 0
shares_new t [] h = refl
shares_new t (l ∷ ls) h = shares_run_other t (unsigned_abs l.qty) (share_of_lot l) (shares_of_lots ls) h.0 ∙ shares_new t ls h.1

pub shares_new_dropped : (t k : ℕ) (ls : List Lot) → AreOpenedByOtherTrades t ls → count_of t (drop k (shares_of_lots ls)) ≡ 0
shares_new_dropped t zero [] h = refl
shares_new_dropped t (suc k) [] h = refl
shares_new_dropped t k (l ∷ ls) h =
    ap (count_of t) (drop_run k (unsigned_abs l.qty) (share_of_lot l) (shares_of_lots ls))
    ∙ shares_run_other t (unsigned_abs l.qty - k) (share_of_lot l) (drop (k - unsigned_abs l.qty) (shares_of_lots ls)) h.0
    ∙ shares_new_dropped t (k - unsigned_abs l.qty) ls h.1

-- ---- the first shares of a walk are one of each lot

-- True if another trade than `t` opened the share `v`.
abbrev pub other_than : ℕ → Share → Bool
other_than t v = not (eqb v.trade t)

filter_twice : {X : Type 0} (p : X → Bool) (xs : List X) → filter p (filter p xs) ≡ filter p xs
filter_twice p [] = refl
filter_twice {X} p (x ∷ xs) = at (p x) refl (filter_twice p xs) where
  at : (b : Bool) → p x ≡ b → filter p (filter p xs) ≡ filter p xs → filter p (cond b (x ∷ filter p xs) (filter p xs)) ≡ cond b (x ∷ filter p xs) (filter p xs)
  at true e h = rw e (ap (λ (ys : List X). x ∷ ys) h)
  at false e h = h

pub firsts_run : (n : ℕ) (u : Share) (us : List Share) → first_shares_of_lots (replicate (suc n) u ++ us) ≡ u ∷ filter (other_than u.trade) (first_shares_of_lots us)
firsts_run zero u us = refl
firsts_run (suc n) u us =
    let e : eqb u.trade u.trade ≡ true = eq-eqb u.trade u.trade refl in
    ap (λ (ys : List Share). u ∷ filter (other_than u.trade) ys) (firsts_run n u us)
    ∙ rw e (ap (λ (ys : List Share). u ∷ ys) (filter_twice (other_than u.trade) (first_shares_of_lots us)))

filter_others : (t : ℕ) (ls : List Lot) → AreOpenedByOtherTrades t ls → filter (other_than t) (map share_of_lot ls) ≡ map share_of_lot ls
filter_others t [] h = refl
filter_others t (l ∷ ls) h = rw (ne_eqb l.trade t h.0) (ap (λ (ys : List Share). share_of_lot l ∷ ys) (filter_others t ls h.1))

pub new_beside : (l : Lot) (ls : List Lot) → AllByRecursion (HasSameSideAndOtherTrade l) ls → AreOpenedByOtherTrades l.trade ls
new_beside l ls h = all_from (HasSameSideAndOtherTrade l) (HasSameSideAndOtherTrade l) (λ m. m.trade ≢ l.trade) (λ m p q. p.1) ls h h

pub firsts_walk : (ls : List Lot) → IsPositionInAnyOrder ls → first_shares_of_lots (shares_of_lots ls) ≡ map share_of_lot ls
firsts_walk [] h = refl
firsts_walk (l ∷ ls) h = one (unsigned_abs l.qty) (size_positive l.qty h.0) (firsts_walk ls h.2) where
  one : (n : ℕ) → 0 < n → first_shares_of_lots (shares_of_lots ls) ≡ map share_of_lot ls
      → first_shares_of_lots (replicate n (share_of_lot l) ++ shares_of_lots ls) ≡ share_of_lot l ∷ map share_of_lot ls
  one zero p rest = absurd (omega arith)
  one (suc n) p rest =
      firsts_run n (share_of_lot l) (shares_of_lots ls)
      ∙ ap (λ (ys : List Share). share_of_lot l ∷ filter (other_than l.trade) ys) rest
      ∙ ap (λ (ys : List Share). share_of_lot l ∷ ys) (filter_others l.trade ls (new_beside l ls h.1))

-- ---- what the drop of k shares from the front changes

-- For each lot of `ls`, `before` of its trade is the number of its shares, and `after` of its trade
-- is the number of those that are not among the first `k` shares of `ls`.
abbrev Counts : (ℕ → ℕ) → (ℕ → ℕ) → ℕ → List Lot → Type 0
Counts before after k [] = ⊤
Counts before after k (l ∷ ls) = (before l.trade ≡ unsigned_abs l.qty) × (after l.trade ≡ unsigned_abs l.qty - k) × Counts before after (k - unsigned_abs l.qty) ls

-- The change of the lot of the share `u` from the number `before` to the number `after` of its
-- trade, with the side of `u`.
abbrev pub row : (ℕ → ℕ) → (ℕ → ℕ) → Share → Touch
row before after u = record { lot = u.trade; before = signed_by_side u.side (before u.trade); after = signed_by_side u.side (after u.trade) }

-- The lots of the shares `before` whose number of shares differs among the shares `after`, each
-- with its quantity before and after.
abbrev pub changes : List Share → List Share → List Touch
changes before after = map (row (λ t. count_of t before) (λ t. count_of t after)) (filter (λ u. not (eqb (count_of u.trade before) (count_of u.trade after))) (first_shares_of_lots before))

rows_touched : (before after : ℕ → ℕ) (k : ℕ) (ls : List Lot) → IsPositionInAnyOrder ls → Counts before after k ls
    → map (row before after) (filter (λ u. not (eqb (before u.trade) (after u.trade))) (map share_of_lot ls)) ≡ touches_of_first_shares k ls
rows_touched before after k [] w h = refl
rows_touched before after zero (l ∷ ls) w h =
    let a : after l.trade ≡ before l.trade = omega arith in
    let b : 0 - unsigned_abs l.qty ≡ 0 = omega arith in
    let c : Counts before after 0 ls = rw b at h.2 in
    rw (eq-eqb (before l.trade) (after l.trade) (sym a)) (rows_touched before after 0 ls w.2 c ∙ touches_none ls)
rows_touched before after (suc k) (l ∷ ls) w h =
    let n = size_positive l.qty w.0 in
    let a : before l.trade ≢ after l.trade = omega arith in
    let more : eqb (suc k) 0 ≡ false = ne_eqb (suc k) 0 (λ e. absurd (omega arith)) in
    rw (ne_eqb (before l.trade) (after l.trade) a, more) (
    rw (h.0, h.1, signed_back l.qty) (ap (λ (ts : List Touch). record { lot = l.trade; before = l.qty; after = signed_by_side (side_of_qty l.qty) (unsigned_abs l.qty - suc k) } ∷ ts)
    (rows_touched before after (suc k - unsigned_abs l.qty) ls w.2 h.2)))

-- The numbers `before` and `after` of the trade of the lot `m` are the numbers of its shares among
-- the shares of `ls`, and among these without the first `k`.
abbrev Agrees : (ℕ → ℕ) → (ℕ → ℕ) → ℕ → List Lot → Lot → Type 0
Agrees before after k ls m = (before m.trade ≡ count_of m.trade (shares_of_lots ls)) × (after m.trade ≡ count_of m.trade (drop k (shares_of_lots ls)))

agrees_rest : (before after : ℕ → ℕ) (k : ℕ) (l : Lot) (ls : List Lot) (m : Lot) → HasSameSideAndOtherTrade l m → Agrees before after k (l ∷ ls) m → Agrees before after (k - unsigned_abs l.qty) ls m
agrees_rest before after k l ls m b h =
    let ne : l.trade ≢ m.trade = λ e. b.1 (sym e) in (
      h.0 ∙ shares_run_other m.trade (unsigned_abs l.qty) (share_of_lot l) (shares_of_lots ls) ne,
      h.1 ∙ ap (count_of m.trade) (drop_run k (unsigned_abs l.qty) (share_of_lot l) (shares_of_lots ls))
          ∙ shares_run_other m.trade (unsigned_abs l.qty - k) (share_of_lot l) (drop (k - unsigned_abs l.qty) (shares_of_lots ls)) ne,
    )

counts_walk : (before after : ℕ → ℕ) (k : ℕ) (ls : List Lot) → IsPositionInAnyOrder ls → AllByRecursion (Agrees before after k ls) ls → Counts before after k ls
counts_walk before after k [] w h = tt
counts_walk before after k (l ∷ ls) w h =
    let n = unsigned_abs l.qty in
    let fresh = new_beside l ls w.1 in
    let own : before l.trade ≡ n = h.0.0 ∙ shares_run_own n (share_of_lot l) (shares_of_lots ls) ∙ ap (λ m. n + m) (shares_new l.trade ls fresh) ∙ omega arith in
    let left : after l.trade ≡ n - k =
    h.0.1 ∙ ap (count_of l.trade) (drop_run k n (share_of_lot l) (shares_of_lots ls))
    ∙ shares_run_own (n - k) (share_of_lot l) (drop (k - n) (shares_of_lots ls))
    ∙ ap (λ m. n - k + m) (shares_new_dropped l.trade (k - n) ls fresh) ∙ omega arith in (
      own,
      left,
      counts_walk before after (k - n) ls w.2
          (all_from (HasSameSideAndOtherTrade l) (Agrees before after k (l ∷ ls)) (Agrees before after (k - n) ls) (agrees_rest before after k l ls) ls w.1 h.1),
    )

pub shares_appended : (t r : ℕ) (us : List Share) (u : Share) → u.trade ≢ t → count_of t (us ++ replicate r u) ≡ count_of t us
shares_appended t r us u h =
    sum_by-append _ us (replicate r u) ∙ ap (λ m. count_of t us + m) (ap (count_of t) (sym (append-nil (replicate r u))) ∙ shares_run_other t r u [] h) ∙ omega arith

-- the history rows of a trade, but for the one of the lot that it opens, are those that the walk
-- writes lot by lot
pub changes_walk : (k r : ℕ) (u : Share) (ls : List Lot) → IsPositionInAnyOrder ls → AreOpenedByOtherTrades u.trade ls
    → changes (shares_of_lots ls) (drop k (shares_of_lots ls) ++ replicate r u) ≡ touches_of_first_shares k ls
changes_walk k r u ls w fresh =
    let before = λ (t : ℕ). count_of t (shares_of_lots ls) in
    let after = λ (t : ℕ). count_of t (drop k (shares_of_lots ls) ++ replicate r u) in
    let agree : AllByRecursion (Agrees before after k ls) ls =
    all_from (λ m. m.trade ≢ u.trade) (λ m. m.trade ≢ u.trade) (Agrees before after k ls)
    (λ m p q. (refl, shares_appended m.trade r (drop k (shares_of_lots ls)) u (λ e. p (sym e)))) ls fresh fresh in
    ap (λ us. map (row before after) (filter (λ (v : Share). not (eqb (before v.trade) (after v.trade))) us)) (firsts_walk ls w)
    ∙ rows_touched before after k ls w (counts_walk before after k ls w agree)

-- as many shares of each lot's trade as the lot has
pub counts_are : (ls : List Lot) → IsPositionInAnyOrder ls → AllByRecursion (λ l. count_of l.trade (shares_of_lots ls) ≡ unsigned_abs l.qty) ls
counts_are ls w = first 0 ls (counts_walk count count 0 ls w (every ls)) where
  count : ℕ → ℕ
  count t = count_of t (shares_of_lots ls)

  every : (ms : List Lot) → AllByRecursion (Agrees count count 0 ls) ms
  every [] = tt
  every (m ∷ ms) = ((refl, refl), every ms)

  first : (k : ℕ) (ms : List Lot) → Counts count count k ms → AllByRecursion (λ l. count l.trade ≡ unsigned_abs l.qty) ms
  first k [] h = tt
  first k (m ∷ ms) h = (h.0, first (k - unsigned_abs m.qty) ms h.2)

-- one trade opened equal shares
pub firsts_alike : (n : ℕ) (u : Share) → first_shares_of_lots (replicate (suc n) u) ≡ u ∷ []
firsts_alike n u = ap first_shares_of_lots (sym (append-nil (replicate (suc n) u))) ∙ firsts_run n u []

pub count_alike : (n : ℕ) (u : Share) → count_of u.trade (replicate n u) ≡ n
count_alike n u = ap (count_of u.trade) (sym (append-nil (replicate n u))) ∙ shares_run_own n u [] ∙ omega arith

-- each first share is one of the shares
pub all_firsts : (P : Share → Type 0) (us : List Share) → AllByRecursion P us → AllByRecursion P (first_shares_of_lots us)
all_firsts P [] h = tt
all_firsts P (u ∷ us) h = (h.0, all_filter P (other_than u.trade) (first_shares_of_lots us) (all_firsts P us h.1))
