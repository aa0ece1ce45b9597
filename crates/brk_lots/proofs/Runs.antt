-- Runs of equal shares, and lots as such runs.
use Rattle.std.proofs.Common.{◌≡◌, ◌≢◌, ℕ, zero, suc, ℤ, pos, negsuc, ◌+◌, ◌*◌, ◌-◌, ◌<◌, min, eqb, Bool, cond, List, [], ◌∷◌, ◌++◌, length, take, drop}
use Rattle.std.proofs.Common.{replicate, unsigned_abs, refl, ap, ◌∙◌, arith, length-append}
use Rattle.std.specs.List.{sum_by, count_by}
use Rattle.std.proofs.lemmas.List.{length-replicate}
use Rattle.std.proofs.lemmas.List.Sums.{sum_by-append}
use Rattle.std.proofs.lemmas.List.Folds.{sum_by-replicate}
use Rattle.std.proofs.lemmas.Bool.{eq-eqb, ne_eqb}
use Rattle.brk_model.specs.Shares.{Share, signed_by_side}
use Rattle.brk_lots.specs.declared.lot.Lot.{Lot}
use Rattle.brk_lots.specs.Lots.{side_of_qty}

-- The number of the shares `us` that `trade` opened.
abbrev pub count_of : ℕ → List Share → ℕ
count_of trade us = count_by (λ u. eqb u.trade trade) us

-- The sum of the prices at which the shares `us` were opened.
abbrev pub cost : List Share → ℕ
cost us = sum_by (λ u. u.price) us

-- The shares `us` without their last `k` if `lifo` is true, otherwise without their first `k`.
abbrev pub without : Bool → ℕ → List Share → List Share
without lifo k us = cond lifo (take (length us - k) us) (drop k us)

-- The lot of the given number of shares that equal `u`, as a list of one element, or the empty list
-- for 0 shares.
abbrev pub run_lots : ℕ → Share → List Lot
run_lots zero u = []
run_lots (suc n) u = record { trade = u.trade; price = u.price; qty = signed_by_side u.side (suc n); stamp = u.stamp } ∷ []

pub size_positive : (z : ℤ) → z ≢ pos 0 → 0 < unsigned_abs z
size_positive (pos zero) h = absurd (h refl)
size_positive (pos (suc n)) h = omega arith
size_positive (negsuc n) h = omega arith

pub signed_back : (z : ℤ) → signed_by_side (side_of_qty z) (unsigned_abs z) ≡ z
signed_back (pos n) = refl
signed_back (negsuc n) = refl

-- ---- a run before a list

pub drop_run : {X : Type 0} (k n : ℕ) (x : X) (xs : List X) → drop k (replicate n x ++ xs) ≡ replicate (n - k) x ++ drop (k - n) xs
drop_run zero n x xs = let a : n - 0 ≡ n = omega arith in let b : 0 - n ≡ 0 = omega arith in rw (a, b) refl
drop_run (suc k) zero x xs = let a : 0 - suc k ≡ 0 = omega arith in let b : suc k - 0 ≡ suc k = omega arith in rw (a, b) refl
drop_run (suc k) (suc n) x xs =
    let a : suc n - suc k ≡ n - k = omega arith in
    let b : suc k - suc n ≡ k - n = omega arith in rw (a, b) (drop_run k n x xs)

pub take_run : {X : Type 0} (k n : ℕ) (x : X) (xs : List X) → take k (replicate n x ++ xs) ≡ replicate (min k n) x ++ take (k - n) xs
take_run zero n x xs = let a : min 0 n ≡ 0 = omega arith in let b : 0 - n ≡ 0 = omega arith in rw (a, b) refl
take_run (suc k) zero x xs = let a : min (suc k) 0 ≡ 0 = omega arith in let b : suc k - 0 ≡ suc k = omega arith in rw (a, b) refl
take_run {X} (suc k) (suc n) x xs =
    let a : min (suc k) (suc n) ≡ suc (min k n) = omega arith in
    let b : suc k - suc n ≡ k - n = omega arith in rw (a, b) (ap (λ (ys : List X). x ∷ ys) (take_run k n x xs))

pub length_run : {X : Type 0} (n : ℕ) (x : X) (xs : List X) → length (replicate n x ++ xs) ≡ n + length xs
length_run n x xs = omega (arith, length-append (replicate n x) xs, length-replicate n x)

pub cost_run : (n : ℕ) (u : Share) (us : List Share) → cost (replicate n u ++ us) ≡ n * u.price + cost us
cost_run n u us = sum_by-append _ (replicate n u) us ∙ ap (λ m. m + cost us) (sum_by-replicate _ n u)

pub shares_run : (t n : ℕ) (u : Share) (us : List Share) → count_of t (replicate n u ++ us) ≡ n * cond (eqb u.trade t) 1 0 + count_of t us
shares_run t n u us = sum_by-append _ (replicate n u) us ∙ ap (λ m. m + count_of t us) (sum_by-replicate _ n u)

pub shares_run_own : (n : ℕ) (u : Share) (us : List Share) → count_of u.trade (replicate n u ++ us) ≡ n + count_of u.trade us
shares_run_own n u us =
    shares_run u.trade n u us ∙ ap (λ b. n * cond b 1 0 + count_of u.trade us) (eq-eqb u.trade u.trade refl) ∙ omega arith

pub shares_run_other : (t n : ℕ) (u : Share) (us : List Share) → u.trade ≢ t → count_of t (replicate n u ++ us) ≡ count_of t us
shares_run_other t n u us h = shares_run t n u us ∙ ap (λ b. n * cond b 1 0 + count_of t us) (ne_eqb u.trade t h) ∙ omega arith
