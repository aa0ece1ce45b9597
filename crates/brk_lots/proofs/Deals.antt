-- Shares along a list of deals.
use Rattle.std.proofs.Common.{◌≢◌, ℕ, zero, suc, ◌-◌, ◌<◌, Bool, true, false, List, [], ◌∷◌, ◌++◌, length, take, drop, replicate, unsigned_abs, arith}
use Rattle.std.specs.List.{AllByRecursion}
use Rattle.brk_model.specs.Shares.{Share, Deal, opened_share, closed_share_count_of_deal, shares_after_deal}
use Rattle.brk_lots.specs.declared.lot.Lot.{Lot}
use Rattle.brk_lots.specs.Lots.{share_of_lot, shares_of_lots}
use Rattle.brk_lots.specs.Position.{IsPositionInAnyOrder, AreOpenedByOtherTrades, AreOpenedBeforeStamp}
use Rattle.brk_lots.specs.Deals.{PrecedesDealOfOtherTrade}
use Rattle.brk_lots.proofs.Runs.{without, size_positive}
use Rattle.brk_lots.proofs.Changes.{all_from}
use Rattle.brk_lots.proofs.Ends.{all_join}
use Rattle.brk_lots.proofs.Counts.{all_run}

-- The share `v` was opened before the stamp of the deal `d`, by another trade.
abbrev pub IsOlder : Deal → Share → Type 0
IsOlder d v = (v.trade ≢ d.trade) × (v.stamp < d.stamp)

pub all_drop : {X : Type 0} (P : X → Type 0) (n : ℕ) (xs : List X) → AllByRecursion P xs → AllByRecursion P (drop n xs)
all_drop P zero xs h = h
all_drop P (suc n) [] h = tt
all_drop P (suc n) (x ∷ xs) h = all_drop P n xs h.1

all_take : {X : Type 0} (P : X → Type 0) (n : ℕ) (xs : List X) → AllByRecursion P xs → AllByRecursion P (take n xs)
all_take P zero xs h = tt
all_take P (suc n) [] h = tt
all_take P (suc n) (x ∷ xs) h = (h.0, all_take P n xs h.1)

all_past_run : {X : Type 0} (P : X → Type 0) (n : ℕ) (x : X) (xs : List X) → AllByRecursion P (replicate n x ++ xs) → AllByRecursion P xs
all_past_run P zero x xs h = h
all_past_run P (suc n) x xs h = all_past_run P n x xs h.1

of_run : {X : Type 0} (P : X → Type 0) (n : ℕ) (x : X) (xs : List X) → 0 < n → AllByRecursion P (replicate n x ++ xs) → P x
of_run P zero x xs p h = absurd (omega arith)
of_run P (suc n) x xs p h = h.0

pub all_without : (P : Share → Type 0) (lifo : Bool) (k : ℕ) (us : List Share) → AllByRecursion P us → AllByRecursion P (without lifo k us)
all_without P true k us h = all_take P (length us - k) us h
all_without P false k us h = all_drop P k us h

-- what holds of each share and of the deal's holds of each share after it
pub all_after : (P : Share → Type 0) (d : Deal) (us : List Share) → P (opened_share d) → AllByRecursion P us → AllByRecursion P (shares_after_deal us d)
unfolding shares_after_deal
all_after P d us p h =
    all_join P (without d.is_lifo (closed_share_count_of_deal d us) us) (replicate (d.qty - closed_share_count_of_deal d us) (opened_share d))
    (all_without P d.is_lifo (closed_share_count_of_deal d us) us h) (all_run P (d.qty - closed_share_count_of_deal d us) (opened_share d) p)

pub old_lots : (d : Deal) (ls : List Lot) → IsPositionInAnyOrder ls → AllByRecursion (IsOlder d) (shares_of_lots ls) → AreOpenedByOtherTrades d.trade ls × AreOpenedBeforeStamp d.stamp ls
old_lots d [] p h = (tt, tt)
old_lots d (l ∷ ls) p h =
    let one : IsOlder d (share_of_lot l) = of_run (IsOlder d) (unsigned_abs l.qty) (share_of_lot l) (shares_of_lots ls) (size_positive l.qty p.0) h in
    let rest = old_lots d ls p.2 (all_past_run (IsOlder d) (unsigned_abs l.qty) (share_of_lot l) (shares_of_lots ls) h) in
    ((one.0, rest.0), (one.1, rest.1))

-- the shares after a deal are older than each later deal
pub older_after : (d : Deal) (ds : List Deal) (us : List Share) → AllByRecursion (PrecedesDealOfOtherTrade d) ds
    → AllByRecursion (λ e. AllByRecursion (IsOlder e) us) ds → AllByRecursion (λ e. AllByRecursion (IsOlder e) (shares_after_deal us d)) ds
older_after d ds us l h =
    all_from (PrecedesDealOfOtherTrade d) (λ e. AllByRecursion (IsOlder e) us) (λ e. AllByRecursion (IsOlder e) (shares_after_deal us d)) (λ e b c. all_after (IsOlder e) d us b c) ds l h
