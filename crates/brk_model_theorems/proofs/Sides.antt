-- Shares of one side, and what a deal adds to them.
use Rattle.std.proofs.Common.{◌≡◌, ◌<◌, ◌≤◌, ◌⊎◌, inl, inr, ℕ, ◌+◌, ◌-◌, Bool, true, false, not, cond, List, [], ◌∷◌, ◌++◌, refl, sym, ◌∙◌, ap, length, take}
use Rattle.std.proofs.Common.{drop, arith, length-drop, pos, zero, suc, min, replicate, ◌+ℤ◌}
use Rattle.std.specs.Prelude.{fold}
use Rattle.std.specs.List.{AllByRecursion}
use Rattle.std.proofs.lemmas.List.{length-take, length-replicate}
use Rattle.brk_money.specs.Kinds.{is_same_side}
use Rattle.brk_money.specs.declared.side.Side.{Side}
use Rattle.brk_money.specs.declared.side.Side.TheVariants.{Buy, Sell}
use Rattle.std.proofs.lemmas.Int.{ints}
use Rattle.std.proofs.lemmas.Bool.{cases_lt}
use Rattle.brk_model.specs.Lists.{total_by}
use Rattle.brk_model.specs.Shares.{Share, Deal, closed_share_count_of_deal, remaining_shares, opened_shares, shares_after_deal, replay, signed_by_side, net_share_count}
use Rattle.brk_model_theorems.specs.Positions.{AllSharesHaveSide, AllSharesHaveSameSide}
use Rattle.brk_model_theorems.proofs.Sums.{total_by-append}

-- ---- elements of a list that is cut, joined or repeated

pub All-append : {X : Type 0} (P : X → Type 0) (xs ys : List X) → AllByRecursion P xs → AllByRecursion P ys → AllByRecursion P (xs ++ ys)
All-append P [] ys g h = h
All-append P (x ∷ xs) ys g h = (g.0, All-append P xs ys g.1 h)

All-take : {X : Type 0} (P : X → Type 0) (n : ℕ) (xs : List X) → AllByRecursion P xs → AllByRecursion P (take n xs)
All-take P zero xs h = tt
All-take P (suc n) [] h = tt
All-take P (suc n) (x ∷ xs) h = (h.0, All-take P n xs h.1)

All-drop : {X : Type 0} (P : X → Type 0) (n : ℕ) (xs : List X) → AllByRecursion P xs → AllByRecursion P (drop n xs)
All-drop P zero xs h = h
All-drop P (suc n) [] h = tt
All-drop P (suc n) (x ∷ xs) h = All-drop P n xs h.1

All-replicate : {X : Type 0} (P : X → Type 0) (n : ℕ) (x : X) → P x → AllByRecursion P (replicate n x)
All-replicate P zero x h = tt
All-replicate P (suc n) x h = (h, All-replicate P n x h)

-- what holds of all shares holds of those that stay
pub kept-All : (P : Share → Type 0) (d : Deal) (shares : List Share) → AllByRecursion P shares → AllByRecursion P (remaining_shares d shares)
kept-All P d shares h = at d.is_lifo
  where
    at : (b : Bool) → AllByRecursion P (cond b (take (length shares - closed_share_count_of_deal d shares) shares) (drop (closed_share_count_of_deal d shares) shares))
    at true = All-take P (length shares - closed_share_count_of_deal d shares) shares h
    at false = All-drop P (closed_share_count_of_deal d shares) shares h

-- and of those after a deal, where it holds of the one that it opens
pub after-All : (P : Share → Type 0) (d : Deal) (shares : List Share) → AllByRecursion P shares → P (record { side = d.side; trade = d.trade; price = d.price; stamp = d.stamp })
    → AllByRecursion P (shares_after_deal shares d)
unfolding shares_after_deal
after-All P d shares h p = All-append P (remaining_shares d shares) (opened_shares d shares) (kept-All P d shares h) (All-replicate P (d.qty - closed_share_count_of_deal d shares) _ p)

-- ---- counts

pub signed_sum : (side : Side) (m n : ℕ) → signed_by_side side m +ℤ signed_by_side side n ≡ signed_by_side side (m + n)
signed_sum Buy m n = omega (arith, ints)
signed_sum Sell m n = omega (arith, ints)

-- shares of one side, counted with their signs
pub net-one_side : (side : Side) (shares : List Share) → AllSharesHaveSide side shares → net_share_count shares ≡ signed_by_side side (length shares)
unfolding total_by
net-one_side Buy [] h = refl
net-one_side Sell [] h = refl
net-one_side side (share ∷ shares) h =
    ap (λ s. signed_by_side s 1 +ℤ net_share_count shares) h.0 ∙ ap (λ y. signed_by_side side 1 +ℤ y) (net-one_side side shares h.1)
    ∙ signed_sum side 1 (length shares) ∙ ap (signed_by_side side) (omega arith)

length-kept : (d : Deal) (shares : List Share) → length (remaining_shares d shares) ≡ length shares - closed_share_count_of_deal d shares
length-kept d shares = at d.is_lifo
  where
    at : (b : Bool) → length (cond b (take (length shares - closed_share_count_of_deal d shares) shares) (drop (closed_share_count_of_deal d shares) shares))
        ≡ length shares - closed_share_count_of_deal d shares
    at true = length-take (length shares - closed_share_count_of_deal d shares) shares ∙ omega arith
    at false = length-drop (closed_share_count_of_deal d shares) shares

opened-All : (d : Deal) (shares : List Share) → AllSharesHaveSide d.side (opened_shares d shares)
opened-All d shares = All-replicate (λ share. share.side ≡ d.side) (d.qty - closed_share_count_of_deal d shares) _ refl

-- the position after a deal, counted
net-after : (side : Side) (d : Deal) (shares : List Share) → AllSharesHaveSide side shares
    → net_share_count (shares_after_deal shares d) ≡ signed_by_side side (length shares - closed_share_count_of_deal d shares) +ℤ signed_by_side d.side (d.qty - closed_share_count_of_deal d shares)
unfolding shares_after_deal
net-after side d shares h =
    total_by-append (λ share. signed_by_side share.side 1) (remaining_shares d shares) (opened_shares d shares)
    ∙ ap (λ x. x +ℤ net_share_count (opened_shares d shares))
    (net-one_side side (remaining_shares d shares) (kept-All (λ share. share.side ≡ side) d shares h) ∙ ap (signed_by_side side) (length-kept d shares))
    ∙ ap (λ y. signed_by_side side (length shares - closed_share_count_of_deal d shares) +ℤ y)
    (net-one_side d.side (opened_shares d shares) (opened-All d shares) ∙ ap (signed_by_side d.side) (length-replicate _ _))

-- what closes and what opens add up to the deal
counts : (side other : Side) (n q : ℕ)
    → signed_by_side side (n - cond (not (is_same_side side other)) (min q n) 0) +ℤ signed_by_side other (q - cond (not (is_same_side side other)) (min q n) 0)
    ≡ signed_by_side side n +ℤ signed_by_side other q
counts Buy Buy n q = omega (arith, ints)
counts Sell Sell n q = omega (arith, ints)
counts Buy Sell n q = omega (arith, ints)
counts Sell Buy n q = omega (arith, ints)

-- a deal moves the sum by its signed quantity
pub net-step : (side : Side) (d : Deal) (shares : List Share) → AllSharesHaveSide side shares → net_share_count (shares_after_deal shares d) ≡ net_share_count shares +ℤ signed_by_side d.side d.qty
unfolding total_by
net-step side d [] h = net-after d.side d [] tt ∙ empty d.side d.qty
  where
    empty : (s : Side) (q : ℕ) → signed_by_side s (0 - 0) +ℤ signed_by_side s (q - 0) ≡ pos 0 +ℤ signed_by_side s q
    empty Buy q = omega (arith, ints)
    empty Sell q = omega (arith, ints)
net-step side d (share ∷ shares) h =
    net-after side d (share ∷ shares) h
    ∙ ap (λ s. signed_by_side side (length (share ∷ shares) - cond (not (is_same_side s d.side)) (min d.qty (length (share ∷ shares))) 0) +ℤ signed_by_side
    d.side (d.qty - cond (not (is_same_side s d.side)) (min d.qty (length (share ∷ shares))) 0)) h.0
    ∙ counts side d.side (length (share ∷ shares)) d.qty
    ∙ ap (λ y. y +ℤ signed_by_side d.side d.qty) (sym (net-one_side side (share ∷ shares) h))

-- ---- one side

-- none of no shares
All-none : (P : Share → Type 0) (n : ℕ) (x : Share) → n ≡ 0 → AllByRecursion P (replicate n x)
All-none P zero x e = tt
All-none P (suc n) x e = absurd (omega (e, arith))

take-none : (P : Share → Type 0) (n : ℕ) (xs : List Share) → n ≡ 0 → AllByRecursion P (take n xs)
take-none P zero xs e = tt
take-none P (suc n) xs e = absurd (omega (e, arith))

drop-all : (P : Share → Type 0) (n : ℕ) (xs : List Share) → length xs ≤ n → AllByRecursion P (drop n xs)
drop-all P zero [] h = tt
drop-all P zero (x ∷ xs) h = absurd (omega (h, arith))
drop-all P (suc n) [] h = tt
drop-all P (suc n) (x ∷ xs) h = drop-all P n xs (omega (h, arith))

-- a deal that closes all shares leaves none of them
kept-none : (P : Share → Type 0) (d : Deal) (shares : List Share) → closed_share_count_of_deal d shares ≡ length shares → AllByRecursion P (remaining_shares d shares)
kept-none P d shares e = at d.is_lifo
  where
    at : (b : Bool) → AllByRecursion P (cond b (take (length shares - closed_share_count_of_deal d shares) shares) (drop (closed_share_count_of_deal d shares) shares))
    at true = take-none P (length shares - closed_share_count_of_deal d shares) shares (omega (e, arith))
    at false = drop-all P (closed_share_count_of_deal d shares) shares (omega (e, arith))

by_count : (side : Side) (d : Deal) (shares : List Share) → AllSharesHaveSide side shares → closed_share_count_of_deal d shares ≡ min d.qty (length shares)
    → AllSharesHaveSameSide (shares_after_deal shares d)
unfolding shares_after_deal
by_count side d shares h e = at (cases_lt d.qty (length shares))
  where
    at : (d.qty < length shares) ⊎ (length shares ≤ d.qty) → AllSharesHaveSameSide (shares_after_deal shares d)
    at (inl l) = (
      side,
      All-append (λ share. share.side ≡ side) (remaining_shares d shares) (opened_shares d shares)
          (kept-All (λ share. share.side ≡ side) d shares h) (All-none (λ share. share.side ≡ side) (d.qty - closed_share_count_of_deal d shares) _ (omega (l, e, arith))),
    )
    at (inr l) = (
      d.side,
      All-append (λ share. share.side ≡ d.side) (remaining_shares d shares) (opened_shares d shares)
          (kept-none (λ share. share.side ≡ d.side) d shares (omega (l, e, arith))) (opened-All d shares),
    )

side-is : (s t : Side) → is_same_side s t ≡ true → s ≡ t
side-is Buy Buy h = refl
side-is Sell Sell h = refl
side-is Buy Sell h = absurd (cc)
side-is Sell Buy h = absurd (cc)

one_sided-after : (side : Side) (d : Deal) (shares : List Share) → AllSharesHaveSide side shares → AllSharesHaveSameSide (shares_after_deal shares d)
one_sided-after side d [] h = (d.side, after-All (λ share. share.side ≡ d.side) d [] tt refl)
one_sided-after side d (share ∷ shares) h = at (is_same_side share.side d.side) refl
  where
    at : (b : Bool) → is_same_side share.side d.side ≡ b → AllSharesHaveSameSide (shares_after_deal (share ∷ shares) d)
    at true e = (side, after-All (λ s. s.side ≡ side) d (share ∷ shares) h (sym (side-is share.side d.side e) ∙ h.0))
    at false e = by_count side d (share ∷ shares) h (ap (λ b. cond (not b) (min d.qty (length (share ∷ shares))) 0) e)

one_sided-fold : (deals : List Deal) (shares : List Share) → AllSharesHaveSameSide shares → AllSharesHaveSameSide (fold shares_after_deal shares deals)
one_sided-fold [] shares h = h
one_sided-fold (d ∷ deals) shares h = one_sided-fold deals (shares_after_deal shares d) (one_sided-after h.0 d shares h.1)

-- all shares of a position are of one side, whatever its deals are
pub one_sided : (deals : List Deal) → AllSharesHaveSameSide (replay deals)
one_sided deals = one_sided-fold deals [] (Buy, tt)

net-fold : (deals : List Deal) (shares : List Share) → AllSharesHaveSameSide shares
    → net_share_count (fold shares_after_deal shares deals) ≡ net_share_count shares +ℤ total_by (λ d. signed_by_side d.side d.qty) deals
unfolding total_by
net-fold [] shares h = omega (arith, ints)
net-fold (d ∷ deals) shares h =
    let k = net-fold deals (shares_after_deal shares d) (one_sided-after h.0 d shares h.1) in
    let s = net-step h.0 d shares h.1 in omega (k, s, arith, ints)

-- the shares of a position, counted with their signs, are the sum of its deals
pub net-replay : (deals : List Deal) → net_share_count (replay deals) ≡ total_by (λ d. signed_by_side d.side d.qty) deals
unfolding total_by
net-replay deals = let k = net-fold deals [] (Buy, tt) in omega (k, arith, ints)
