-- The limits of what a completion records: shares, taxes, commissions and amounts.
use Rattle.std.proofs.Common.{◌≤◌, ℕ, zero, suc, ◌+◌, ◌-◌, ◌*◌, ◌^◌, min, Bool, true, false, cond, List, [], ◌∷◌, length, arith, ℤ, pos, negsuc, ◌-ℤ◌, ◌≤ℤ◌, mul-le-mul}
use Rattle.std.specs.Prelude.{take, drop, replicate, fold, sum_by, nat_abs}
use Rattle.std.specs.List.{AllByRecursion}
use Rattle.std.proofs.lemmas.Int.{ints}
use Rattle.std.proofs.lemmas.List.{length-take, length-drop}
use Rattle.std.proofs.lemmas.List.Sums.{sum_by-cons}
use Rattle.brk_money.specs.Amounts.{commission, half_up, tax}
use Rattle.brk_money.specs.declared.side.Side.{Side}
use Rattle.brk_money.specs.declared.side.Side.TheVariants.{Buy, Sell}
use Rattle.brk_model.specs.Shares.{Share, Deal, closed_share_count_of_deal, closed_shares, closed_value_at_deal_price, realised_gain, remaining_shares}
use Rattle.brk_model.specs.Shares.{is_opposite_to_position, opened_share, opened_shares, closed_value_at_opening_prices, sell_value, sell_value_for_side}
use Rattle.brk_model.specs.Shares.{shares_after_deal, buy_value}
use Rattle.brk_model.specs.Derived.{signed_proceeds}
use Rattle.brk_model.specs.Orders.{tax_on_deal}
use Rattle.brk_model.specs.Base.{Base, customer_id_of_account, is_taxable_account, tax_rate_sum_of_customer}
use Rattle.brk_trade_books.proofs.Same.{All-append}

-- ---- shares

pub All-take : {X : Type 0} (P : X → Type 0) (n : ℕ) (xs : List X) → AllByRecursion P xs → AllByRecursion P (take n xs)
All-take P zero xs h = tt
All-take P (suc n) [] h = tt
All-take P (suc n) (x ∷ xs) h = (h.0, All-take P n xs h.1)

All-drop : {X : Type 0} (P : X → Type 0) (n : ℕ) (xs : List X) → AllByRecursion P xs → AllByRecursion P (drop n xs)
All-drop P zero xs h = h
All-drop P (suc n) [] h = tt
All-drop P (suc n) (x ∷ xs) h = All-drop P n xs h.1

All-replicate : {X : Type 0} (P : X → Type 0) (n : ℕ) (x : X) → P x → AllByRecursion P (replicate n x)
All-replicate P zero x h = tt
All-replicate P (suc n) x h = (h, All-replicate P n x h)

All-cond : {X : Type 0} (P : X → Type 0) (b : Bool) (xs ys : List X) → AllByRecursion P xs → AllByRecursion P ys → AllByRecursion P (cond b xs ys)
All-cond P true xs ys g h = g
All-cond P false xs ys g h = h

after_all : (P : Share → Type 0) (shares : List Share) (d : Deal) → AllByRecursion P shares → P (opened_share d) → AllByRecursion P (shares_after_deal shares d)
unfolding shares_after_deal
after_all P shares d h o =
    All-append P (remaining_shares d shares) (opened_shares d shares)
    (All-cond P d.is_lifo (take (length shares - closed_share_count_of_deal d shares) shares) (drop (closed_share_count_of_deal d shares) shares)
    (All-take P (length shares - closed_share_count_of_deal d shares) shares h) (All-drop P (closed_share_count_of_deal d shares) shares h))
    (All-replicate P (d.qty - closed_share_count_of_deal d shares) (opened_share d) o)

-- what holds of each deal's share holds of each share that is left
pub replay_all : (P : Share → Type 0) (shares : List Share) (deals : List Deal) → AllByRecursion P shares → AllByRecursion (λ d. P (opened_share d)) deals
    → AllByRecursion P (fold shares_after_deal shares deals)
replay_all P shares [] h o = h
replay_all P shares (d ∷ deals) h o = replay_all P (shares_after_deal shares d) deals (after_all P shares d h o.0) o.1

-- ---- values

count_low : (b : Bool) (q n : ℕ) → cond b (min q n) 0 ≤ q
count_low true q n = omega arith
count_low false q n = omega arith

-- a share's price is within its limit
abbrev pub IsCheap : Share → Type 0
IsCheap share = share.price ≤ 9999999

sum_high : (shares : List Share) → AllByRecursion IsCheap shares → sum_by (λ share. share.price) shares ≤ length shares * 9999999
sum_high [] h = omega arith
sum_high (s ∷ shares) h =
    let c = sum_by-cons (λ (share : Share). share.price) s shares in
    let ih = sum_high shares h.1 in
    let p : s.price ≤ 9999999 = h.0 in
    omega (arith, c, ih, p)

closed_long : (d : Deal) (shares : List Share) → length (closed_shares d shares) ≤ closed_share_count_of_deal d shares
closed_long d shares = by_end d.is_lifo
  where
    k : ℕ
    k = closed_share_count_of_deal d shares

    by_end : (b : Bool) → length (cond b (drop (length shares - k) shares) (take k shares)) ≤ k
    by_end true = let e = length-drop (length shares - k) shares in omega (arith, e)
    by_end false = let e = length-take k shares in omega (arith, e)

opening_high : (d : Deal) (shares : List Share) → d.qty ≤ 9999999 → AllByRecursion IsCheap shares → closed_value_at_opening_prices d shares ≤ 10 ^ 14
opening_high d shares q h =
    let cheap : AllByRecursion IsCheap (closed_shares d shares) =
    All-cond IsCheap d.is_lifo (drop (length shares - closed_share_count_of_deal d shares) shares) (take (closed_share_count_of_deal d shares) shares)
    (All-drop IsCheap (length shares - closed_share_count_of_deal d shares) shares h) (All-take IsCheap (closed_share_count_of_deal d shares) shares h) in
    let s = sum_high (closed_shares d shares) cheap in
    let l = closed_long d shares in
    let c = count_low (is_opposite_to_position d shares) d.qty (length shares) in
    omega (arith, s, l, c, q)

closing_high : (d : Deal) (shares : List Share) → d.qty ≤ 9999999 → d.price ≤ 9999999 → closed_value_at_deal_price d shares ≤ 10 ^ 14
closing_high d shares q p =
    let c = count_low (is_opposite_to_position d shares) d.qty (length shares) in
    let k : closed_share_count_of_deal d shares ≤ 9999999 = omega (arith, c, q) in
    let all : closed_share_count_of_deal d shares * d.price ≤ 9999999 * 9999999 = mul-le-mul k p in
    omega (arith, all)

sell_high : (d : Deal) (shares : List Share) → d.qty ≤ 9999999 → d.price ≤ 9999999 → AllByRecursion IsCheap shares → sell_value d shares ≤ 10 ^ 14
unfolding sell_value
sell_high d shares q p h = by_side d.side
  where
    by_side : (s : Side) → sell_value_for_side s d shares ≤ 10 ^ 14
    by_side Sell = closing_high d shares q p
    by_side Buy = opening_high d shares q h

taxed : (n : ℕ) → n ≤ 10 ^ 19 → half_up n 100000 ≤ 10 ^ 14
taxed n h = omega arith

tax_high : (gain : ℤ) (rates : ℕ) → gain ≤ℤ pos (10 ^ 14) → rates ≤ 100000 → tax gain rates ≤ 10 ^ 14
tax_high (pos gain) rates g r =
    let most : gain ≤ 10 ^ 14 = omega (arith, ints, g) in
    let all : gain * rates ≤ 10 ^ 14 * 100000 = mul-le-mul most r in
    taxed (gain * rates) (omega (arith, all))
tax_high (negsuc n) rates g r = omega arith

gained : (s b : ℕ) → s ≤ 10 ^ 14 → (pos s -ℤ pos b) ≤ℤ pos (10 ^ 14)
gained s b h = omega (arith, ints, h)

-- the tax on a completion
pub tax_within : (base : Base) (account : ℕ) (d : Deal) (shares : List Share) → d.qty ≤ 9999999 → d.price ≤ 9999999 → AllByRecursion IsCheap shares
    → tax_rate_sum_of_customer base (customer_id_of_account base account) ≤ 100000 → tax_on_deal base account d shares ≤ 10 ^ 14
tax_within base account d shares q p h r = by_status (is_taxable_account base account)
  where
    by_status : (b : Bool) → cond b (tax (realised_gain d shares) (tax_rate_sum_of_customer base (customer_id_of_account base account))) 0 ≤ 10 ^ 14
    by_status true = tax_high (realised_gain d shares) (tax_rate_sum_of_customer base (customer_id_of_account base account))
        (gained (sell_value d shares) (buy_value d shares) (sell_high d shares q p h)) r
    by_status false = omega arith

halved : (n : ℕ) → n ≤ 10000 * 99999980000001 → half_up n 10000 ≤ 10 ^ 14
halved n h = omega arith

-- a commission
pub commission_low : (rate qty price : ℕ) → rate ≤ 10000 → qty ≤ 9999999 → price ≤ 9999999 → commission rate qty price ≤ 10 ^ 14
commission_low rate qty price r q p =
    let shares : rate * qty ≤ 10000 * 9999999 = mul-le-mul r q in
    let all : rate * qty * price ≤ 10000 * 9999999 * 9999999 = mul-le-mul shares p in
    halved (rate * qty * price) (omega (arith, all))

-- what a trade settles for
settled : (s : Side) (v w : ℕ) → v ≤ 10 ^ 14 → w ≤ 10 ^ 15 → nat_abs (signed_proceeds s v -ℤ pos w) ≤ 10 ^ 17
settled Sell v w g h = omega (arith, ints, g, h)
settled Buy v w g h = omega (arith, ints, g, h)

withheld_low : (b : Bool) (n : ℕ) → cond b n 0 ≤ n
withheld_low true n = omega arith
withheld_low false n = omega arith

pub amount_within : (side : Side) (qty price charge commission tax : ℕ) (off : Bool) → qty ≤ 9999999 → price ≤ 9999999 → charge ≤ 1000000 → commission ≤ 10 ^ 14 → tax ≤ 10 ^ 14
    → nat_abs (signed_proceeds side (qty * price) -ℤ pos (charge + commission + cond off tax 0)) ≤ 10 ^ 17
amount_within side qty price charge commission tax off q p c m t =
    let all : qty * price ≤ 9999999 * 9999999 = mul-le-mul q p in
    let w = withheld_low off tax in
    settled side (qty * price) (charge + commission + cond off tax 0) (omega (arith, all)) (omega (arith, c, m, t, w))
