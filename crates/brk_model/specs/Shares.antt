-- A position as a list of single shares, and the shares that a deal closes and opens (Trade-Result,
-- the holdings of an account in a security).
use Rattle.std.specs.Prelude.{ℕ, ◌-◌, ◌*◌, min, Bool, false, not, ◌==◌, if◌then◌else◌, List, [], ◌∷◌, ◌++◌, length, map, filter, fold, take, drop, replicate}
use Rattle.std.specs.Prelude.{sum_by, ℤ, pos, neg_ℤ, ◌-ℤ◌}
use Rattle.brk_money.specs.Kinds.{is_same_side}
use Rattle.brk_model.specs.Lists.{total_by, is_zero}
use Rattle.brk_money.specs.declared.side.Side.{Side}
use Rattle.brk_money.specs.declared.side.Side.TheVariants.{Buy, Sell}

-- One share of a position: its side (bought or sold short), and the id, the price in cents and the
-- stamp of the trade that opened it.
pub record Share : Type 0 where
  pub side : Side
  pub trade : ℕ
  pub price : ℕ
  pub stamp : ℕ

-- The effect of the trade `trade`: at `stamp` it buys or sells (`side`) `qty` shares at `price`
-- cents each, and closes shares of its position, the last first if `is_lifo`, otherwise the first.
pub record Deal : Type 0 where
  pub trade : ℕ
  pub side : Side
  pub qty : ℕ
  pub price : ℕ
  pub stamp : ℕ
  pub is_lifo : Bool

-- True if the first share of the position exists and has another side than the deal `d`.
abbrev pub is_opposite_to_position : Deal → List Share → Bool
is_opposite_to_position d [] = false
is_opposite_to_position d (share ∷ shares) = not (is_same_side share.side d.side)

-- The number of shares that the deal `d` closes: the smaller of its quantity and the number of
-- `shares` if `is_opposite_to_position` is true, otherwise 0.
abbrev pub closed_share_count_of_deal : Deal → List Share → ℕ
closed_share_count_of_deal d shares = if is_opposite_to_position d shares then min d.qty (length shares) else 0

-- The shares of the position `shares` that the deal `d` closes, `closed_share_count_of_deal` in
-- number and in their sequence: the last ones if `d.is_lifo`, otherwise the first ones.
abbrev pub closed_shares : Deal → List Share → List Share
closed_shares d shares =
    if d.is_lifo then drop (length shares - closed_share_count_of_deal d shares) shares else take (closed_share_count_of_deal d shares) shares

-- The shares of the position `shares` that the deal `d` does not close, in their sequence.
abbrev pub remaining_shares : Deal → List Share → List Share
remaining_shares d shares =
    if d.is_lifo then take (length shares - closed_share_count_of_deal d shares) shares else drop (closed_share_count_of_deal d shares) shares

-- A share that the deal `d` opens, with the side, the trade, the price and the stamp of the deal.
abbrev pub opened_share : Deal → Share
opened_share d = record { side = d.side; trade = d.trade; price = d.price; stamp = d.stamp }

-- The equal shares that the deal `d` opens, as many as its quantity less the shares that it closes.
abbrev pub opened_shares : Deal → List Share → List Share
opened_shares d shares = replicate (d.qty - closed_share_count_of_deal d shares) (opened_share d)

-- The position after the deal `d`: the shares that it does not close, then those that it opens.
unfoldable pub shares_after_deal : List Share → Deal → List Share
shares_after_deal shares d = remaining_shares d shares ++ opened_shares d shares

-- The position after the deals `deals`, applied in sequence to the empty position.
abbrev pub replay : List Deal → List Share
replay deals = fold shares_after_deal [] deals

-- The sum, in cents, of the opening prices of the shares that the deal `d` closes.
abbrev pub closed_value_at_opening_prices : Deal → List Share → ℕ
closed_value_at_opening_prices d shares = sum_by (λ share. share.price) (closed_shares d shares)

-- The number of shares that the deal `d` closes, times its price, in cents.
abbrev pub closed_value_at_deal_price : Deal → List Share → ℕ
closed_value_at_deal_price d shares = closed_share_count_of_deal d shares * d.price

-- The buy value, in cents, of the shares that the deal `d` closes (buy_value of Trade-Order and
-- Trade-Result): at opening prices for the side `Sell`, at the deal's price for `Buy`.
abbrev pub buy_value_for_side : Side → Deal → List Share → ℕ
buy_value_for_side Sell d shares = closed_value_at_opening_prices d shares
buy_value_for_side Buy d shares = closed_value_at_deal_price d shares

-- The buy value, in cents, of the shares that the deal `d` closes, by its own side.
unfoldable pub buy_value : Deal → List Share → ℕ
buy_value d shares = buy_value_for_side d.side d shares

-- The sell value, in cents, of the shares that the deal `d` closes (sell_value of Trade-Order and
-- Trade-Result): at the deal's price for the side `Sell`, at opening prices for `Buy`.
abbrev pub sell_value_for_side : Side → Deal → List Share → ℕ
sell_value_for_side Sell d shares = closed_value_at_deal_price d shares
sell_value_for_side Buy d shares = closed_value_at_opening_prices d shares

-- The sell value, in cents, of the shares that the deal `d` closes, by its own side.
unfoldable pub sell_value : Deal → List Share → ℕ
sell_value d shares = sell_value_for_side d.side d shares

-- The realised gain, in cents, on the shares that the deal `d` closes: sell value less buy value.
abbrev pub realised_gain : Deal → List Share → ℤ
realised_gain d shares = pos (sell_value d shares) -ℤ pos (buy_value d shares)

-- The shares of the list `shares` that the trade with the id `trade` opened.
abbrev pub shares_opened_by_trade : ℕ → List Share → List Share
shares_opened_by_trade trade shares = filter (λ share. share.trade == trade) shares

-- The number `n` with the sign of a side: `n` for a purchase, `-n` for a sale.
abbrev pub signed_by_side : Side → ℕ → ℤ
signed_by_side Buy n = pos n
signed_by_side Sell n = neg_ℤ (pos n)

-- The number of bought shares of the list `shares` less the number of those sold short.
abbrev pub net_share_count : List Share → ℤ
net_share_count shares = total_by (λ share. signed_by_side share.side 1) shares

-- The `net_share_count` of the shares that the trade `trade` opened: below 0 if sold short.
abbrev pub lot_quantity : List Share → ℕ → ℤ
lot_quantity shares trade = net_share_count (shares_opened_by_trade trade shares)

-- The first share of each trade that opened shares of the list `shares`, in sequence.
abbrev pub first_shares_of_lots : List Share → List Share
first_shares_of_lots [] = []
first_shares_of_lots (share ∷ shares) = share ∷ filter (λ other. not (other.trade == share.trade)) (first_shares_of_lots shares)

-- A lot: the shares of a position that one trade opened and that are not closed. `trade`, `price`
-- and `stamp` are its id, price in cents and stamp; `qty` counts the shares, below 0 if sold short.
pub record Lot : Type 0 where
  pub trade : ℕ
  pub price : ℕ
  pub stamp : ℕ
  pub qty : ℤ

-- The lot of the share `share` in the position `shares`, with the net quantity of its trade.
abbrev pub lot_of_share : List Share → Share → Lot
lot_of_share shares share = record { trade = share.trade; price = share.price; stamp = share.stamp; qty = lot_quantity shares share.trade }

-- The lots of the position `shares`, in the sequence of their first shares.
unfoldable pub lots_of_shares : List Share → List Lot
lots_of_shares shares = map (lot_of_share shares) (first_shares_of_lots shares)

-- The effect of a deal on a lot: the id of the trade that opened the lot (`lot`), and its quantity
-- in shares before and after the deal, below 0 if sold short, and 0 if it is not open.
pub record Touch : Type 0 where
  pub lot : ℕ
  pub before : ℤ
  pub after : ℤ

-- The effect of the deal `d` on the lot that the trade with the id `trade` opened: the lot's
-- quantity in the position `shares` before the deal, and in the position after it.
abbrev pub touch_of_lot : ℕ → Deal → List Share → Touch
touch_of_lot trade d shares = record { lot = trade; before = lot_quantity shares trade; after = lot_quantity (shares_after_deal shares d) trade }

-- The effect of the deal `d` on the lot of the share `share` (`touch_of_lot`).
abbrev pub touch_of_lot_with_share : Deal → List Share → Share → Touch
touch_of_lot_with_share d shares share = touch_of_lot share.trade d shares

-- True if the quantities before and after the deal differ in `touch`.
abbrev pub changes_lot_quantity : Touch → Bool
changes_lot_quantity touch = not (is_zero (touch.before -ℤ touch.after))

-- The effects of the deal `d` on the lots of the position `shares` whose quantities it changes, in
-- the sequence of the lots' first shares. Lots without a share in `shares` are left out.
unfoldable pub touches_of_existing_lots : Deal → List Share → List Touch
touches_of_existing_lots d shares = filter changes_lot_quantity (map (touch_of_lot_with_share d shares) (first_shares_of_lots shares))

-- The effects of the deal `d` on the lots whose quantities it changes (HOLDING_HISTORY): on lots of
-- `shares`, in the sequence of their first shares, and then on the lot that it opens, if any.
unfoldable pub lot_touches_of_deal : Deal → List Share → List Touch
lot_touches_of_deal d shares =
    filter changes_lot_quantity (map (touch_of_lot_with_share d shares) (first_shares_of_lots (shares ++ shares_after_deal shares d)))
