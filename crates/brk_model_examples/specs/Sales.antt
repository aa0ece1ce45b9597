-- Two lots that were bought, and deals against them.
use Rattle.std.specs.Prelude.{ℕ, Bool, List, [], ◌∷◌, length}
use Rattle.brk_money.specs.declared.side.Side.{Side}
use Rattle.brk_money.specs.declared.side.Side.TheVariants.{Buy}
use Rattle.brk_model.specs.Shares.{Deal, Touch, touches_of_existing_lots, replay, opened_shares, buy_value, sell_value}

-- The deals of two purchases: 100 shares at 10.10, and 200 shares at 12.00.
abbrev pub two_purchase_deals : List Deal
two_purchase_deals =
    record { trade = 1; side = Buy; qty = 100; price = 1010; stamp = 1; is_lifo = Bool.false }
    ∷ record { trade = 2; side = Buy; qty = 200; price = 1200; stamp = 2; is_lifo = Bool.false } ∷ []

-- A deal of `qty` shares at 13.00 on the side `side`, later than the deals `two_purchase_deals`. If
-- it sells, it closes the last shares first if `is_lifo` is true, otherwise the first shares first;
-- if it buys, it closes none of their shares.
abbrev pub deal_against_two_lots : Side → ℕ → Bool → Deal
deal_against_two_lots side qty is_lifo = record { trade = 9; side = side; qty = qty; price = 1300; stamp = 3; is_lifo = is_lifo }

-- The effect of a deal on a position: the changes of the existing lots that it closes or reduces,
-- in the sequence of their first shares, the number of shares that it opens, and the buy value and
-- the sell value of the shares that it closes, in cents.
pub record DealEffect : Type 0 where
  pub touched : List Touch
  pub opened : ℕ
  pub buy_value : ℕ
  pub sell_value : ℕ

-- The effect of the deal `d` on the position after `two_purchase_deals`.
unfoldable pub effect_of_deal_on_two_lots : Deal → DealEffect
effect_of_deal_on_two_lots d = record {
  touched = touches_of_existing_lots d (replay two_purchase_deals);
  opened = length (opened_shares d (replay two_purchase_deals));
  buy_value = buy_value d (replay two_purchase_deals);
  sell_value = sell_value d (replay two_purchase_deals);
}
