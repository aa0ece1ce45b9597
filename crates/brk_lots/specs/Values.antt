-- The buy value and the sell value of closed shares.
use Rattle.std.specs.Prelude.{◌≡◌, ℕ, ◌+◌, ◌*◌, List}
use Rattle.brk_money.specs.declared.side.Side.{Side}
use Rattle.brk_model.specs.Shares.{Share, Deal, buy_value, sell_value}
use Rattle.brk_lots.specs.Walks.{closed_share_count, touches_of_first_shares, cost_of_first_shares}
use Rattle.brk_lots.specs.declared.lot.Lot.{Lot}
use Rattle.brk_lots.specs.declared.lot.Touch.{Touch}
use Rattle.brk_lots.specs.declared.closed_values.Values.{Values}
use Rattle.brk_lots.specs.ClosedValues.{closing_values_by_side}

-- The buy value and the sell value, in cents, of the shares of `shares` that the deal `d` closes.
abbrev pub closing_values_of_deal : Deal → List Share → Values
closing_values_of_deal d shares = record { buy_value = buy_value d shares; sell_value = sell_value d shares }

-- `taken`, `over` and `worth` are the result of a trade of `qty` shares at `price` cents each on
-- `side` against the lots `ls`, from the first on: the changes of the lots that it closes or
-- reduces, in sequence, the part of `qty` that closes no share, and the buy and sell value of the
-- closed shares, in cents. It closes none if the lots have its side. Supposes that all lots have
-- one side, and none has 0 shares.
pub record IsResultOfTradeAgainstLots (side : Side) (qty price : ℕ) (ls : List Lot) (taken : List Touch) (over : ℕ) (worth : Values) : Type 0 where
  pub left : over + closed_share_count side qty ls ≡ qty
  pub rows : taken ≡ touches_of_first_shares (closed_share_count side qty ls) ls
  pub values : worth ≡ closing_values_by_side side (closed_share_count side qty ls * price) (cost_of_first_shares (closed_share_count side qty ls) ls)
