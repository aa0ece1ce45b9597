-- The buy value and the sell value of closed shares.
use Rattle.std.specs.Prelude.{ℕ}
use Rattle.brk_money.specs.declared.side.Side.{Side}
use Rattle.brk_money.specs.declared.side.Side.TheVariants.{Buy, Sell}
use Rattle.brk_lots.specs.declared.closed_values.Values.{Values}

-- The buy value, in cents: at the trade's price for a purchase, at opening prices for a sale.
abbrev pub buy_value_by_side : Side → ℕ → ℕ → ℕ
buy_value_by_side Buy traded opened = traded
buy_value_by_side Sell traded opened = opened

-- The sell value, in cents: at opening prices for a purchase, at the trade's price for a sale.
abbrev pub sell_value_by_side : Side → ℕ → ℕ → ℕ
sell_value_by_side Buy traded opened = opened
sell_value_by_side Sell traded opened = traded

-- The buy and sell value, in cents, of shares opened at `opened` that a trade closes at `closed`.
abbrev pub closing_values_by_side : Side → ℕ → ℕ → Values
closing_values_by_side side closed opened = record { buy_value = buy_value_by_side side closed opened; sell_value = sell_value_by_side side closed opened }
