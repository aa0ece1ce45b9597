-- The condition under which a trade closes lots.
use Rattle.std.specs.Prelude.{ℤ, pos, negsuc, Bool, false, true, nat_lt}
use Rattle.brk_money.specs.declared.side.Side.{Side}
use Rattle.brk_money.specs.declared.side.Side.TheVariants.{Buy, Sell}

-- True if a trade of the side closes lots: a purchase if the shares are below 0, a sale if above.
abbrev pub is_trade_closing_lots : Side → ℤ → Bool
is_trade_closing_lots Buy (pos n) = false
is_trade_closing_lots Buy (negsuc n) = true
is_trade_closing_lots Sell (pos n) = nat_lt 0 n
is_trade_closing_lots Sell (negsuc n) = false
