-- The types of orders, each with a price unless it is a market type.
use Rattle.std.specs.Prelude.{ℕ, Option, Some, None}
use Rattle.brk_money.specs.declared.order_type.OrderType.{OrderType}
use Rattle.brk_money.specs.declared.order_type.OrderType.TheVariants as asked
use Rattle.brk_money.specs.declared.trade_type.TradeType.{TradeType}
use Rattle.brk_money.specs.declared.trade_type.TradeType.TheVariants.{MarketBuy, MarketSell, StopLoss, LimitSell, LimitBuy}

-- The type of the trade that an order of this type creates.
abbrev pub trade_type_of_order_type : OrderType → TradeType
trade_type_of_order_type asked.MarketBuy = MarketBuy
trade_type_of_order_type asked.MarketSell = MarketSell
trade_type_of_order_type (asked.StopLoss price) = StopLoss
trade_type_of_order_type (asked.LimitSell price) = LimitSell
trade_type_of_order_type (asked.LimitBuy price) = LimitBuy

-- The price, in cents, that an order of this type asks for; none for a market type.
abbrev pub price_of_order_type : OrderType → Option ℕ
price_of_order_type asked.MarketBuy = None
price_of_order_type asked.MarketSell = None
price_of_order_type (asked.StopLoss price) = Some price
price_of_order_type (asked.LimitSell price) = Some price
price_of_order_type (asked.LimitBuy price) = Some price
