-- Market-Feed: ticks set last prices and trigger pending trades.
use Rattle.std.specs.Prelude.{ℕ, ◌+◌, Bool, false, ◌&&◌, nat_le, List, [], ◌∷◌, ◌++◌, map, filter, fold, bytes_eq}
use Rattle.brk_money.specs.declared.trade_type.TradeType.{TradeType}
use Rattle.brk_money.specs.declared.trade_type.TradeType.TheVariants.{MarketBuy, MarketSell, StopLoss, LimitSell, LimitBuy}
use Rattle.brk_money.specs.declared.status.Status.TheVariants.{Pending, Submitted}
use Rattle.brk_model.specs.Lists.{update_where}
use Rattle.brk_model.specs.Records.{Security, Trade}
use Rattle.brk_model.specs.Base.{Base, has_last_status, trade_with_status_change, base_with_updated_trades}
use Rattle.brk_model.specs.Commands.{Tick}

-- True if the market price `price` triggers a trade with the bid `bid`, both in cents: at or below
-- the bid for stop-loss and limit buy, at or above it for limit sell, never for a market type.
abbrev pub is_triggering_price : TradeType → ℕ → ℕ → Bool
is_triggering_price StopLoss bid price = nat_le price bid
is_triggering_price LimitSell bid price = nat_le bid price
is_triggering_price LimitBuy bid price = nat_le price bid
is_triggering_price MarketBuy bid price = false
is_triggering_price MarketSell bid price = false

-- True if the trade `t` is pending, has the symbol of the tick, and the tick's price triggers it.
abbrev pub is_triggered_by_tick : Tick → Trade → Bool
is_triggered_by_tick tick t = has_last_status Pending t && bytes_eq t.symbol tick.symbol && is_triggering_price t.kind t.bid tick.price

-- The security `s` with a tick's price, the stamp `stamp`, and the quantity added to the volume.
abbrev pub security_after_tick : ℕ → Tick → Security → Security
security_after_tick stamp tick s = record s { last_price = tick.price; volume = s.volume + tick.qty; moment = stamp }

-- The base `base` with each security of the tick's symbol updated (`security_after_tick`).
abbrev pub base_with_security_after_tick : ℕ → Tick → Base → Base
base_with_security_after_tick stamp tick base =
    record base { securities = update_where (λ s. bytes_eq s.symbol tick.symbol) (security_after_tick stamp tick) base.securities }

-- The base after the tick `tick` at `stamp`: its security is updated, and a status change to
-- `Submitted` at `stamp` is added to each trade that it triggers.
abbrev pub base_after_tick : ℕ → Base → Tick → Base
base_after_tick stamp base tick =
    base_with_updated_trades (is_triggered_by_tick tick) (trade_with_status_change stamp Submitted) (base_with_security_after_tick stamp tick base)

-- The base after the ticks `ticks`, executed in sequence on `base`, each at `stamp`.
unfoldable pub base_after_ticks : ℕ → Base → List Tick → Base
base_after_ticks stamp base ticks = fold (base_after_tick stamp) base ticks

-- The ids of the trades that the ticks trigger, executed in sequence on `base`, each at `stamp`: in
-- the sequence of the ticks, and for one tick of the trades of the base.
unfoldable pub triggered_trade_ids : ℕ → Base → List Tick → List ℕ
triggered_trade_ids stamp base [] = []
triggered_trade_ids stamp base (tick ∷ ticks) =
    map (λ t. t.id) (filter (is_triggered_by_tick tick) base.trades) ++ triggered_trade_ids stamp (base_after_tick stamp base tick) ticks
