-- The checks of cancels and feeds against the tables.
use Rattle.std.specs.Prelude.{ℕ, true, not, List, [], ◌∷◌, Option, Some, None}
use Rattle.std.specs.List.{list_any}
use Rattle.brk_money.specs.Kinds.{is_same_trade_status}
use Rattle.brk_money.specs.declared.refusal.Refusal.TheVariants.{NoSecurity, NoTrade, WrongStatus, Range}
use Rattle.brk_money.specs.declared.refusal.Limit.TheVariants as limit
use Rattle.brk_money.specs.declared.status.Status.TheVariants.{Pending}
use Rattle.brk_model.specs.Tables.{Tables, TradeRow}
use Rattle.brk_model.specs.Commands.{Tick}
use Rattle.brk_model.specs.Tests.{RefusalCheck}
use Rattle.brk_trade_plans.specs.Reference.{later_stamp_check}
use Rattle.brk_trade_books.specs.Ticks.{is_symbol_volume_above_limit, is_tick_of_unknown_symbol}

-- ---- a cancel

-- The checks of a cancel against the row of its trade, in order: the trade exists (`NoTrade`, for
-- `None`) and is pending (`WrongStatus`, for a row), and the last stamp `last`, if any, is not the
-- greatest (`ClockEnd`), whatever the clock reading `now`. The first to fail gives the refusal.
abbrev pub cancel_checks_on_trade_row : Option TradeRow → Option ℕ → ℕ → List RefusalCheck
cancel_checks_on_trade_row None last now = (true, NoTrade) ∷ later_stamp_check last now ∷ []
cancel_checks_on_trade_row (Some r) last now = (not (is_same_trade_status r.status Pending), WrongStatus r.status) ∷ later_stamp_check last now ∷ []

-- ---- a feed

-- The checks of a feed against the tables, in order: the symbol of each tick has a row of
-- LAST_TRADE (`NoSecurity`), no volume of these symbols exceeds 10^17 shares after all ticks
-- (`Range(Volume)`), and the last stamp `last`, if any, is not the greatest (`ClockEnd`), whatever
-- the clock reading `now`. The first to fail gives the refusal.
abbrev pub feed_checks_on_tables : Tables → List Tick → Option ℕ → ℕ → List RefusalCheck
feed_checks_on_tables t ticks last now =
    (list_any (is_tick_of_unknown_symbol t) ticks, NoSecurity) ∷ (list_any (is_symbol_volume_above_limit t ticks) ticks, Range limit.Volume)
    ∷ later_stamp_check last now ∷ []
