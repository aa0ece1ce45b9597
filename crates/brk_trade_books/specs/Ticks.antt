-- Checks of the ticks of a feed against the last trades of their symbols.
use Rattle.std.specs.Prelude.{ℕ, ◌+◌, Bool, nat_lt, is_none, List, filter, find, sum_by, bytes_eq}
use Rattle.brk_money.specs.Spelling.{Text}
use Rattle.brk_model.specs.Limits.{greatest_amount}
use Rattle.brk_model.specs.Tables.{Tables}
use Rattle.brk_model.specs.Commands.{Tick}
use Rattle.brk_trade_books.specs.TradeReads.{volume_of_symbol}

-- The sum of the quantities of the ticks of the symbol, in shares.
abbrev pub tick_quantity_sum_of_symbol : Text → List Tick → ℕ
tick_quantity_sum_of_symbol symbol ticks = sum_by (λ tick. tick.qty) (filter (λ tick. bytes_eq tick.symbol symbol) ticks)

-- True if the symbol of the tick has no row of LAST_TRADE.
abbrev pub is_tick_of_unknown_symbol : Tables → Tick → Bool
is_tick_of_unknown_symbol t tick = is_none (find (λ r. bytes_eq r.symbol tick.symbol) t.last_trades)

-- True if the volume of the tick's symbol (0 if it has no row of LAST_TRADE) plus the quantities of
-- all `ticks` of this symbol, in shares, exceeds `greatest_amount`, 10^17.
abbrev pub is_symbol_volume_above_limit : Tables → List Tick → Tick → Bool
is_symbol_volume_above_limit t ticks tick = nat_lt greatest_amount (volume_of_symbol t tick.symbol + tick_quantity_sum_of_symbol tick.symbol ticks)
