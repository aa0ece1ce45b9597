use Rattle.std.proofs.Common.{◌≡◌, drop}
use Rattle.std.specs.Prelude.{fold}
use Rattle.brk_trade_plans.specs.Feed.{price_span_of_first_symbol, span_including_tick}
use Rattle.brk_trade_plans.proofs.span.first_symbol_price_span.Given as goal

-- what the ticks that are left make of it is what all of them make of the first
abbrev pub invariant-loop-tick : goal.invariant-loop-tick
invariant-loop-tick l = fold (span_including_tick l.first.symbol) l.span (drop l.tick-index l.others) ≡ price_span_of_first_symbol l.first l.others
