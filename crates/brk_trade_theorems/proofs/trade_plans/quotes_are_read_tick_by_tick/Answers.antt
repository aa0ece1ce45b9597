use Rattle.brk_trade_theorems.proofs.Quotes.{no_quotes, quoted_before, not_listed, quote_read}
use Rattle.brk_trade_theorems.proofs.trade_plans.quotes_are_read_tick_by_tick.Goals as goal

pub returns-clause-none : goal.returns-clause-none
returns-clause-none c = no_quotes

pub returns-clause-further : goal.returns-clause-further
returns-clause-further c = λ t all ticks tick quotes given. record {
  again = quoted_before t all ticks tick quotes given;
  not_listed = not_listed t all ticks tick quotes given;
  read = λ quote. quote_read t all ticks tick quotes quote given;
}
