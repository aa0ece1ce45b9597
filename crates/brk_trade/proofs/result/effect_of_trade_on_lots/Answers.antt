use Rattle.std.proofs.Common.{arith, refl}
use Rattle.brk_trade.proofs.result.effect_of_trade_on_lots.Goals as goal

pub returns-then-is_trade_closing_lots-clause-source : goal.returns-then-is_trade_closing_lots-clause-source
returns-then-is_trade_closing_lots-clause-source g c = c.close_lots.ensures.source

pub returns-then-is_trade_closing_lots-clause-sold : goal.returns-then-is_trade_closing_lots-clause-sold
returns-then-is_trade_closing_lots-clause-sold g c = c.close_lots.ensures.sold

pub returns-else-is_trade_closing_lots-clause-source : goal.returns-else-is_trade_closing_lots-clause-source
returns-else-is_trade_closing_lots-clause-source g c =
    record {
      leads = g.met.L.LotSource.reflexive c.args.source.now;
      requests = omega arith;
      faulted = refl;
      fault = tt;
      remaining = λ ls given. (0, given.1);
    }

pub returns-else-is_trade_closing_lots-clause-asked : goal.returns-else-is_trade_closing_lots-clause-asked
returns-else-is_trade_closing_lots-clause-asked g c ls lots = omega arith

pub returns-else-is_trade_closing_lots-clause-reads_no_lot : goal.returns-else-is_trade_closing_lots-clause-reads_no_lot
returns-else-is_trade_closing_lots-clause-reads_no_lot g c closes = refl
