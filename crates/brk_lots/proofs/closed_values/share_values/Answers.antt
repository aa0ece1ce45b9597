use Rattle.std.proofs.Common.{rules, tests, arith}
use Rattle.brk_lots.proofs.closed_values.share_values.Goals as goal

pub returns-in-Buy : goal.returns-in-Buy
returns-in-Buy c = search (rules, tests, arith)

pub returns-in-Sell : goal.returns-in-Sell
returns-in-Sell c = search (rules, tests, arith)
