use Rattle.std.proofs.Common.{rules, arith}
use Rattle.brk_lots.proofs.shares.shares_to_close_in_lot.Goals as goal

pub returns : goal.returns
returns c = search (rules, arith)
