use Rattle.std.proofs.Common.{rules}
use Rattle.brk_store_index.proofs.Trading.{status_not_set, status_set}
use Rattle.brk_store_index.proofs.trades.TradeGroups.set_status.Goals as goal

pub returns-in_default : goal.returns-in_default
returns-in_default c set sets rows is = status_not_set c.args.self.now c.take.new.self c.args.id (search rules) set rows is

pub returns : goal.returns
returns c set sets rows is =
    status_set c.args.self.now c.take.new.self c.put.new.self c.args.id c.in-Some.place c.args.is_submitted c.args.stamp (search rules) c.in_ok-put.ensures set sets rows is
