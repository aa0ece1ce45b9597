use Rattle.brk_view_rows.proofs.Shown.{one_carried}
use Rattle.brk_view_rows.proofs.lookups.create_looked_up_trade.Goals as goal

pub returns-clause-rows : goal.returns-clause-rows
returns-clause-rows c = λ t is.
    one_carried t c.args.trade c.args.settlement c.args.cash c.args.history.now c.in_ok-history.history c.in_ok-history.ensures.order is
