use Rattle.brk_desk.proofs.desk.Desk.visit_broker_trades.Goals as goal

pub returns-clause-walked : goal.returns-clause-walked
returns-clause-walked g c = rw c.self.view_is at c.visit_broker_trades.ensures.walked
