use Rattle.brk_desk.proofs.desk.Desk.walk_cash.Goals as goal

pub returns : goal.returns
returns g c = record { called = rw c.self.view_is at c.walk_cash.ensures.called }
