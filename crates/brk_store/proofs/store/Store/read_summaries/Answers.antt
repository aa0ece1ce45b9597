use Rattle.brk_store.proofs.store.Store.read_summaries.Goals as goal

pub returns : goal.returns
returns g c = record { read = rw c.self.view_is at c.read_account_summaries.ensures.read }
