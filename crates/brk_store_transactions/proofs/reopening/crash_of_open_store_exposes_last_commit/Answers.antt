use Rattle.brk_store_transactions.proofs.reopening.crash_of_open_store_exposes_last_commit.Goals as goal

pub returns : goal.returns
returns g c = λ store is_open trees may. g.met.S.Store.settled store.store trees is_open may
