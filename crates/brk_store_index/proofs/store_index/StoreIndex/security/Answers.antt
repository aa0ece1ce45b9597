use Rattle.brk_store_index.proofs.store_index.StoreIndex.security.Goals as goal

pub returns-in-Ok : goal.returns-in-Ok
returns-in-Ok c t is = c.in-Ok.ensures t (c.in-Some.ensures t is)
