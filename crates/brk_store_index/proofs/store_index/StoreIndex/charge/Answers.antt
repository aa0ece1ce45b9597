use Rattle.brk_store_index.proofs.store_index.StoreIndex.charge.Goals as goal

pub returns-in-Some : goal.returns-in-Some
returns-in-Some c t is = c.charge.ensures t (c.in-Some.ensures t is)
