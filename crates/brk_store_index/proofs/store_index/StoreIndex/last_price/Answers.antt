use Rattle.brk_store_index.proofs.store_index.StoreIndex.last_price.Goals as goal

pub returns-in-Made : goal.returns-in-Made
returns-in-Made c t is = c.last_price.ensures t (rw c.in-Made.is at is)
