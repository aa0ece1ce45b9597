use Rattle.brk_store_index.proofs.store_index.StoreIndex.market_value.Goals as goal

pub returns-in-Made : goal.returns-in-Made
returns-in-Made c t is = c.market_value.ensures t (rw c.in-Made.is at is)
