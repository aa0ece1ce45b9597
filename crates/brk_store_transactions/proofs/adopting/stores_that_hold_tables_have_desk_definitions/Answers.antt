use Rattle.brk_store_transactions.proofs.Taking.{defined_in, third_in}
use Rattle.brk_store_transactions.proofs.adopting.stores_that_hold_tables_have_desk_definitions.Goals as goal

pub returns : goal.returns
returns g c = record { defined = defined_in g.S.Store; has_third_schema = third_in g.S.Store }
