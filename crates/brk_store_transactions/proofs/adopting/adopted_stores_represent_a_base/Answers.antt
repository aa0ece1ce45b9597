use Rattle.brk_store_transactions.proofs.Taking.{adopted_books, held_after, passing_books_held}
use Rattle.brk_store_transactions.proofs.adopting.adopted_stores_represent_a_base.Goals as goal

pub returns : goal.returns
returns g c = record { rows = passing_books_held g.S.Store; adopted = adopted_books g.S.Store; base_of_old_rows = held_after g.S.Store }
