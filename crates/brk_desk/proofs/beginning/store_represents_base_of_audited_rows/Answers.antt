use Rattle.brk_store_transactions.proofs.Taking.{passing_books_held}
use Rattle.brk_desk.proofs.AtFirst.{upgraded_keeps}
use Rattle.brk_desk.proofs.beginning.store_represents_base_of_audited_rows.Goals as goal

pub returns-clause-rows : goal.returns-clause-rows
returns-clause-rows g c = λ store rows holds texts passes. passing_books_held g.S.Store store rows holds passes texts

pub returns-clause-upgraded : goal.returns-clause-upgraded
returns-clause-upgraded g c = λ store schema rows holds texts passes. upgraded_keeps g.S.Store store schema rows holds texts passes
