use Rattle.brk_store_transactions.proofs.Taking.{sound_books_pass, tells_of_rows}
use Rattle.brk_store_transactions.proofs.adopting.audits_return_result_for_stored_rows.Goals as goal

pub returns : goal.returns
returns g c = record {
  rows = λ old new result t audited. tells_of_rows g.S.Store old new result audited t;
  books = λ old new result base audited. sound_books_pass g.S.Store old new result audited base;
}
