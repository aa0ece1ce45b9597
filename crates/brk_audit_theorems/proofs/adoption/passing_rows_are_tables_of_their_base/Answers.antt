use Rattle.brk_audit_theorems.proofs.AdoptedBooks.{adopted_books}
use Rattle.brk_audit_theorems.proofs.Passing.{passing_books, passing_tables}
use Rattle.brk_audit_theorems.proofs.adoption.passing_rows_are_tables_of_their_base.Goals as goal

pub returns : goal.returns
returns c = record { order = adopted_books; books = passing_books; tables = passing_tables }
