use Rattle.std.proofs.Common.{rules}
use Rattle.brk_store.proofs.store.Store.page_of_scanned_lots.Goals as goal

pub returns-then-lifo : goal.returns-then-lifo
returns-then-lifo g c = record { read = rw c.if-lifo.true (search rules) }

pub returns-else-lifo : goal.returns-else-lifo
returns-else-lifo g c = record { read = rw c.if-lifo.false (search rules) }
