use Rattle.std.proofs.Common.{refl}
use Rattle.sqlite.proofs.Callers.{memory_is_clean}
use Rattle.brk_store_transactions.proofs.reopening.a_store_in_memory_is_open.Goals as goal

pub returns : goal.returns
returns c = λ store. (memory_is_clean store, refl)
