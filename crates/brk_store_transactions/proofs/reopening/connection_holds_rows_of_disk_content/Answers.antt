use Rattle.brk_store_transactions.proofs.Found.{found_again}
use Rattle.brk_store_transactions.proofs.reopening.connection_holds_rows_of_disk_content.Goals as goal

pub returns : goal.returns
returns g c = found_again g.S.Store
