use Rattle.std.proofs.Common.{map, take}
use Rattle.brk_ref.specs.Records.{abstract_account_row}
use Rattle.brk_store_index.specs.Parts.{AreAccountsOf}
use Rattle.brk_store_index.proofs.index.accounts_of_rows.Given as goal

abbrev pub invariant-loop-row : goal.invariant-loop-row
invariant-loop-row l = AreAccountsOf l.accounts (map abstract_account_row (take l.row-index l.rows))
