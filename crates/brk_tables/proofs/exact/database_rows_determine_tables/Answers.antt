use Rattle.brk_tables.proofs.OneTables.{one_tables}
use Rattle.brk_tables.proofs.exact.database_rows_determine_tables.Goals as goal

pub returns : goal.returns
returns c = one_tables
