use Rattle.brk_tables.proofs.OneTables.{one_schema}
use Rattle.brk_tables.proofs.exact.database_rows_determine_schema_and_tables.Goals as goal

pub returns : goal.returns
returns c = one_schema
