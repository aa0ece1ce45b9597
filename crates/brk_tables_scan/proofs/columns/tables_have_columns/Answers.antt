use Rattle.std.proofs.Common.{refl}
use Rattle.brk_tables_scan.proofs.Headed.{step_in_schema}
use Rattle.brk_tables_scan.proofs.columns.tables_have_columns.Goals as goal

pub returns-clause-step : goal.returns-clause-step
returns-clause-step g c = step_in_schema _ _ _ c.args.schema _ _ c.headings_match.ensures.step c.table_count.ensures.count refl
