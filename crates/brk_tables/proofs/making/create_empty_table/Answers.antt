use Rattle.std.proofs.Common.{[], subst}
use Rattle.sqlite.specs.Held.{state}
use Rattle.brk_tables_sql.specs.Model.{ExecutesStatement}
use Rattle.brk_tables_sql.proofs.Inside.{step_weaker}
use Rattle.brk_tables_schema.specs.Texts.{abstract_table}
use Rattle.brk_tables.proofs.Makes.{makes_of}
use Rattle.brk_tables.proofs.making.create_empty_table.Goals as goal

pub returns-clause-step : goal.returns-clause-step
returns-clause-step g c =
    let old = state g.S.Store c.args.tx.now.conn.now in
    let new = state g.S.Store c.execute_statement.new.tx.conn.now in
    step_weaker old new c.execute_statement.result _ _ (λ _ ran. let mine = subst (λ text. ExecutesStatement text [] old new) c.create_table_text.ensures ran in
    makes_of (abstract_table c.args.table) old new mine.0 mine.1) c.execute_statement.ensures.step
