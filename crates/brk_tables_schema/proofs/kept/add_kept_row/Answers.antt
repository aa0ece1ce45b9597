use Rattle.sqlite.specs.Held.{state}
use Rattle.brk_ref.specs.Records.{abstract_kept_row}
use Rattle.brk_tables_sql.proofs.Inside.{step_weaker}
use Rattle.brk_tables_schema.proofs.Keeping.{adds_kept}
use Rattle.brk_tables_schema.proofs.kept.add_kept_row.Goals as goal

pub returns-clause-step : goal.returns-clause-step
returns-clause-step g c =
    let old = state g.S.Store c.args.tx.now.conn.now in
    let new = state g.S.Store c.execute_statement.new.tx.conn.now in
    step_weaker old new c.execute_statement.result _ _
    (λ _ ran. adds_kept old new (abstract_kept_row c.args.kept.now)
    (rw (
      c.text_param.ensures,
      c.as_str.ensures,
      c.row_number_param.ensures,
      c.text_param-2.ensures,
      c.as_str-2.ensures.value,
      c.text_param-3.ensures,
      c.as_str-3.ensures.value,
    ) at ran)) c.execute_statement.ensures.step
