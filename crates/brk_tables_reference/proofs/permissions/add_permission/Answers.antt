use Rattle.sqlite.specs.Held.{state}
use Rattle.brk_ref.specs.Records.{abstract_permission}
use Rattle.brk_tables_sql.proofs.Inside.{step_weaker}
use Rattle.brk_tables_reference.proofs.ReferenceAdds.{adds_permission}
use Rattle.brk_tables_reference.proofs.permissions.add_permission.Goals as goal

pub returns-clause-step : goal.returns-clause-step
returns-clause-step g c =
    let old = state g.S.Store c.args.tx.now.conn.now in
    let new = state g.S.Store c.execute_statement.new.tx.conn.now in
    step_weaker old new c.execute_statement.result _ _
    (λ _ ran. adds_permission old new (abstract_permission c.args.permission.now)
    (rw (
      c.id_param.ensures,
      c.text_param.ensures,
      c.as_str.ensures,
      c.text_param-2.ensures,
      c.as_str-2.ensures,
      c.text_param-3.ensures,
      c.as_str-3.ensures,
      c.text_param-4.ensures,
      c.as_str-4.ensures,
    ) at ran)) c.execute_statement.ensures.step
