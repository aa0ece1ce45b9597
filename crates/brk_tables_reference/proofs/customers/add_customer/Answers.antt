use Rattle.sqlite.specs.Held.{state}
use Rattle.brk_ref.specs.Records.{abstract_customer}
use Rattle.brk_tables_sql.proofs.Inside.{step_weaker}
use Rattle.brk_tables_reference.proofs.Steps.{adds_customer}
use Rattle.brk_tables_reference.proofs.customers.add_customer.Goals as goal

pub returns-clause-step : goal.returns-clause-step
returns-clause-step g c =
    let old = state g.S.Store c.args.tx.now.conn.now in
    let new = state g.S.Store c.execute_statement.new.tx.conn.now in
    step_weaker old new c.execute_statement.result _ _
    (λ _ ran. adds_customer old new (abstract_customer c.args.customer.now)
    (rw (
      c.id_param.ensures,
      c.tier_param.ensures,
      c.text_param.ensures,
      c.text_param-2.ensures,
      c.text_param-3.ensures,
      c.as_str.ensures,
      c.as_str-2.ensures,
      c.as_str-3.ensures,
    ) at ran)) c.execute_statement.ensures.step
