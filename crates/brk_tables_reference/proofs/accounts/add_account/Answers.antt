use Rattle.sqlite.specs.Held.{state}
use Rattle.brk_ref.specs.Records.{abstract_account}
use Rattle.brk_tables_sql.proofs.Inside.{step_weaker}
use Rattle.brk_tables_reference.proofs.Steps.{adds_account}
use Rattle.brk_tables_reference.proofs.accounts.add_account.Goals as goal

pub returns-clause-step : goal.returns-clause-step
returns-clause-step g c =
    let old = state g.S.Store c.args.tx.now.conn.now in
    let new = state g.S.Store c.execute_statement.new.tx.conn.now in
    step_weaker old new c.execute_statement.result _ _
    (λ _ ran. adds_account old new (abstract_account c.args.account.now)
    (rw (
      c.id_param.ensures,
      c.id_param-2.ensures,
      c.id_param-3.ensures,
      c.text_param.ensures,
      c.as_str.ensures,
      c.tax_status_param.ensures,
      c.cents_param.ensures,
    ) at ran)) c.execute_statement.ensures.step
