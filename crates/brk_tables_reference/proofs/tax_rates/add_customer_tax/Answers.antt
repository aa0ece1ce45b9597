use Rattle.sqlite.specs.Held.{state}
use Rattle.brk_ref.specs.Records.{abstract_customer_tax}
use Rattle.brk_tables_sql.proofs.Inside.{step_weaker}
use Rattle.brk_tables_reference.proofs.ReferenceAdds.{adds_customer_tax}
use Rattle.brk_tables_reference.proofs.tax_rates.add_customer_tax.Goals as goal

pub returns-clause-step : goal.returns-clause-step
returns-clause-step g c =
    let old = state g.S.Store c.args.tx.now.conn.now in
    let new = state g.S.Store c.execute_statement.new.tx.conn.now in
    step_weaker old new c.execute_statement.result _ _
    (λ _ ran. adds_customer_tax old new (abstract_customer_tax c.args.pays.now) (rw (c.id_param.ensures, c.id_param-2.ensures) at ran))
    c.execute_statement.ensures.step
