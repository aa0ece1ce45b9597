use Rattle.sqlite.specs.Held.{state}
use Rattle.brk_ref.specs.Records.{abstract_tax_rate}
use Rattle.brk_tables_sql.proofs.Inside.{step_weaker}
use Rattle.brk_tables_reference.proofs.ReferenceAdds.{adds_tax_rate}
use Rattle.brk_tables_reference.proofs.tax_rates.add_tax_rate.Goals as goal

pub returns-clause-step : goal.returns-clause-step
returns-clause-step g c =
    let old = state g.S.Store c.args.tx.now.conn.now in
    let new = state g.S.Store c.execute_statement.new.tx.conn.now in
    step_weaker old new c.execute_statement.result _ _
    (λ _ ran. adds_tax_rate old new (abstract_tax_rate c.args.tax.now)
    (rw (c.id_param.ensures, c.text_param.ensures, c.as_str.ensures, c.tax_rate_param.ensures) at ran))
    c.execute_statement.ensures.step
