use Rattle.sqlite.specs.Held.{state}
use Rattle.brk_ref.specs.Records.{abstract_charge}
use Rattle.brk_tables_sql.proofs.Inside.{step_weaker}
use Rattle.brk_tables_reference.proofs.ReferenceAdds.{adds_charge}
use Rattle.brk_tables_reference.proofs.charges.add_charge.Goals as goal

pub returns-clause-step : goal.returns-clause-step
returns-clause-step g c =
    let old = state g.S.Store c.args.tx.now.conn.now in
    let new = state g.S.Store c.execute_statement.new.tx.conn.now in
    step_weaker old new c.execute_statement.result _ _
    (λ _ ran. adds_charge old new (abstract_charge c.args.charge.now)
    (rw (c.trade_type_param.ensures, c.tier_param.ensures, c.charge_param.ensures) at ran)) c.execute_statement.ensures.step
