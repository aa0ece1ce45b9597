use Rattle.sqlite.specs.Held.{state}
use Rattle.brk_ref.specs.Rows.{cash_type_text}
use Rattle.brk_tables_sql.proofs.Inside.{step_weaker}
use Rattle.brk_tables_trading.proofs.UpdateWrites.{sets_cash_type}
use Rattle.brk_tables_trading.proofs.updates.set_cash_type.Goals as goal

pub returns-clause-step : goal.returns-clause-step
returns-clause-step g c =
    let old = state g.S.Store c.args.tx.now.conn.now in
    let new = state g.S.Store c.execute_statement.new.tx.conn.now in
    step_weaker old new c.execute_statement.result _ _
    (λ _ ran. sets_cash_type old new c.args.trade (cash_type_text c.args.cash_type)
    (rw (c.cash_type_param.ensures, c.id_param.ensures) at ran)) c.execute_statement.ensures.step
