use Rattle.sqlite.specs.Held.{state}
use Rattle.brk_tables_sql.proofs.Inside.{step_weaker}
use Rattle.brk_tables_trading.proofs.HoldingWrites.{removes_lot}
use Rattle.brk_tables_trading.proofs.lots.remove_lot.Goals as goal

pub returns-clause-step : goal.returns-clause-step
returns-clause-step g c =
    let old = state g.S.Store c.args.tx.now.conn.now in
    let new = state g.S.Store c.execute_statement.new.tx.conn.now in
    step_weaker old new c.execute_statement.result _ _ (λ _ ran. removes_lot old new c.args.trade (rw (c.id_param.ensures) at ran)) c.execute_statement.ensures.step
