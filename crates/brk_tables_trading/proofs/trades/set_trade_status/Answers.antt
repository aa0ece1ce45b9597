use Rattle.sqlite.specs.Held.{state}
use Rattle.brk_tables_sql.proofs.Inside.{step_weaker}
use Rattle.brk_tables_trading.proofs.Writes.{sets_status}
use Rattle.brk_tables_trading.proofs.trades.set_trade_status.Goals as goal

pub returns-clause-step : goal.returns-clause-step
returns-clause-step g c =
    let old = state g.S.Store c.args.tx.now.conn.now in
    let new = state g.S.Store c.execute_statement.new.tx.conn.now in
    step_weaker old new c.execute_statement.result _ _
    (λ _ ran. sets_status old new c.args.id c.args.status c.args.stamp
    (rw (c.status_param.ensures, c.stamp_param.ensures, c.id_param.ensures) at ran)) c.execute_statement.ensures.step
