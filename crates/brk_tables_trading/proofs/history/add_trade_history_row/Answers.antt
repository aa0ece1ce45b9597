use Rattle.sqlite.specs.Held.{state}
use Rattle.brk_tables_sql.proofs.Inside.{step_weaker}
use Rattle.brk_ref.specs.Rows.{abstract_history_row}
use Rattle.brk_tables_trading.proofs.Writes.{adds_history}
use Rattle.brk_tables_trading.proofs.history.add_trade_history_row.Goals as goal

pub returns-clause-step : goal.returns-clause-step
returns-clause-step g c =
    let old = state g.S.Store c.args.tx.now.conn.now in
    let new = state g.S.Store c.execute_statement.new.tx.conn.now in
    step_weaker old new c.execute_statement.result _ _
    (λ _ ran. adds_history old new (abstract_history_row c.args.mark.now)
    (rw (c.id_param.ensures, c.status_param.ensures, c.stamp_param.ensures) at ran)) c.execute_statement.ensures.step
