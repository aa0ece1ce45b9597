use Rattle.sqlite.specs.Held.{state}
use Rattle.brk_tables_sql.proofs.Inside.{step_weaker}
use Rattle.brk_tables_trading.proofs.Writes.{completes_trade}
use Rattle.brk_tables_trading.proofs.trades.complete_trade.Goals as goal

pub returns-clause-step : goal.returns-clause-step
returns-clause-step g c =
    let old = state g.S.Store c.args.tx.now.conn.now in
    let new = state g.S.Store c.execute_statement.new.tx.conn.now in
    step_weaker old new c.execute_statement.result _ _
    (λ _ ran. completes_trade old new c.args.trade c.args.stamp c.args.price c.args.commission c.args.tax
    (rw (
      c.status_param.ensures,
      c.stamp_param.ensures,
      c.price_param.ensures,
      c.amount_param.ensures,
      c.amount_param-2.ensures,
      c.id_param.ensures,
    ) at ran)) c.execute_statement.ensures.step
