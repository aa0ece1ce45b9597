use Rattle.sqlite.specs.Held.{state}
use Rattle.brk_tables_sql.proofs.Inside.{step_weaker}
use Rattle.brk_ref.specs.Rows.{abstract_request_row}
use Rattle.brk_tables_trading.proofs.Writes.{adds_request}
use Rattle.brk_tables_trading.proofs.requests.add_request.Goals as goal

pub returns-clause-step : goal.returns-clause-step
returns-clause-step g c =
    let old = state g.S.Store c.args.tx.now.conn.now in
    let new = state g.S.Store c.execute_statement.new.tx.conn.now in
    step_weaker old new c.execute_statement.result _ _
    (λ _ ran. adds_request old new (abstract_request_row c.args.request.now)
    (rw (
      c.id_param.ensures,
      c.trade_type_param.ensures,
      c.text_param.ensures,
      c.as_str.ensures,
      c.qty_param.ensures,
      c.price_param.ensures,
      c.id_param-2.ensures,
    ) at ran)) c.execute_statement.ensures.step
