use Rattle.sqlite.specs.Held.{state}
use Rattle.brk_ref.specs.Records.{abstract_last_trade_row}
use Rattle.brk_tables_sql.proofs.Inside.{step_weaker}
use Rattle.brk_tables_reference.proofs.ReferenceAdds.{adds_last_trade}
use Rattle.brk_tables_reference.proofs.securities.add_last_trade.Goals as goal

pub returns-clause-step : goal.returns-clause-step
returns-clause-step g c =
    let old = state g.S.Store c.args.tx.now.conn.now in
    let new = state g.S.Store c.execute_statement.new.tx.conn.now in
    step_weaker old new c.execute_statement.result _ _
    (λ _ ran. adds_last_trade old new (abstract_last_trade_row c.args.last_trade.now)
    (rw (c.text_param.ensures, c.as_str.ensures, c.stamp_param.ensures, c.price_param.ensures, c.volume_param.ensures) at ran))
    c.execute_statement.ensures.step
