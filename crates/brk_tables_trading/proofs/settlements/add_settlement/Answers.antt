use Rattle.sqlite.specs.Held.{state}
use Rattle.brk_tables_sql.proofs.Inside.{step_weaker}
use Rattle.brk_ref.specs.Rows.{abstract_settlement_row}
use Rattle.brk_tables_trading.proofs.HoldingWrites.{adds_settlement}
use Rattle.brk_tables_trading.proofs.settlements.add_settlement.Goals as goal

pub returns-clause-step : goal.returns-clause-step
returns-clause-step g c =
    let old = state g.S.Store c.args.tx.now.conn.now in
    let new = state g.S.Store c.execute_statement.new.tx.conn.now in
    step_weaker old new c.execute_statement.result _ _
    (λ _ ran. adds_settlement old new (abstract_settlement_row c.args.settlement.now)
    (rw (c.id_param.ensures, c.cash_type_param.ensures, c.day_param.ensures, c.cents_param.ensures) at ran))
    c.execute_statement.ensures.step
