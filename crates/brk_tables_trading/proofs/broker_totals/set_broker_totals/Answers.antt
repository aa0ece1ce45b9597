use Rattle.std.proofs.Common.{rules, w64}
use Rattle.std.proofs.lemmas.Int.{to_z-of_z}
use Rattle.sqlite.specs.Held.{state}
use Rattle.brk_tables_sql.proofs.Inside.{step_weaker}
use Rattle.brk_tables_trading.proofs.HoldingWrites.{sets_broker_numbers}
use Rattle.brk_tables_trading.proofs.broker_totals.set_broker_totals.Goals as goal

pub returns-clause-step : goal.returns-clause-step
returns-clause-step g c =
    let old = state g.S.Store c.args.tx.now.conn.now in
    let new = state g.S.Store c.execute_statement.new.tx.conn.now in
    step_weaker old new c.execute_statement.result _ _
    (λ _ ran. sets_broker_numbers old new c.args.broker c.args.trades c.args.commissions
    (rw (c.integer_param.ensures, to_z-of_z w64 c.args.trades (search rules), c.amount_param.ensures, c.id_param.ensures) at ran))
    c.execute_statement.ensures.step
