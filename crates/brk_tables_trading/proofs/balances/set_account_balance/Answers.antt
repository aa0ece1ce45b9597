use Rattle.sqlite.specs.Held.{state}
use Rattle.brk_tables_sql.proofs.Inside.{step_weaker}
use Rattle.brk_tables_trading.proofs.HoldingWrites.{sets_balance}
use Rattle.brk_tables_trading.proofs.balances.set_account_balance.Goals as goal

pub returns-clause-step : goal.returns-clause-step
returns-clause-step g c =
    let old = state g.S.Store c.args.tx.now.conn.now in
    let new = state g.S.Store c.execute_statement.new.tx.conn.now in
    step_weaker old new c.execute_statement.result _ _
    (λ _ ran. sets_balance old new c.args.account c.args.balance (rw (c.cents_param.ensures, c.id_param.ensures) at ran))
    c.execute_statement.ensures.step
