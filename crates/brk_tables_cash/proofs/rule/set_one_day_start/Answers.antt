use Rattle.sqlite.specs.Held.{state}
use Rattle.brk_tables_sql.proofs.Inside.{step_weaker}
use Rattle.brk_tables_cash.proofs.CashWrites.{adds_rule}
use Rattle.brk_tables_cash.proofs.rule.set_one_day_start.Goals as goal

pub returns-clause-step : goal.returns-clause-step
returns-clause-step g c =
    let old = state g.S.Store c.args.tx.now.conn.now in
    let new = state g.S.Store c.execute_statement.new.tx.conn.now in
    step_weaker old new c.execute_statement.result _ _ (λ _ ran. adds_rule old new c.args.day (rw (c.integer_param.ensures, c.day_param.ensures) at ran)) c.execute_statement.ensures.step
