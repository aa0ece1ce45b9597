use Rattle.std.proofs.Common.{refl}
use Rattle.brk_money.specs.declared.fault.StoreFailed.{StoreFailed}
use Rattle.sqlite.specs.Values.{bound}
use Rattle.brk_tables_sql.proofs.Inside.{step_ok, step_err}
use Rattle.brk_tables_schema.proofs.calls.execute_statement.Goals as goal

pub returns-in-Ok-clause-step : goal.returns-in-Ok-clause-step
returns-in-Ok-clause-step g c =
    step_ok g.S.Store c.args.text.now (bound c.args.params.now) c.args.tx.now.conn.now c.execute.new.self.conn.now _ _ c.in-Ok.field-0
    (λ off. let e = (c.in-Ok.ensures.ended off).0 in cc) c.in-Ok.ensures.runs c.in-Ok.ensures.survives (λ v e ran. (c.in-Ok.field-0, ran))

pub returns-in-Err-clause-step : goal.returns-in-Err-clause-step
returns-in-Err-clause-step g c =
    step_err {V = Unit {0}} {E = StoreFailed} g.S.Store c.args.text.now (bound c.args.params.now) c.args.tx.now.conn.now c.execute.new.self.conn.now _ _ c.in-Err.field-0 refl
    (λ off. (c.in-Err.ensures.ended off).1) c.in-Err.ensures.runs c.in-Err.ensures.survives
