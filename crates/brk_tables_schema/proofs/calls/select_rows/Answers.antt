use Rattle.std.proofs.Common.{refl}
use Rattle.sqlite.specs.Held.{state}
use Rattle.sqlite.specs.Values.{bound}
use Rattle.brk_tables_sql.proofs.Inside.{look_ok, look_err}
use Rattle.brk_tables_schema.proofs.calls.select_rows.Goals as goal

pub returns-in-Ok-clause-step : goal.returns-in-Ok-clause-step
returns-in-Ok-clause-step g c =
    let old = state g.S.Store c.args.tx.now.conn.now in
    look_ok c.args.text.now (bound c.args.params.now) old (state g.S.Store c.query_all.new.self.conn.now) (λ rows. rows.items)
    (c.requires.no_returning_clause old.now.schema) c.in-Ok.ensures.survives c.in-Ok.rows c.in-Ok.ensures.ok

pub returns-in-Err-clause-step : goal.returns-in-Err-clause-step
returns-in-Err-clause-step g c =
    let old = state g.S.Store c.args.tx.now.conn.now in
    look_err c.args.text.now (bound c.args.params.now) old (state g.S.Store c.query_all.new.self.conn.now) (λ rows. rows.items)
    (c.requires.no_returning_clause old.now.schema) c.in-Err.ensures.survives c.in-Err.field-0 _ refl c.in-Err.ensures.err
