use Rattle.sqlite.specs.Held.{state}
use Rattle.brk_store_transactions.proofs.Telling.{tells_fails, tells_passes}
use Rattle.brk_store_transactions.proofs.examining.audit_by_database_schema.Goals as goal

pub returns-in-None-clause-step : goal.returns-in-None-clause-step
returns-in-None-clause-step g c =
    let a = state g.S.Store c.args.tx.now.conn.now in
    let b = state g.S.Store c.schema_of_database.new.tx.conn.now in
    let d = state g.S.Store c.audit_rows_of_schema.new.tx.conn.now in
    tells_passes a b d c.in-Some.schema (rw c.in-Some.is at c.in_ok-schema.ensures.step) (rw c.in-None.is at c.in_ok-audit_rows_of_schema.ensures.step)

pub returns-in-Some-2-clause-step : goal.returns-in-Some-2-clause-step
returns-in-Some-2-clause-step g c =
    let a = state g.S.Store c.args.tx.now.conn.now in
    let b = state g.S.Store c.schema_of_database.new.tx.conn.now in
    let d = state g.S.Store c.audit_rows_of_schema.new.tx.conn.now in
    tells_fails a b d c.in-Some.schema (rw c.in-Some.is at c.in_ok-schema.ensures.step) c.in-Some-2.condition (rw c.in-Some-2.is at c.in_ok-audit_rows_of_schema.ensures.step)
