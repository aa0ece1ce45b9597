use Rattle.std.proofs.Common.{Ok}
use Rattle.sqlite.specs.Held.{state}
use Rattle.brk_store_transactions.proofs.Answering.{no_form, rows_told}
use Rattle.brk_store_transactions.proofs.auditing.audit_rows_of_schema.Goals as goal

pub returns-in-None-clause-step : goal.returns-in-None-clause-step
returns-in-None-clause-step g c =
    let before = state g.S.Store c.args.tx.now.conn.now in
    let after = state g.S.Store c.read_sheets.new.tx.conn.now in
    no_form c.args.schema before after (rw c.in-None.is at c.in_ok-read_sheets.ensures.step)

pub returns-in-Ok-clause-step : goal.returns-in-Ok-clause-step
returns-in-Ok-clause-step g c =
    let before = state g.S.Store c.args.tx.now.conn.now in
    let after = state g.S.Store c.read_sheets.new.tx.conn.now in
    rows_told c.args.schema before after c.in-Some.sheets (Ok c.in-Ok.answer)
    (rw c.in-Some.is at c.in_ok-read_sheets.ensures.of_schema) (rw c.in-Some.is at c.in_ok-read_sheets.ensures.step) c.in-Ok.ensures.condition
