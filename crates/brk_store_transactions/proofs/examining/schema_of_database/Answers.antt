use Rattle.std.proofs.Common.{◌∙◌, Err, Ok, ap, true}
use Rattle.std.proofs.lemmas.Result.{err_from_is_err_and}
use Rattle.sqlite.specs.Held.{state}
use Rattle.brk_trade_rows.specs.declared.schema.Schema.TheVariants.{First, Second, Third}
use Rattle.brk_tables_sql.proofs.Inside.{step_then}
use Rattle.brk_store_transactions.proofs.Answering.{ShowsIfHasDesk}
use Rattle.brk_store_transactions.proofs.Ending.{failed, failed_then}
use Rattle.brk_store_transactions.proofs.Telling.{FindsSchemaOfDatabase, found_first, found_none, found_second, found_third}
use Rattle.brk_store_transactions.proofs.examining.schema_of_database.Goals as goal

pub returns-then-branch-clause-step : goal.returns-then-branch-clause-step
returns-then-branch-clause-step g c =
    let a = state g.S.Store c.args.tx.now.conn.now in
    let b = state g.S.Store c.database_has_schema.new.tx.conn.now in
    found_third a b b b c.in_ok-database_has_schema.field-0 true true c.in_ok-database_has_schema.ensures.step c.if-branch.true

pub returns-then-branch-2-clause-step : goal.returns-then-branch-2-clause-step
returns-then-branch-2-clause-step g c =
    let a = state g.S.Store c.args.tx.now.conn.now in
    let b = state g.S.Store c.database_has_schema.new.tx.conn.now in
    let d = state g.S.Store c.database_has_schema-2.new.tx.conn.now in
    found_second a b d d c.in_ok-database_has_schema.field-0 c.in_ok-database_has_schema-2.field-0 true c.in_ok-database_has_schema.ensures.step
    c.if-branch.false c.in_ok-database_has_schema-2.ensures.step c.if-branch-2.true

pub returns-then-branch-3-clause-step : goal.returns-then-branch-3-clause-step
returns-then-branch-3-clause-step g c =
    let a = state g.S.Store c.args.tx.now.conn.now in
    let b = state g.S.Store c.database_has_schema.new.tx.conn.now in
    let d = state g.S.Store c.database_has_schema-2.new.tx.conn.now in
    let e = state g.S.Store c.database_has_schema-3.new.tx.conn.now in
    found_first a b d e c.in_ok-database_has_schema.field-0 c.in_ok-database_has_schema-2.field-0 c.in_ok-database_has_schema-3.field-0
    c.in_ok-database_has_schema.ensures.step c.if-branch.false c.in_ok-database_has_schema-2.ensures.step c.if-branch-2.false
    c.in_ok-database_has_schema-3.ensures.step c.if-branch-3.true

pub returns-clause-step : goal.returns-clause-step
returns-clause-step g c =
    let a = state g.S.Store c.args.tx.now.conn.now in
    let b = state g.S.Store c.database_has_schema.new.tx.conn.now in
    let d = state g.S.Store c.database_has_schema-2.new.tx.conn.now in
    let e = state g.S.Store c.database_has_schema-3.new.tx.conn.now in
    found_none a b d e c.in_ok-database_has_schema.field-0 c.in_ok-database_has_schema-2.field-0 c.in_ok-database_has_schema-3.field-0
    c.in_ok-database_has_schema.ensures.step c.if-branch.false c.in_ok-database_has_schema-2.ensures.step c.if-branch-2.false
    c.in_ok-database_has_schema-3.ensures.step c.if-branch-3.false

pub returns-in_err-database_has_schema-clause-step : goal.returns-in_err-database_has_schema-clause-step
returns-in_err-database_has_schema-clause-step g c =
    let a = state g.S.Store c.args.tx.now.conn.now in
    let b = state g.S.Store c.database_has_schema.new.tx.conn.now in
    let fault = c.in_err-database_has_schema.field-0.0 in
    let p = err_from_is_err_and c.from_residual.result c.from_residual.ensures.1 in
    failed a b c.from_residual.result fault fault (ShowsIfHasDesk Third) FindsSchemaOfDatabase (p.1 ∙ ap Err p.2) c.in_err-database_has_schema.ensures.step

pub returns-in_err-database_has_schema-2-clause-step : goal.returns-in_err-database_has_schema-2-clause-step
returns-in_err-database_has_schema-2-clause-step g c =
    let a = state g.S.Store c.args.tx.now.conn.now in
    let b = state g.S.Store c.database_has_schema.new.tx.conn.now in
    let d = state g.S.Store c.database_has_schema-2.new.tx.conn.now in
    let fault = c.in_err-database_has_schema-2.field-0.0 in
    let p = err_from_is_err_and c.from_residual-in_err-database_has_schema-2.result c.from_residual-in_err-database_has_schema-2.ensures.1 in
    failed_then a b d c.in_ok-database_has_schema.field-0 c.from_residual-in_err-database_has_schema-2.result fault fault (ShowsIfHasDesk Third)
    (ShowsIfHasDesk Second) FindsSchemaOfDatabase (p.1 ∙ ap Err p.2)
    c.in_ok-database_has_schema.ensures.step c.in_err-database_has_schema-2.ensures.step

pub returns-in_err-database_has_schema-3-clause-step : goal.returns-in_err-database_has_schema-3-clause-step
returns-in_err-database_has_schema-3-clause-step g c =
    let a = state g.S.Store c.args.tx.now.conn.now in
    let b = state g.S.Store c.database_has_schema.new.tx.conn.now in
    let d = state g.S.Store c.database_has_schema-2.new.tx.conn.now in
    let e = state g.S.Store c.database_has_schema-3.new.tx.conn.now in
    let fault = c.in_err-database_has_schema-3.field-0.0 in
    let p = err_from_is_err_and c.from_residual-in_err-database_has_schema-3.result c.from_residual-in_err-database_has_schema-3.ensures.1 in
    failed_then a d e c.in_ok-database_has_schema-2.field-0 c.from_residual-in_err-database_has_schema-3.result fault fault (λ _ _ _. Unit {0})
    (ShowsIfHasDesk First) FindsSchemaOfDatabase (p.1 ∙ ap Err p.2)
    (step_then a b d c.in_ok-database_has_schema.field-0 (Ok c.in_ok-database_has_schema-2.field-0) (ShowsIfHasDesk Third) (ShowsIfHasDesk Second)
    (λ _ _ _. Unit {0}) (λ _ _ _. tt) c.in_ok-database_has_schema.ensures.step c.in_ok-database_has_schema-2.ensures.step)
    c.in_err-database_has_schema-3.ensures.step
