use Rattle.std.proofs.Common.{Bool, true, Ok, subst}
use Rattle.sqlite.specs.Held.{state}
use Rattle.brk_money.specs.declared.fault.StoreFailed.{StoreFailed}
use Rattle.brk_trade_rows.specs.declared.schema.Schema.TheVariants.{Third}
use Rattle.brk_tables_sql.specs.Model.{IsTransactionStep}
use Rattle.brk_store_transactions.proofs.Answering.{ShowsIfHasDesk, desk_told}
use Rattle.brk_store_transactions.proofs.auditing.audit_by_third_schema.Goals as goal

pub returns-clause-step : goal.returns-clause-step
returns-clause-step g c =
    let before = state g.S.Store c.args.tx.now.conn.now in
    let between = state g.S.Store c.database_has_schema.new.tx.conn.now in
    let after = state g.S.Store c.audit_rows_of_schema.new.tx.conn.now in
    let asked : IsTransactionStep {V = Bool} {E = StoreFailed} before between (Ok true) (ShowsIfHasDesk Third) =
    subst (λ (b : Bool). IsTransactionStep {V = Bool} {E = StoreFailed} before between (Ok b) (ShowsIfHasDesk Third)) c.if-not-branch.false
    c.in_ok-database_has_schema.ensures.step in
    desk_told before between after c.audit_rows_of_schema.result asked c.audit_rows_of_schema.ensures.step
