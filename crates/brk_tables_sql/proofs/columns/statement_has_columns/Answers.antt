use Rattle.std.proofs.Common.{◌≡◌, ◌↔◌, ℕ, List, [], map, IsTrue, subst}
use Rattle.std.specs.Borrow.{Bor}
use Rattle.sqlite.specs.Held.{state}
use Rattle.brk_tables_sql.proofs.Probe.{says_columns, says_nothing}
use Rattle.brk_tables_sql.proofs.columns.statement_has_columns.Goals as goal

pub returns-in_err-statement-clause-step : goal.returns-in_err-statement-clause-step
returns-in_err-statement-clause-step g c =
    says_nothing c.args.text.now (state g.S.Store c.args.tx.now.conn.now) (state g.S.Store c.prepare.new.self.conn.now) _ c.in_err-statement.field-0.0 c.from_residual.result c.from_residual.ensures.0
    c.prepare.ensures.survives (λ clean. c.in_err-statement.ensures.err clean [])

pub returns-clause-step : goal.returns-clause-step
returns-clause-step g c =
    let statement = c.in_ok-statement.statement in
    let names = map (λ (name : Bor (List ℕ)). name.now) c.args.names.now in
    says_columns c.args.text.now (state g.S.Store c.args.tx.now.conn.now) (state g.S.Store c.prepare.new.self.conn.now) names c.columns_have_names.result statement c.prepare.ensures.survives
    (λ clean. (c.in_ok-statement.ensures.ok clean).1) c.in_ok-statement.ensures.shape
    (subst (λ columns. IsTrue c.columns_have_names.result ↔ columns ≡ names) c.column_names.ensures c.columns_have_names.ensures)
