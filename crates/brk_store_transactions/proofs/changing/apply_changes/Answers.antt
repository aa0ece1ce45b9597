use Rattle.std.proofs.Common.{◌≡◌, ◌∙◌, IsTrue, Result, Ok, Err, ap, subst, rules}
use Rattle.std.proofs.lemmas.Result.{err_from_is_err_and}
use Rattle.brk_money.specs.declared.fault.StoreFailed.{StoreFailed}
use Rattle.brk_tables_sql.specs.Desk.{ChangesTablesBy, IsCompilationOutcome}
use Rattle.brk_tables_schema.specs.Desk.{desk_tables}
use Rattle.brk_trade_rows.specs.Changes.{tables_after_changes}
use Rattle.brk_store_transactions.specs.Holds.{ApplyPost}
use Rattle.brk_store_transactions.proofs.Ending.{after_look, applies, applies_none, applies_nothing, open_at_look}
use Rattle.brk_store_transactions.proofs.changing.apply_changes.Goals as goal

pub returns-in-Ok-clause-applied : goal.returns-in-Ok-clause-applied
returns-in-Ok-clause-applied g c =
    let old = c.args.conn.now in
    let first = c.statement_compiles.new.tx.conn.now in
    let mid = c.apply_each_change.new.tx.conn.now in
    let end = c.commit.new.self.0 in
    let after = tables_after_changes c.args.changes.now in
    let text = c.existence_probe_text.result.now in
    let step = after_look g.S.Store old first mid c.in_ok-_exists._exists (λ exists a _. IsCompilationOutcome text exists a.now.schema)
    (rw c.transaction-tx.ensures.begun at c.in_ok-_exists.ensures.step) (Ok tt) after c.in_ok-apply_each_change.ensures.step in
    subst (λ h. ApplyPost {V = Unit {0}} {E = StoreFailed} g.S.Store old h (Ok tt) after) (search rules)
    (applies g.S.Store old mid end (c.is_autocommit-is_autocommit.ensures.settled (search rules)) (ChangesTablesBy desk_tables after) step
    c.in-Ok.ensures.survives c.in-Ok.ensures.ok (λ db o may. g.met.S.Store.settled end.store db o may) after (λ a b h. h))

pub returns-in-Err-clause-applied : goal.returns-in-Err-clause-applied
returns-in-Err-clause-applied g c =
    let old = c.args.conn.now in
    let first = c.statement_compiles.new.tx.conn.now in
    let mid = c.apply_each_change.new.tx.conn.now in
    let end = c.commit.new.self.0 in
    let after = tables_after_changes c.args.changes.now in
    let text = c.existence_probe_text.result.now in
    let look = rw c.transaction-tx.ensures.begun at c.in_ok-_exists.ensures.step in
    let step = after_look g.S.Store old first mid c.in_ok-_exists._exists (λ exists a _. IsCompilationOutcome text exists a.now.schema) look (Ok tt) after c.in_ok-apply_each_change.ensures.step in
    let open_then = open_at_look g.S.Store old first mid c.in_ok-_exists._exists (λ exists a _. IsCompilationOutcome text exists a.now.schema) look (Ok tt)
    after c.in_ok-apply_each_change.ensures.step in
    subst (λ h. ApplyPost {V = Unit {0}} {E = StoreFailed} g.S.Store old h (Err (record {})) after) (search rules)
    (applies_none g.S.Store old mid end (c.is_autocommit-is_autocommit.ensures.settled (search rules)) (ChangesTablesBy desk_tables after) step
    c.in-Err.ensures.survives c.in-Err.field-0 c.in-Err.ensures.err open_then (record {}) after (λ a b h. h))

pub returns-in_err-_exists-clause-applied : goal.returns-in_err-_exists-clause-applied
returns-in_err-_exists-clause-applied g c =
    let text = c.existence_probe_text.result.now in
    let fault = c.in_err-_exists.field-0.0 in
    let p = err_from_is_err_and c.from_residual.result c.from_residual.ensures.1 in
    applies_nothing g.S.Store c.args.conn.now c.statement_compiles.new.tx.conn.now c.drop-tx.new.self.0
    (c.is_autocommit-is_autocommit.ensures.settled (search rules)) (Err fault)
    (λ exists a b. IsTrue a.is_open × (b.now ≡ a.now) × IsCompilationOutcome text exists a.now.schema)
    (rw c.transaction-tx.ensures.begun at c.in_err-_exists.ensures.step) c.drop-tx.ensures.survives c.drop-tx.ensures.undone _ c.from_residual.result fault
    (tables_after_changes c.args.changes.now) (search rules) (p.1 ∙ ap Err p.2)

pub returns-in_err-apply_each_change-clause-applied : goal.returns-in_err-apply_each_change-clause-applied
returns-in_err-apply_each_change-clause-applied g c =
    let old = c.args.conn.now in
    let mid = c.apply_each_change.new.tx.conn.now in
    let after = tables_after_changes c.args.changes.now in
    let text = c.existence_probe_text.result.now in
    let fault = c.in_err-apply_each_change.field-0.0 in
    let out : Result (Unit {0}) StoreFailed = Err fault in
    let step = after_look g.S.Store old c.statement_compiles.new.tx.conn.now mid c.in_ok-_exists._exists
    (λ exists a _. IsCompilationOutcome text exists a.now.schema) (rw c.transaction-tx.ensures.begun at c.in_ok-_exists.ensures.step) out after
    c.in_err-apply_each_change.ensures.step in
    let p = err_from_is_err_and c.from_residual-in_err-apply_each_change.result c.from_residual-in_err-apply_each_change.ensures.1 in
    applies_nothing g.S.Store old mid c.drop-tx-in_err-apply_each_change.new.self.0 (c.is_autocommit-is_autocommit.ensures.settled (search rules)) out
    (λ _ a b. ChangesTablesBy desk_tables after a.now b.now) step
    c.drop-tx-in_err-apply_each_change.ensures.survives c.drop-tx-in_err-apply_each_change.ensures.undone _ c.from_residual-in_err-apply_each_change.result
    fault after (search rules) (p.1 ∙ ap Err p.2)
