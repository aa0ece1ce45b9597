use Rattle.std.proofs.Common.{◌∙◌, Ok, Err, ap, refl, rules, subst, sym}
use Rattle.std.proofs.lemmas.Result.{err_from_is_err_and}
use Rattle.brk_money.specs.declared.fault.Condition.TheVariants.{NotEmpty}
use Rattle.brk_money.specs.declared.fault.Fault.TheVariants.{Damaged}
use Rattle.brk_store_transactions.specs.Audited.{AuditPost}
use Rattle.brk_store_transactions.proofs.Closing.{audit_fails, audit_gives_up, audit_passes, no_damage}
use Rattle.brk_store_transactions.proofs.auditing.audit_database.Goals as goal

pub returns-clause-audited : goal.returns-clause-audited
returns-clause-audited g c =
    subst (λ h. AuditPost g.S.Store c.args.conn.now h (Err (Damaged c.in-Some.condition))) (search rules)
    (audit_fails g.S.Store c.args.conn.now c.args.conn.now c.begin_transaction-tx.result.conn.now c.audit_by_third_schema.new.tx.conn.now
    c.drop-tx-2.new.self.0 c.in_ok-audit_by_third_schema.field-0 c.in-Some.condition refl c.begin_transaction-tx.ensures.begun
    c.begin_transaction-tx.ensures.is_committed c.in_ok-audit_by_third_schema.ensures.step c.in-Some.is c.drop-tx-2.ensures.survives c.drop-tx-2.ensures.undone)

pub returns-in-None-clause-audited : goal.returns-in-None-clause-audited
returns-in-None-clause-audited g c =
    subst (λ h. AuditPost g.S.Store c.args.conn.now h (Ok tt)) (search rules)
    (audit_passes g.S.Store c.args.conn.now c.args.conn.now c.begin_transaction-tx.result.conn.now c.audit_by_third_schema.new.tx.conn.now
    c.drop-tx-in-None.new.self.0 c.in_ok-audit_by_third_schema.field-0 refl c.begin_transaction-tx.ensures.begun
    c.begin_transaction-tx.ensures.is_committed c.in_ok-audit_by_third_schema.ensures.step c.in-None.is c.drop-tx-in-None.ensures.survives c.drop-tx-in-None.ensures.undone)

pub returns-in_err-audit_by_third_schema-clause-audited : goal.returns-in_err-audit_by_third_schema-clause-audited
returns-in_err-audit_by_third_schema-clause-audited g c =
    let fault = c.in_err-audit_by_third_schema.field-0.0 in
    let p = err_from_is_err_and c.from_residual.result c.from_residual.ensures.1 in
    subst (λ h. AuditPost g.S.Store c.args.conn.now h c.from_residual.result) (search rules)
    (subst (λ r. AuditPost g.S.Store c.args.conn.now c.drop-tx.new.self.0 r) (sym (p.1 ∙ ap Err p.2))
    (audit_gives_up g.S.Store c.args.conn.now c.args.conn.now c.begin_transaction-tx.result.conn.now c.audit_by_third_schema.new.tx.conn.now
    c.drop-tx.new.self.0 fault refl c.begin_transaction-tx.ensures.begun
    c.begin_transaction-tx.ensures.is_committed c.in_err-audit_by_third_schema.ensures.step c.drop-tx.ensures.survives c.drop-tx.ensures.undone))

pub returns-in_err-audit_by_third_schema-clause-condition : goal.returns-in_err-audit_by_third_schema-clause-condition
returns-in_err-audit_by_third_schema-clause-condition g c =
    let p = err_from_is_err_and c.from_residual.result c.from_residual.ensures.1 in
    rw (p.1 ∙ ap Err p.2) (no_damage c.in_err-audit_by_third_schema.field-0.0 NotEmpty)
