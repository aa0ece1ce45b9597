use Rattle.std.proofs.Common.{◌≡◌, ◌∙◌, ◌⊎◌, Bool, Ok, Err, ap, false, rules, subst, sym, true}
use Rattle.std.specs.Prelude.{MatchResult}
use Rattle.sqlite.specs.Held.{state}
use Rattle.sqlite.specs.State.{HasCleanDisk, IsRolledBack, IsUnchanged, Survives}
use Rattle.std.proofs.lemmas.Result.{err_from_is_err_and}
use Rattle.brk_money.specs.declared.fault.Fault.TheVariants.{Damaged, Store}
use Rattle.brk_money.specs.declared.fault.Condition.TheVariants.{NotEmpty}
use Rattle.brk_trade_rows.specs.Schemas.{abstract_schema}
use Rattle.brk_store_transactions.specs.Audited.{AdoptPost, ConnectionHasThirdSchema, ConnectionTablesWithDeskNamesAreDeskTables}
use Rattle.brk_store_transactions.proofs.Adoption.{commits, commits_none, fails, found_closed, move_gives_up, passes_open, third_open}
use Rattle.brk_store_transactions.proofs.Closing.{no_damage}
use Rattle.brk_store_transactions.proofs.upgrading.audit_and_upgrade_database.Goals as goal

pub returns-in-Fails-clause-adopted : goal.returns-in-Fails-clause-adopted
returns-in-Fails-clause-adopted g c =
    subst (λ h. AdoptPost g.S.Store c.args.conn.now h (Err (Damaged c.in-Fails.condition))) (search rules)
    (fails g.S.Store c.args.conn.now c.audit_by_database_schema.new.tx.conn.now c.begin_transaction-tx.ensures.is_committed c.in_ok-condition.field-0
    (rw c.begin_transaction-tx.ensures.begun at c.in_ok-condition.ensures.step) c.drop-tx-in-Fails.new.self.0 c.in-Fails.condition c.in-Fails.is
    c.drop-tx-in-Fails.ensures.survives c.drop-tx-in-Fails.ensures.undone)

pub returns-in-Ok-clause-adopted : goal.returns-in-Ok-clause-adopted
returns-in-Ok-clause-adopted g c =
    let older : (abstract_schema c.in-Passes.schema).has_settle_rule_table ≡ false = sym c.has_settle_rule_table.ensures ∙ c.if-not-has_settle_rule_table.true in
    subst (λ h. AdoptPost g.S.Store c.args.conn.now h (Ok tt)) (search rules)
    (commits g.S.Store c.args.conn.now c.audit_by_database_schema.new.tx.conn.now c.begin_transaction-tx.ensures.is_committed c.in_ok-condition.field-0
    (rw c.begin_transaction-tx.ensures.begun at c.in_ok-condition.ensures.step) c.in-Passes.schema c.in-Passes.is older
    c.upgrade_tables.new.tx.conn.now c.in_ok-upgrade_tables.ensures.step c.commit.new.self.0 c.in-Ok.ensures.survives c.in-Ok.ensures.ok)

pub returns-in-Err-clause-adopted : goal.returns-in-Err-clause-adopted
returns-in-Err-clause-adopted g c =
    let older : (abstract_schema c.in-Passes.schema).has_settle_rule_table ≡ false = sym c.has_settle_rule_table.ensures ∙ c.if-not-has_settle_rule_table.true in
    subst (λ h. AdoptPost g.S.Store c.args.conn.now h (Err Store)) (search rules)
    (commits_none g.S.Store c.args.conn.now c.audit_by_database_schema.new.tx.conn.now c.begin_transaction-tx.ensures.is_committed c.in_ok-condition.field-0
    (rw c.begin_transaction-tx.ensures.begun at c.in_ok-condition.ensures.step) c.in-Passes.schema c.in-Passes.is older
    c.upgrade_tables.new.tx.conn.now c.in_ok-upgrade_tables.ensures.step c.commit.new.self.0 c.in-Err.ensures.survives c.in-Err.field-0 c.in-Err.ensures.err)

pub returns-in_err-upgrade_tables-clause-adopted : goal.returns-in_err-upgrade_tables-clause-adopted
returns-in_err-upgrade_tables-clause-adopted g c =
    let older : (abstract_schema c.in-Passes.schema).has_settle_rule_table ≡ false = sym c.has_settle_rule_table.ensures ∙ c.if-not-has_settle_rule_table.true in
    let fault = c.in_err-upgrade_tables.field-0.0 in
    let p = err_from_is_err_and c.from_residual-in_err-upgrade_tables.result c.from_residual-in_err-upgrade_tables.ensures.1 in
    subst (λ h. MatchResult c.from_residual-in_err-upgrade_tables.result (λ _. AdoptPost g.S.Store c.args.conn.now h (Ok tt)) (λ e. AdoptPost g.S.Store c.args.conn.now h (Err e))) (search rules)
    (subst (λ r. MatchResult {T = Bool} r (λ _. AdoptPost g.S.Store c.args.conn.now c.drop-tx-in_err-upgrade_tables.new.self.0 (Ok tt)) (λ e. AdoptPost g.S.Store c.args.conn.now c.drop-tx-in_err-upgrade_tables.new.self.0 (Err e))) (sym (p.1 ∙ ap Err p.2))
    (move_gives_up g.S.Store c.args.conn.now c.audit_by_database_schema.new.tx.conn.now c.begin_transaction-tx.ensures.is_committed c.in_ok-condition.field-0
    (rw c.begin_transaction-tx.ensures.begun at c.in_ok-condition.ensures.step) c.in-Passes.schema c.in-Passes.is older
    c.upgrade_tables.new.tx.conn.now c.drop-tx-in_err-upgrade_tables.new.self.0 fault c.in_err-upgrade_tables.ensures.step
    c.drop-tx-in_err-upgrade_tables.ensures.survives c.drop-tx-in_err-upgrade_tables.ensures.undone))

pub returns-in_err-upgrade_tables-clause-condition : goal.returns-in_err-upgrade_tables-clause-condition
returns-in_err-upgrade_tables-clause-condition g c =
    let p = err_from_is_err_and c.from_residual-in_err-upgrade_tables.result c.from_residual-in_err-upgrade_tables.ensures.1 in
    rw (p.1 ∙ ap Err p.2) (no_damage c.in_err-upgrade_tables.field-0.0 NotEmpty)

pub returns-clause-adopted : goal.returns-clause-adopted
returns-clause-adopted g c =
    let rule : (abstract_schema c.in-Passes.schema).has_settle_rule_table ≡ true = sym c.has_settle_rule_table.ensures ∙ c.if-not-has_settle_rule_table.false in
    let mid = c.drop-tx-2.new.self.0 in
    let end = c.require_open.new.conn in
    let same : HasCleanDisk (state g.S.Store end) → IsUnchanged (state g.S.Store mid) (state g.S.Store end) ⊎ IsRolledBack (state g.S.Store mid) (state g.S.Store end) = search rules in
    let late : Survives (state g.S.Store mid) (state g.S.Store end) (λ _. ⊥) = search rules in
    passes_open g.S.Store c.args.conn.now c.audit_by_database_schema.new.tx.conn.now c.begin_transaction-tx.ensures.is_committed c.in_ok-condition.field-0
    (rw c.begin_transaction-tx.ensures.begun at c.in_ok-condition.ensures.step) mid end c.drop-tx-2.ensures.survives c.drop-tx-2.ensures.undone same late
    c.in-Passes.schema c.in-Passes.is rule c.in_ok-require_open.ensures.is_open

pub returns-clause-not_upgraded : goal.returns-clause-not_upgraded
returns-clause-not_upgraded g c =
    let rule : (abstract_schema c.in-Passes.schema).has_settle_rule_table ≡ true = sym c.has_settle_rule_table.ensures ∙ c.if-not-has_settle_rule_table.false in
    let mid = c.drop-tx-2.new.self.0 in
    let end = c.require_open.new.conn in
    let same : HasCleanDisk (state g.S.Store end) → IsUnchanged (state g.S.Store mid) (state g.S.Store end) ⊎ IsRolledBack (state g.S.Store mid) (state g.S.Store end) = search rules in
    let late : Survives (state g.S.Store mid) (state g.S.Store end) (λ _. ⊥) = search rules in
    λ _. third_open g.S.Store c.args.conn.now c.audit_by_database_schema.new.tx.conn.now c.begin_transaction-tx.ensures.is_committed c.in_ok-condition.field-0
    (rw c.begin_transaction-tx.ensures.begun at c.in_ok-condition.ensures.step) mid end c.drop-tx-2.ensures.survives c.drop-tx-2.ensures.undone same late
    c.in-Passes.schema c.in-Passes.is rule

pub returns-in-Ok-clause-not_upgraded : goal.returns-in-Ok-clause-not_upgraded
returns-in-Ok-clause-not_upgraded g c = λ e. absurd (let f = e in cc)

pub returns-in_err-require_open-clause-adopted : goal.returns-in_err-require_open-clause-adopted
returns-in_err-require_open-clause-adopted g c =
    let p = err_from_is_err_and c.from_residual-in_err-require_open.result c.from_residual-in_err-require_open.ensures.1 in
    let mid = c.drop-tx-2.new.self.0 in
    let end = c.require_open.new.conn in
    let same : HasCleanDisk (state g.S.Store end) → IsUnchanged (state g.S.Store mid) (state g.S.Store end) ⊎ IsRolledBack (state g.S.Store mid) (state g.S.Store end) = search rules in
    let late : Survives (state g.S.Store mid) (state g.S.Store end) (λ _. ⊥) = search rules in
    subst (λ r. MatchResult {T = Bool} r (λ _. AdoptPost g.S.Store c.args.conn.now c.require_open.new.conn (Ok tt)) (λ e. AdoptPost g.S.Store c.args.conn.now c.require_open.new.conn (Err e))) (sym (p.1 ∙ ap Err p.2))
    (found_closed g.S.Store c.args.conn.now c.audit_by_database_schema.new.tx.conn.now c.begin_transaction-tx.ensures.is_committed c.in_ok-condition.field-0
    (rw c.begin_transaction-tx.ensures.begun at c.in_ok-condition.ensures.step) mid end c.drop-tx-2.ensures.survives c.drop-tx-2.ensures.undone same late)
