use Rattle.std.proofs.Common.{◌≡◌, ◌∙◌, false, Result, Ok, Err, ap, inl, inr, refl, subst, sym, rules}
use Rattle.std.proofs.lemmas.Result.{err_from_is_err_and}
use Rattle.sqlite.specs.Effect.{Database}
use Rattle.sqlite.specs.Held.{state}
use Rattle.brk_money.specs.declared.fault.Condition.TheVariants.{NotEmpty}
use Rattle.brk_money.specs.declared.fault.StoreFailed.{StoreFailed}
use Rattle.brk_money.specs.declared.fault.Fault.TheVariants.{Damaged, Store}
use Rattle.brk_tables_sql.proofs.Inside.{clean_before, step_then}
use Rattle.brk_tables.specs.Made.{CreatesDeskTables}
use Rattle.brk_tables_scan.specs.Present.{has_table_of_desk}
use Rattle.brk_store_transactions.specs.Holds.{CreatePost}
use Rattle.brk_store_transactions.proofs.Ending.{with_transaction_open, creates, commits_none, creates_nothing}
use Rattle.brk_store_transactions.proofs.changing.create_tables_atomically.Goals as goal

-- none was there, and all are made
abbrev Made : Database → Database → Type 0
Made a b = (has_table_of_desk a.schema ≡ false) × CreatesDeskTables a b

pub returns-in-Ok-clause-created : goal.returns-in-Ok-clause-created
returns-in-Ok-clause-created g c =
    let old = c.args.conn.now in
    let test = c.has_some_desk_table.new.tx.conn.now in
    let mid = c.create_desk_tables.new.tx.conn.now in
    let end = c.commit.new.self.0 in
    let step = step_then (state g.S.Store (with_transaction_open old)) (state g.S.Store test) (state g.S.Store mid) c.in_ok-has_some_desk_table.field-0 (Ok tt)
    (λ has a b. (b.now ≡ a.now) × (has ≡ has_table_of_desk a.now.schema)) (λ _ a b. CreatesDeskTables a.now b.now) (λ _ a b. Made a.now b.now)
    (λ _ p q. (sym p.1 ∙ c.if-branch.false, subst (λ d. CreatesDeskTables d (state g.S.Store mid).now) p.0 q))
    (rw c.transaction-tx.ensures.begun at c.in_ok-has_some_desk_table.ensures.step) c.in_ok-create_desk_tables.ensures.step in
    subst (λ h. CreatePost g.S.Store old h (Ok tt)) (search rules)
    (creates g.S.Store old mid end (c.is_autocommit-is_autocommit.ensures.settled (search rules)) Made step c.in-Ok.ensures.survives c.in-Ok.ensures.ok
    (λ db o may. g.met.S.Store.settled end.store db o may) (λ a b h. h))

pub returns-in-Err-clause-created : goal.returns-in-Err-clause-created
returns-in-Err-clause-created g c =
    let old = c.args.conn.now in
    let test = c.has_some_desk_table.new.tx.conn.now in
    let mid = c.create_desk_tables.new.tx.conn.now in
    let end = c.commit.new.self.0 in
    let step = step_then (state g.S.Store (with_transaction_open old)) (state g.S.Store test) (state g.S.Store mid) c.in_ok-has_some_desk_table.field-0 (Ok tt)
    (λ has a b. (b.now ≡ a.now) × (has ≡ has_table_of_desk a.now.schema)) (λ _ a b. CreatesDeskTables a.now b.now) (λ _ a b. Made a.now b.now)
    (λ _ p q. (sym p.1 ∙ c.if-branch.false, subst (λ d. CreatesDeskTables d (state g.S.Store mid).now) p.0 q))
    (rw c.transaction-tx.ensures.begun at c.in_ok-has_some_desk_table.ensures.step) c.in_ok-create_desk_tables.ensures.step in
    subst (λ h. CreatePost g.S.Store old h (Err Store)) (search rules)
    (commits_none g.S.Store old mid end (c.is_autocommit-is_autocommit.ensures.settled (search rules)) Made step c.in-Err.ensures.survives c.in-Err.field-0 c.in-Err.ensures.err (λ a b h. h))

pub returns-in_err-has_some_desk_table-clause-created : goal.returns-in_err-has_some_desk_table-clause-created
returns-in_err-has_some_desk_table-clause-created g c =
    let p = err_from_is_err_and c.from_residual.result c.from_residual.ensures.1 in
    creates_nothing g.S.Store c.args.conn.now c.has_some_desk_table.new.tx.conn.now c.drop-tx.new.self.0
    (c.is_autocommit-is_autocommit.ensures.settled (search rules)) (Err c.in_err-has_some_desk_table.field-0.0)
    (λ has a b. (b.now ≡ a.now) × (has ≡ has_table_of_desk a.now.schema)) (rw c.transaction-tx.ensures.begun at c.in_err-has_some_desk_table.ensures.step)
    c.drop-tx.ensures.survives c.drop-tx.ensures.undone _ c.from_residual.result Store (search rules)
    (p.1 ∙ ap Err p.2) (λ _. inr refl)

pub returns-then-branch-clause-created : goal.returns-then-branch-clause-created
returns-then-branch-clause-created g c =
    let step = rw c.transaction-tx.ensures.begun at c.in_ok-has_some_desk_table.ensures.step in
    let mid = c.has_some_desk_table.new.tx.conn.now in
    let end = c.drop-tx-then-branch.new.self.0 in
    creates_nothing g.S.Store c.args.conn.now mid end (c.is_autocommit-is_autocommit.ensures.settled (search rules)) (Ok c.in_ok-has_some_desk_table.field-0)
    (λ has a b. (b.now ≡ a.now) × (has ≡ has_table_of_desk a.now.schema)) step c.drop-tx-then-branch.ensures.survives c.drop-tx-then-branch.ensures.undone _ _ (Damaged NotEmpty) (search rules) refl
    (λ clean. inl (refl, sym (step.relates_states (clean_before (state g.S.Store mid) (state g.S.Store end) (λ _. ⊥) c.drop-tx-then-branch.ensures.survives clean) refl).1.1 ∙ c.if-branch.true))

pub returns-in_err-create_desk_tables-clause-created : goal.returns-in_err-create_desk_tables-clause-created
returns-in_err-create_desk_tables-clause-created g c =
    let old = c.args.conn.now in
    let test = c.has_some_desk_table.new.tx.conn.now in
    let mid = c.create_desk_tables.new.tx.conn.now in
    let out : Result (Unit {0}) StoreFailed = Err c.in_err-create_desk_tables.field-0.0 in
    let step = step_then (state g.S.Store (with_transaction_open old)) (state g.S.Store test) (state g.S.Store mid) c.in_ok-has_some_desk_table.field-0 out
    (λ has a b. (b.now ≡ a.now) × (has ≡ has_table_of_desk a.now.schema)) (λ _ a b. CreatesDeskTables a.now b.now) (λ _ a b. Made a.now b.now)
    (λ _ p q. (sym p.1 ∙ c.if-branch.false, subst (λ d. CreatesDeskTables d (state g.S.Store mid).now) p.0 q))
    (rw c.transaction-tx.ensures.begun at c.in_ok-has_some_desk_table.ensures.step) c.in_err-create_desk_tables.ensures.step in
    let p = err_from_is_err_and c.from_residual-in_err-create_desk_tables.result c.from_residual-in_err-create_desk_tables.ensures.1 in
    creates_nothing g.S.Store old mid c.drop-tx-in_err-create_desk_tables.new.self.0 (c.is_autocommit-is_autocommit.ensures.settled (search rules)) out (λ _ a b. Made a.now b.now) step
    c.drop-tx-in_err-create_desk_tables.ensures.survives c.drop-tx-in_err-create_desk_tables.ensures.undone _
    c.from_residual-in_err-create_desk_tables.result Store (search rules)
    (p.1 ∙ ap Err p.2) (λ _. inr refl)
