-- The state after an audit, whose transaction is rolled back.
use Rattle.std.proofs.Common.{◌≡◌, Option, Some, None, Result, Ok, Err, IfOk, IsTrue, refl, sym, subst}
use Rattle.std.specs.Prelude.{◌≢◌}
use Rattle.sqlite_trees.specs.declared.store.Store.{Ghosts}
use Rattle.sqlite.specs.Held.{Held, state}
use Rattle.sqlite.specs.State.{HasCleanDisk, Survives, IsRolledBack}
use Rattle.brk_money.specs.declared.fault.Condition.{Condition}
use Rattle.brk_money.specs.Kinds.{fault_of_call}
use Rattle.brk_money.specs.declared.fault.CallFault.{CallFault}
use Rattle.brk_money.specs.declared.fault.CallFault.TheVariants as call
use Rattle.brk_money.specs.declared.fault.Fault.{Fault}
use Rattle.brk_money.specs.declared.fault.Fault.TheVariants.{Memory, Store, Damaged}
use Rattle.brk_model.specs.Schemas.{third_schema}
use Rattle.brk_tables_sql.specs.Model.{IsTransactionStep}
use Rattle.brk_tables_sql.proofs.Inside.{clean_before}
use Rattle.brk_store_transactions.specs.Audited.{IsDatabaseAuditResultBySchema, AuditPost, ConnectionTablesWithThirdSchemaNamesAreDeskTables, AuditAnswerSatisfies}
use Rattle.brk_store_transactions.specs.Holds.{WasOpenAndIsUnchanged}
use Rattle.brk_store_transactions.proofs.Answering.{AuditsByThirdSchema}
use Rattle.brk_store_transactions.proofs.Ending.{with_transaction_open, rolled_back, still_holds, through}

-- what is so of any fault that tells nothing
pub on_fault : (fault : CallFault) (P : Option Condition → Type 0) → AuditAnswerSatisfies (Err (fault_of_call fault)) P
on_fault call.Memory P = tt
on_fault call.Store P = tt

-- it is no damage
pub no_damage : (fault : CallFault) (failing : Condition) → fault_of_call fault ≢ Damaged failing
no_damage call.Memory failing e = absurd (let f : Memory ≡ Damaged failing = e in cc)
no_damage call.Store failing e = absurd (let f : Store ≡ Damaged failing = e in cc)

-- what is so of an answer is so of it with what else is known
pub answer_with : (result : Result (Unit {0}) Fault) (P Q R : Option Condition → Type 0) → ((answer : Option Condition) → P answer → Q answer → R answer)
    → AuditAnswerSatisfies result P → AuditAnswerSatisfies result Q → AuditAnswerSatisfies result R
answer_with (Ok x) P Q R f p q = f None p q
answer_with (Err (Damaged c)) P Q R f p q = f (Some c) p q
answer_with (Err Memory) P Q R f p q = tt
answer_with (Err Store) P Q R f p q = tt

module _ {S : Type 0} (g : Ghosts S) (old conn first mid end : Held S) (conn_is : conn ≡ old) (first_is : first ≡ with_transaction_open conn)
    (settled : IsTrue (state g conn).is_open → (state g conn).now ≡ (state g conn).committed) (out : Result (Option Condition) CallFault)
    (step : IsTransactionStep (state g first) (state g mid) out AuditsByThirdSchema)
    (late : Survives (state g mid) (state g end) (λ _. ⊥)) (back : HasCleanDisk (state g end) → IsRolledBack (state g mid) (state g end)) where
  in_transaction : IsTransactionStep (state g (with_transaction_open conn)) (state g mid) out AuditsByThirdSchema
  in_transaction = subst (λ h. IsTransactionStep (state g h) (state g mid) out AuditsByThirdSchema) first_is step

  kept_of_step : HasCleanDisk (state g end) → IsTrue (state g end).is_open → WasOpenAndIsUnchanged (state g conn) (state g end)
  kept_of_step = rolled_back g conn mid end settled out AuditsByThirdSchema (λ _. ⊥) in_transaction back late

  whole : Survives (state g conn) (state g end) (λ _. ⊥)
  whole = through g conn mid end settled out AuditsByThirdSchema in_transaction late

  told_then : HasCleanDisk (state g end) → IfOk out (λ answer. IsTrue (state g mid).in_transaction × AuditsByThirdSchema answer (state g (with_transaction_open conn)) (state g mid))
  told_then clean = in_transaction.relates_states (clean_before (state g mid) (state g end) (λ _. ⊥) late clean) refl

  audited : (result : Result (Unit {0}) Fault) → ((P : Option Condition → Type 0) → IfOk out P → AuditAnswerSatisfies result P) → AuditPost g old end result
  audited result answers =
      subst (λ h. AuditPost g h end result) conn_is
      (record {
        answered = λ clean defined. answers (IsDatabaseAuditResultBySchema third_schema (state g conn).now)
            (of_told (clean_before (state g conn) (state g end) (λ _. ⊥) whole clean) defined out (told_then clean));
        was_open = λ clean. answers (λ _. IsTrue (state g conn).is_open) (of_open out (told_then clean));
        same_rows = still_holds g conn mid end settled (λ _. ⊥) whole kept_of_step;
        unchanged_if_open = kept_of_step;
        survives = whole;
      })
    where
      of_told : HasCleanDisk (state g conn) → ConnectionTablesWithThirdSchemaNamesAreDeskTables g conn → (o : Result (Option Condition) CallFault)
          → IfOk o (λ answer. IsTrue (state g mid).in_transaction × AuditsByThirdSchema answer (state g (with_transaction_open conn)) (state g mid))
          → IfOk o (IsDatabaseAuditResultBySchema third_schema (state g conn).now)
      of_told clean defined (Ok answer) h = h.1.2 (defined clean h.1.0)
      of_told clean defined (Err fault) h = tt

      of_open : (o : Result (Option Condition) CallFault)
          → IfOk o (λ answer. IsTrue (state g mid).in_transaction × AuditsByThirdSchema answer (state g (with_transaction_open conn)) (state g mid))
          → IfOk o (λ _. IsTrue (state g conn).is_open)
      of_open (Ok answer) h = h.1.0
      of_open (Err fault) h = tt

-- ---- by the result of the rows

module _ {S : Type 0} (g : Ghosts S) (old conn first mid end : Held S) where
  -- they pass
  pub audit_passes : (answer : Option Condition) → conn ≡ old → first ≡ with_transaction_open conn → (IsTrue (state g conn).is_open → (state g conn).now ≡ (state g conn).committed)
      → IsTransactionStep {V = Option Condition} {E = CallFault} (state g first) (state g mid) (Ok answer) AuditsByThirdSchema → answer ≡ None
      → Survives (state g mid) (state g end) (λ _. ⊥) → (HasCleanDisk (state g end) → IsRolledBack (state g mid) (state g end)) → AuditPost g old end (Ok tt)
  audit_passes answer conn_is first_is settled step is late back =
      audited g old conn first mid end conn_is first_is settled (Ok answer) step late back (Ok tt) (λ P h. subst P is h)

  -- a condition fails
  pub audit_fails : (answer : Option Condition) (failing : Condition) → conn ≡ old → first ≡ with_transaction_open conn
      → (IsTrue (state g conn).is_open → (state g conn).now ≡ (state g conn).committed)
      → IsTransactionStep {V = Option Condition} {E = CallFault} (state g first) (state g mid) (Ok answer) AuditsByThirdSchema → answer ≡ Some failing
      → Survives (state g mid) (state g end) (λ _. ⊥) → (HasCleanDisk (state g end) → IsRolledBack (state g mid) (state g end)) → AuditPost g old end (Err (Damaged failing))
  audit_fails answer failing conn_is first_is settled step is late back =
      audited g old conn first mid end conn_is first_is settled (Ok answer) step late back (Err (Damaged failing)) (λ P h. subst P is h)

  -- the audit failed
  pub audit_gives_up : (fault : CallFault) → conn ≡ old → first ≡ with_transaction_open conn → (IsTrue (state g conn).is_open → (state g conn).now ≡ (state g conn).committed)
      → IsTransactionStep {V = Option Condition} {E = CallFault} (state g first) (state g mid) (Err fault) AuditsByThirdSchema
      → Survives (state g mid) (state g end) (λ _. ⊥) → (HasCleanDisk (state g end) → IsRolledBack (state g mid) (state g end)) → AuditPost g old end (Err (fault_of_call fault))
  audit_gives_up fault conn_is first_is settled step late back =
      audited g old conn first mid end conn_is first_is settled (Err fault) step late back (Err (fault_of_call fault)) (λ P h. on_fault fault P)
