-- The end of a transaction: a rollback or a commit.
use Rattle.std.proofs.Common.{◌≡◌, ◌⊎◌, inl, inr, true, false, Result, Ok, Err, IfOk, OnOk, IsTrue, [], refl, sym, ap, subst, ◌∙◌}
use Rattle.sqlite_trees.specs.declared.store.Store.{Ghosts}
use Rattle.sqlite_trees.specs.Tree.{Trees}
use Rattle.sqlite.specs.Effect.{Database}
use Rattle.sqlite.specs.Held.{Held, state}
use Rattle.sqlite.specs.State.{State, HasCleanDisk, Survives, IsRolledBack, Shows, KeepsCounts}
use Rattle.sqlite.specs.Steps.{FailsToCommit}
use Rattle.sqlite.specs.declared.error.Error.{Error}
use Rattle.sqlite.proofs.Callers.{survives_begin}
use Rattle.sqlite.proofs.StateLemmas.{survives_then, survives_weaker}
use Rattle.brk_model.specs.Tables.{Tables}
use Rattle.brk_tables_sql.specs.Desk.{ChangesTablesBy}
use Rattle.brk_tables_sql.specs.Model.{IsTransactionStep, IsUnchangedAndSatisfies}
use Rattle.brk_tables_sql.proofs.Inside.{clean_before, commits_all, commits_crash, step_then}
use Rattle.brk_money.specs.declared.fault.Fault.{Fault}
use Rattle.brk_money.specs.declared.fault.Condition.TheVariants.{NotEmpty}
use Rattle.brk_money.specs.declared.fault.Fault.TheVariants.{Damaged, Store}
use Rattle.brk_tables_schema.specs.Desk.{desk_tables}
use Rattle.brk_tables_schema.specs.Made.{HasDeskTables}
use Rattle.brk_tables.specs.Made.{CreatesDeskTables}
use Rattle.brk_tables_scan.specs.Present.{has_table_of_desk}
use Rattle.brk_store_transactions.specs.Holds.{HoldsRows, WasOpenAndIsUnchanged, ReadPost, ApplyPost, CreatePost}

-- The connection `old` with a transaction open on it.
abbrev pub with_transaction_open : {S : Type 0} → Held S → Held S
with_transaction_open old = record old { in_transaction = true }

module _ {S : Type 0} (g : Ghosts S) (old mid end : Held S) (settled : IsTrue (state g old).is_open → (state g old).now ≡ (state g old).committed) where
  -- rolled back
  pub rolled_back : {V E : Type 0} (r : Result V E) (Q : V → State → State → Type 0) (P : Trees → Type 0)
      → IsTransactionStep (state g (with_transaction_open old)) (state g mid) r Q → (HasCleanDisk (state g end) → IsRolledBack (state g mid) (state g end))
      → Survives (state g mid) (state g end) P → HasCleanDisk (state g end) → IsTrue (state g end).is_open → WasOpenAndIsUnchanged (state g old) (state g end)
  rolled_back r Q P step back late clean o =
      let b = back clean in
      let kept = step.commits_nothing (clean_before (state g mid) (state g end) P late clean) in
      let mid_open = b.was_open o in
      let old_open = kept.was_open mid_open in
      record { now = (b.undone o).0 ∙ kept.committed mid_open ∙ sym (settled old_open); committed = (b.undone o).1 ∙ kept.committed mid_open; was_open = old_open }

  pub still_holds : (P : Trees → Type 0) → Survives (state g old) (state g end) P
      → (HasCleanDisk (state g end) → IsTrue (state g end).is_open → WasOpenAndIsUnchanged (state g old) (state g end)) → (t : Tables) → HoldsRows g old t
      → HoldsRows g end t
  still_holds P through kept t holds clean o =
      let k = kept clean o in
      subst (HasDeskTables t) (sym k.now) (holds (clean_before (state g old) (state g end) P through clean) k.was_open)

  module _ {V E : Type 0} (r : Result V E) (Q : V → State → State → Type 0) (step : IsTransactionStep (state g (with_transaction_open old)) (state g mid) r Q)
      (late : Survives (state g mid) (state g end) (λ _. ⊥)) where
    pub through : Survives (state g old) (state g end) (λ _. ⊥)
    through = survives_then (state g old) (state g mid) (state g end) (λ _. ⊥) (λ _. ⊥) (λ _. ⊥) (λ _ db none. none) (λ _ db none. none)
        (survives_begin g old (state g mid) (λ _. ⊥) step.survives) late

  -- a read, whose transaction is dropped
  pub is_read : {V E : Type 0} (out : Result V E) (P : V → Tables → Type 0)
      → IsTransactionStep (state g (with_transaction_open old)) (state g mid) out (λ v. IsUnchangedAndSatisfies desk_tables (P v))
      → Survives (state g mid) (state g end) (λ _. ⊥)
      → (HasCleanDisk (state g end) → IsRolledBack (state g mid) (state g end)) → ReadPost g old end out P
  is_read {V} {E} out P step late back =
      let whole = through out (λ v. IsUnchangedAndSatisfies desk_tables (P v)) step late in
      let kept = rolled_back out (λ v. IsUnchangedAndSatisfies desk_tables (P v)) (λ _. ⊥) step back late in
      record {
        answered = λ clean. tells out (clean_before (state g old) (state g end) (λ _. ⊥) whole clean) (step.relates_states (clean_before (state g mid) (state g end) (λ _. ⊥) late clean) refl);
        was_open = λ clean. opens out (step.relates_states (clean_before (state g mid) (state g end) (λ _. ⊥) late clean) refl);
        same_rows = still_holds _ whole kept;
        unchanged_if_open = kept;
        survives = whole;
      }
    where
      tells : (o : Result V E) → HasCleanDisk (state g old)
          → IfOk o (λ v. IsTrue (state g mid).in_transaction × IsUnchangedAndSatisfies desk_tables (P v) (state g (with_transaction_open old)) (state g mid))
          → IfOk o (λ v. (t : Tables) → HoldsRows g old t → P v t)
      tells (Ok v) clean h = λ t holds. let has = holds clean h.1.0 in h.1.2 t has.0 has.1
      tells (Err e) clean h = tt

      opens : (o : Result V E)
          → IfOk o (λ v. IsTrue (state g mid).in_transaction × IsUnchangedAndSatisfies desk_tables (P v) (state g (with_transaction_open old)) (state g mid))
          → OnOk o (IsTrue (state g old).is_open)
      opens (Ok v) h = h.1.0
      opens (Err e) h = tt

-- A read in a transaction over the connection `conn` of a store satisfies `ReadPost`. The
-- transaction is dropped at its end, which leaves the connection `end`.
pub read_is_over : {S V E : Type 0} (g : Ghosts S) (old conn first mid end new : Held S) {out : Result V E} {P : V → Tables → Type 0} → conn ≡ old → end ≡ new → first ≡ with_transaction_open conn
    → (IsTrue (state g conn).is_open → (state g conn).now ≡ (state g conn).committed) → IsTransactionStep (state g first) (state g mid) out (λ v. IsUnchangedAndSatisfies desk_tables (P v))
    → Survives (state g mid) (state g end) (λ _. ⊥) → (HasCleanDisk (state g end) → IsRolledBack (state g mid) (state g end)) → ReadPost g old new out P
read_is_over g old conn first mid end new {out} {P} same ended first_is settled step late back =
    subst (λ h. ReadPost g h new out P) same
    (subst (λ h. ReadPost g conn h out P) ended
    (is_read g conn mid end settled out P (subst (λ h. IsTransactionStep (state g h) (state g mid) out (λ v. IsUnchangedAndSatisfies desk_tables (P v))) first_is step) late back))

-- ---- a look before the changes, which shows that the store is open

module _ {S L E F : Type 0} (g : Ghosts S) (old first mid : Held S) (seen : L) (P : L → State → State → Type 0)
    (look : IsTransactionStep {E = E} (state g (with_transaction_open old)) (state g first) (Ok seen) (λ l a b. IsTrue a.is_open × (b.now ≡ a.now) × P l a b))
    (r : Result (Unit {0}) F) (after : Tables → Tables) (changes : IsTransactionStep (state g first) (state g mid) r (λ _ a b. ChangesTablesBy desk_tables after a.now b.now)) where
  pub after_look : IsTransactionStep (state g (with_transaction_open old)) (state g mid) r (λ _ a b. ChangesTablesBy desk_tables after a.now b.now)
  after_look =
      step_then (state g (with_transaction_open old)) (state g first) (state g mid) seen r (λ l a b. IsTrue a.is_open × (b.now ≡ a.now) × P l a b)
      (λ _ a b. ChangesTablesBy desk_tables after a.now b.now) (λ _ a b. ChangesTablesBy desk_tables after a.now b.now)
      (λ _ p q. subst (λ d. ChangesTablesBy desk_tables after d (state g mid).now) p.1 q) look changes

  pub open_at_look : HasCleanDisk (state g mid) → IsTrue (state g old).is_open
  open_at_look clean = (look.relates_states (clean_before (state g first) (state g mid) (λ _. ⊥) changes.survives clean) refl).1.0

-- ---- a call within a transaction that fails

-- A step that fails is a step for any relation on returned values.
pub failed : {U V E F : Type 0} (a b : State) (result : Result V F) (e : E) (fault : F) (P : U → State → State → Type 0) (R : V → State → State → Type 0) → result ≡ Err fault
    → IsTransactionStep {V = U} {E = E} a b (Err e) P → IsTransactionStep {V = V} {E = F} a b result R
failed {U} {V} {E} {F} a b result e fault P R is step =
    subst (λ o. IsTransactionStep {V = V} {E = F} a b o R) (sym is)
    (record { commits_nothing = step.commits_nothing; relates_states = λ clean on. tt; survives = step.survives })

-- A step that fails after another step is a step for any relation on returned values.
pub failed_then : {U V W E F G : Type 0} (a b c : State) (u : U) (result : Result V F) (e : G) (fault : F) (P : U → State → State → Type 0)
    (Q : W → State → State → Type 0) (R : V → State → State → Type 0) → result ≡ Err fault
    → IsTransactionStep {V = U} {E = E} a b (Ok u) P → IsTransactionStep {V = W} {E = G} b c (Err e) Q → IsTransactionStep {V = V} {E = F} a c result R
failed_then {U} {V} {W} {E} {F} {G} a b c u result e fault P Q R is first next =
    failed a c result e fault (λ (w : W) (x y : State). Unit {0}) R is
    (step_then a b c u (Err e) P Q (λ (w : W) (x y : State). Unit {0}) (λ w p q. tt) first next)

-- ---- a transaction that is rolled back at a fault

module _ {S V E : Type 0} (g : Ghosts S) (old mid end : Held S) (settled : IsTrue (state g old).is_open → (state g old).now ≡ (state g old).committed) (r : Result V E) (Q : V → State → State → Type 0)
    (step : IsTransactionStep (state g (with_transaction_open old)) (state g mid) r Q) (late : Survives (state g mid) (state g end) (λ _. ⊥))
    (back : HasCleanDisk (state g end) → IsRolledBack (state g mid) (state g end)) where
  whole_call : Survives (state g old) (state g end) (λ _. ⊥)
  whole_call = through g old mid end settled r Q step late

  is_unchanged : HasCleanDisk (state g end) → IsTrue (state g end).is_open → WasOpenAndIsUnchanged (state g old) (state g end)
  is_unchanged = rolled_back g old mid end settled r Q (λ _. ⊥) step back late

  -- A transaction that is rolled back at a fault applies no change.
  pub applies_nothing : {F : Type 0} (new : Held S) (result : Result (Unit {0}) F) (fault : F) (after : Tables → Tables) → end ≡ new → result ≡ Err fault
      → ApplyPost {V = Unit {0}} {E = F} g old new result after
  applies_nothing {F} new result fault after ended is =
      subst (λ h. ApplyPost {V = Unit {0}} {E = F} g old h result after) ended
      (subst (λ o. ApplyPost {V = Unit {0}} {E = F} g old end o after) (sym is)
      (record {
        applied = tt;
        open_and_committed = λ clean. tt;
        other_tables = λ clean. tt;
        same_rows_at_error = still_holds g old mid end settled (λ _. ⊥) whole_call is_unchanged;
        unchanged_if_open = is_unchanged;
        survives = survives_weaker (state g old) (state g end) (λ _. ⊥) _ (λ clean db none. absurd none) whole_call;
        durable = λ clean. tt;
      }))

  -- A transaction that is rolled back at a fault creates no table. The fault is `Damaged(NotEmpty)`,
  -- and a table of a desk existed, or the fault is `Store`.
  pub creates_nothing : (new : Held S) (result : Result (Unit {0}) Fault) (fault : Fault) → end ≡ new → result ≡ Err fault
      → (HasCleanDisk (state g end) → ((fault ≡ Damaged NotEmpty) × (has_table_of_desk (state g old).now.schema ≡ true)) ⊎ (fault ≡ Store)) → CreatePost g old new result
  creates_nothing new result fault ended is why =
      subst (λ h. CreatePost g old h result) ended
      (subst (λ o. CreatePost g old end o) (sym is)
      (record {
        created = tt;
        open_and_committed = λ clean. tt;
        no_table_existed = λ clean. tt;
        other_tables = λ clean. tt;
        not_empty_only_if_existed = λ clean e. elim (why clean) [
          | inl there ↦ there.1
          | inr store ↦ absurd (let f = e in cc)
        ];
        fails_if_existed = λ clean there. elim (why clean) [
          | inl at ↦ inl (ap Err at.0)
          | inr store ↦ inr (ap Err store)
        ];
        unchanged_if_open = is_unchanged;
        survives = survives_weaker (state g old) (state g end) (λ _. ⊥) _ (λ clean db none. absurd none) whole_call;
        durable = λ clean. tt;
      }))

-- ---- committed, or not

module _ {S E : Type 0} (g : Ghosts S) (old mid end : Held S) (settled : IsTrue (state g old).is_open → (state g old).now ≡ (state g old).committed) (made : Database → Database → Type 0)
    (step : IsTransactionStep {V = Unit {0}} {E = E} (state g (with_transaction_open old)) (state g mid) (Ok tt) (λ _ a b. made a.now b.now))
    (late : Survives (state g mid) (state g end) (λ db. db ≡ (state g mid).now.trees)) where
  pub whole : Survives (state g old) (state g end) (λ trees. (db : Database) × made (state g old).now db × (trees ≡ db.trees))
  whole = commits_crash g old mid end made step late

  -- a commit that failed has rolled back
  pub back : (e : Error) → (HasCleanDisk (state g end) → FailsToCommit (state g mid) (state g end) e) → HasCleanDisk (state g end) → IsRolledBack (state g mid) (state g end)
  back e fails clean = elim (fails clean) [
    | inl f ↦ f.3
    | inr off ↦ absurd (let on = (step.relates_states (clean_before (state g mid) (state g end) _ late clean) refl).0 in let f = off.1 in cc)
  ]

  pub kept_at : (e : Error) → (HasCleanDisk (state g end) → FailsToCommit (state g mid) (state g end) e) → HasCleanDisk (state g end)
      → IsTrue (state g end).is_open → WasOpenAndIsUnchanged (state g old) (state g end)
  kept_at e fails = rolled_back g old mid end settled {V = Unit {0}} {E = E} (Ok tt) (λ _ a b. made a.now b.now) _ step (back e fails) late

  module _ (done : HasCleanDisk (state g end) → IsTrue (state g mid).in_transaction
      × Shows (state g mid) (state g end) (state g mid).now (state g mid).now false × KeepsCounts (state g mid) (state g end)
      × ((state g end).marks ≡ [])) where
    pub all : HasCleanDisk (state g end) → IsTrue (state g old).is_open × IsTrue (state g end).is_open × made (state g old).now (state g end).now × ((state g end).committed ≡ (state g end).now)
    all clean = commits_all g old mid end made step late {F = E} (Ok tt) clean done

    -- while a store is open a crash leaves the last commit and nothing else
    leaves_now : ((db : Trees) → IsTrue (state g end).is_open → (state g end).may_leave db → db ≡ (state g end).committed.trees) → HasCleanDisk (state g end)
        → (db : Trees) → (state g end).may_leave db → db ≡ (state g end).now.trees
    leaves_now law clean db may = let it = all clean in law db it.1 may ∙ ap (λ (d : Database). d.trees) it.3

    pub applies : ((db : Trees) → IsTrue (state g end).is_open → (state g end).may_leave db → db ≡ (state g end).committed.trees) → (after : Tables → Tables)
        → ((a b : Database) → made a b → ChangesTablesBy desk_tables after a b)
        → ApplyPost {V = Unit {0}} {E = E} g old end (Ok tt) after
    applies law after turns = record {
      applied = λ t holds clean o.
          let it = all clean in
          let has = holds (clean_before (state g old) (state g end) _ whole clean) it.0 in
          (has.0, (turns _ _ it.2 t has.0 has.1).0);
      open_and_committed = λ clean. let it = all clean in (it.0, it.1, it.3);
      other_tables = λ clean t tree has. (turns _ _ (all clean).2 t tree has).1;
      same_rows_at_error = tt;
      unchanged_if_open = λ clean o. tt;
      survives = survives_weaker (state g old) (state g end) _ _ (λ clean db h. ((all clean).0, (λ t has. (h.0, (has.0, (turns _ _ h.1 t has.0 has.1).0), h.2)))) whole;
      durable = λ clean t holds trees may.
          let it = all clean in
          let has = holds (clean_before (state g old) (state g end) _ whole clean) it.0 in
          ((state g end).now, (has.0, (turns _ _ it.2 t has.0 has.1).0), leaves_now law clean trees may);
    }

    pub creates : ((db : Trees) → IsTrue (state g end).is_open → (state g end).may_leave db → db ≡ (state g end).committed.trees)
        → ((a b : Database) → made a b → (has_table_of_desk a.schema ≡ false) × CreatesDeskTables a b)
        → CreatePost g old end (Ok tt)
    creates law tells = record {
      created = λ clean o. (tells _ _ (all clean).2).1.rows;
      open_and_committed = λ clean. let it = all clean in (it.0, it.1, it.3);
      no_table_existed = λ clean. (tells _ _ (all clean).2).0;
      other_tables = λ clean. (tells _ _ (all clean).2).1.others;
      not_empty_only_if_existed = λ clean e. absurd (let f = e in cc);
      fails_if_existed = λ clean there. absurd (let none = (tells _ _ (all clean).2).0 in let some = there in cc);
      unchanged_if_open = λ clean o. tt;
      survives = survives_weaker (state g old) (state g end) _ _ (λ _ db h. (h.0, (tells _ _ h.1).1.rows, h.2)) whole;
      durable = λ clean trees may. ((state g end).now, (tells _ _ (all clean).2).1.rows, leaves_now law clean trees may);
    }

  module _ (e : Error) (fails : HasCleanDisk (state g end) → FailsToCommit (state g mid) (state g end) e) where
    -- it was open where the changes began
    pub applies_none : (HasCleanDisk (state g mid) → IsTrue (state g old).is_open) → (fault : E) (after : Tables → Tables)
        → ((a b : Database) → made a b → ChangesTablesBy desk_tables after a b) → ApplyPost {V = Unit {0}} {E = E} g old end (Err fault) after
    applies_none was_open fault after turns = record {
      applied = tt;
      open_and_committed = λ clean. tt;
      other_tables = λ clean. tt;
      same_rows_at_error = still_holds g old mid end settled _ whole (kept_at e fails);
      unchanged_if_open = kept_at e fails;
      survives = survives_weaker (state g old) (state g end) _ _
          (λ clean db h. (was_open (clean_before (state g mid) (state g end) _ late clean), (λ t has. (h.0, (has.0, (turns _ _ h.1 t has.0 has.1).0), h.2)))) whole;
      durable = λ clean. tt;
    }

    pub commits_none : ((a b : Database) → made a b → (has_table_of_desk a.schema ≡ false) × CreatesDeskTables a b) → CreatePost g old end (Err Store)
    commits_none tells = record {
      created = tt;
      open_and_committed = λ clean. tt;
      no_table_existed = λ clean. tt;
      other_tables = λ clean. tt;
      not_empty_only_if_existed = λ clean e. absurd (let f = e in cc);
      fails_if_existed = λ clean there. inr refl;
      unchanged_if_open = kept_at e fails;
      survives = survives_weaker (state g old) (state g end) _ _ (λ _ db h. (h.0, (tells _ _ h.1).1.rows, h.2)) whole;
      durable = λ clean. tt;
    }
