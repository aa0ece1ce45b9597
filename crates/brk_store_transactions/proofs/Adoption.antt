-- The possible results of an adoption, and the state after each.
use Rattle.std.proofs.Common.{◌≡◌, ◌∙◌, Option, Some, None, Result, Ok, Err, Bool, IsTrue, List, ◌∷◌, ℕ, refl, sym, subst, inl, inr, true, false, []}
use Rattle.std.specs.Prelude.{◌⊎◌, ◌≢◌}
use Rattle.std.specs.List.{AllByRecursion}
use Rattle.std.proofs.lemmas.List.{append-nil}
use Rattle.sqlite_schema.specs.declared.schema.Table.{Table}
use Rattle.sqlite_trees.specs.View.{doubt}
use Rattle.sqlite_trees.specs.declared.store.Store.{Ghosts}
use Rattle.sqlite.specs.Effect.{Database}
use Rattle.sqlite.specs.Held.{Held, state}
use Rattle.sqlite.specs.State.{State, HasCleanDisk, Survives, IsRolledBack, IsUnchanged, Shows, KeepsCounts}
use Rattle.sqlite.specs.Steps.{FailsToCommit}
use Rattle.sqlite.specs.declared.error.Error.{Error}
use Rattle.sqlite.proofs.StateLemmas.{survives_then, survives_weaker}
use Rattle.brk_money.specs.declared.fault.Condition.{Condition}
use Rattle.brk_money.specs.declared.fault.Condition.TheVariants as condition
use Rattle.brk_money.specs.Kinds.{fault_of_call}
use Rattle.brk_money.specs.declared.fault.CallFault.{CallFault}
use Rattle.brk_money.specs.declared.fault.CallFault.TheVariants as call
use Rattle.brk_money.specs.declared.fault.Fault.{Fault}
use Rattle.brk_money.specs.declared.fault.Fault.TheVariants.{Store, Damaged}
use Rattle.brk_model.specs.Adopted.{base_of_tables}
use Rattle.brk_model.specs.Base.{empty_base}
use Rattle.brk_model.specs.Form.{has_utf8_texts}
use Rattle.brk_model.specs.Upgraded.{tables_upgraded_from_schema}
use Rattle.brk_model.specs.Schemas.{third_schema}
use Rattle.brk_model.specs.Sheets.{sheets}
use Rattle.brk_model.specs.Tables.{Tables, tables_without_rows}
use Rattle.brk_trade_rows.specs.declared.schema.Schema as known
use Rattle.brk_trade_rows.specs.declared.schema.Schema.TheVariants.{First, Second, Third}
use Rattle.brk_trade_rows.specs.Schemas.{abstract_schema}
use Rattle.brk_tables_sql.specs.Model.{IsTransactionStep}
use Rattle.brk_tables_sql.proofs.Inside.{clean_before, step_then}
use Rattle.brk_trade_books.proofs.Steps.{empty_books, empty_rows}
use Rattle.brk_audit_theorems.specs.Passing.{PassesAudit}
use Rattle.brk_audit_theorems.proofs.UpgradedRows.{first_narrower, upgraded_rows, rows_upgraded_from, second_narrower}
use Rattle.brk_audit_theorems.proofs.Passing.{passing_tables}
use Rattle.brk_audit_theorems.proofs.Adopted.{sound_passes}
use Rattle.brk_audit_theorems.proofs.SoundSteps.{empty_sound}
use Rattle.brk_tables_sql.specs.Desk.{HasNoWritingForeignKeysAt}
use Rattle.brk_tables_schema.specs.Desk.{DeskTable}
use Rattle.brk_tables_schema.specs.Made.{HasDeskTables, IsTableOfSchema}
use Rattle.brk_tables_cash.specs.Upgrade.{PreservesTablesOutside, UpgradesTables}
use Rattle.brk_tables_scan.specs.Schemas.{DatabaseHasSchema, TablesWithDeskNamesAreDeskTables, TablesWithSchemaNamesAreDeskTables}
use Rattle.brk_tables_scan.proofs.Defined.{desk_is_there}
use Rattle.brk_store_transactions.specs.Audited.{IsUpgradedDiskContent, StoresRowsWithAuditResult, IsDatabaseAuditResult, IsDatabaseAuditResultBySchema, UpgradesAuditedRows}
use Rattle.brk_store_transactions.specs.Audited.{ConnectionHasThirdSchema, AdoptPost, AuditPost, ConnectionTablesWithDeskNamesAreDeskTables, AuditAnswerSatisfies}
use Rattle.brk_store_transactions.specs.AuditResult.{IsTrueAuditResult}
use Rattle.brk_store_transactions.specs.Holds.{HoldsRows, WasOpenAndIsUnchanged}
use Rattle.brk_store_transactions.specs.declared.examining.AuditResult.{AuditResult}
use Rattle.brk_store_transactions.specs.declared.examining.AuditResult.TheVariants.{Passes as Succeeds, Fails}
use Rattle.brk_store_transactions.proofs.Closing.{answer_with, on_fault}
use Rattle.brk_store_transactions.proofs.Ending.{all, with_transaction_open, kept_at, rolled_back, still_holds, through, whole}
use Rattle.brk_store_transactions.proofs.Schemas.{one_desk, older_has_none, third_has_rule, third_rows, two_desks}
use Rattle.brk_store_transactions.proofs.Telling.{ReturnsTrueAuditResult}
use Rattle.brk_store_transactions.proofs.Texts.{upgraded_texts}

-- ---- a call after a transaction was rolled back, which changes nothing or rolls back once more

back_at_end : (a b c : State) → IsRolledBack a b → IsUnchanged b c ⊎ IsRolledBack b c → IsRolledBack a c
back_at_end a b c back (inl same) = record {
  was_open = λ on. back.was_open same.0.was_open;
  undone = λ on. let u = back.undone same.0.was_open in (same.0.now_is ∙ u.0, same.0.committed_is ∙ u.1);
  autocommit = same.0.mode ∙ back.autocommit;
  unmarked = same.2 ∙ back.unmarked;
  counts = record { changes = same.1.changes ∙ back.counts.changes; last_rowid = same.1.last_rowid ∙ back.counts.last_rowid };
}
back_at_end a b c back (inr again) = record {
  was_open = λ on. back.was_open (again.was_open on);
  undone = λ on. let u = back.undone (again.was_open on) in let v = again.undone on in (v.0 ∙ u.1, v.1 ∙ u.1);
  autocommit = again.autocommit;
  unmarked = again.unmarked;
  counts = record { changes = again.counts.changes ∙ back.counts.changes; last_rowid = again.counts.last_rowid ∙ back.counts.last_rowid };
}

module _ {S : Type 0} (g : Ghosts S) (first mid end : Held S) (late : Survives (state g first) (state g mid) (λ _. ⊥)) (later : Survives (state g mid) (state g end) (λ _. ⊥)) where
  pub late_at_end : Survives (state g first) (state g end) (λ _. ⊥)
  late_at_end = survives_then (state g first) (state g mid) (state g end) (λ _. ⊥) (λ _. ⊥) (λ _. ⊥) (λ _ db none. none) (λ _ db none. none) late later

  pub rolled_back_at_end : (HasCleanDisk (state g mid) → IsRolledBack (state g first) (state g mid))
      → (HasCleanDisk (state g end) → IsUnchanged (state g mid) (state g end) ⊎ IsRolledBack (state g mid) (state g end))
      → HasCleanDisk (state g end) → IsRolledBack (state g first) (state g end)
  rolled_back_at_end back then_same clean = back_at_end (state g first) (state g mid) (state g end) (back (clean_before (state g mid) (state g end) (λ _. ⊥) later clean)) (then_same clean)

-- ---- the rows that a move leaves

-- If tables with the names of a desk's tables have their definitions, the database `a` contains
-- rows of `schema` that pass their audit; and `b` is `a` after the upgrade of its tables from
-- `schema`.
abbrev pub HasPassingRowsAndUpgrades : known.Schema → Database → Database → Type 0
HasPassingRowsAndUpgrades schema a b = (TablesWithDeskNamesAreDeskTables a → (t : Tables) × StoresRowsWithAuditResult (abstract_schema schema) t a None) × UpgradesTables (abstract_schema schema) a b

-- what was made of rows that passed are the tables of their base
as_tables : (schema : known.Schema) (t : Tables) → PassesAudit (abstract_schema schema) t → tables_upgraded_from_schema (abstract_schema schema) t ≡ sheets (base_of_tables t)
as_tables schema t passes = let h = rows_upgraded_from (abstract_schema schema) t passes in h.0 ∙ h.1

made_upgraded : (schema : known.Schema) (a b : Database) → HasPassingRowsAndUpgrades schema a b → TablesWithDeskNamesAreDeskTables a → UpgradesAuditedRows a b
made_upgraded schema a b made defined =
    let passing = made.0 defined in
    let has = passing.1.0 in
    let s = made.1 passing.0 has.0 has.1 has.2 in
    (schema, passing.0, passing.1, subst (λ u. HasDeskTables u b) (as_tables schema passing.0 passing.1.2) (s.tree, s.rows), s.others)

-- where nothing is written each table stands as it did
strangers_stay : (In : DeskTable → Type 0) (tree : DeskTable → ℕ) (a b : Database) → b ≡ a → PreservesTablesOutside In tree a b
strangers_stay In tree a b same =
    subst (λ d. PreservesTablesOutside In tree a d) (sym same) (record { more = []; tables = sym (append-nil a.schema.tables); rows = all_stay (λ k none keys_write_nothing. refl) a.schema.tables })
  where
    all_stay : ((k : Table) → ((w : DeskTable) → In w → k.tree ≢ tree w) → HasNoWritingForeignKeysAt a.schema k.tree → a.trees k.tree ≡ a.trees k.tree) → (ks : List Table)
        → AllByRecursion (λ k. ((w : DeskTable) → In w → k.tree ≢ tree w) → HasNoWritingForeignKeysAt a.schema k.tree → a.trees k.tree ≡ a.trees k.tree) ks
    all_stay each [] = tt
    all_stay each (k ∷ ks) = (each k, all_stay each ks)

-- they pass, and their texts can be read
pub upgraded_pass : (schema : known.Schema) (t : Tables) → PassesAudit (abstract_schema schema) t → PassesAudit third_schema (sheets (base_of_tables t))
upgraded_pass First t p = let m = upgraded_rows (abstract_schema First) t first_narrower p in subst (PassesAudit third_schema) m.tables m.passes
upgraded_pass Second t p = let m = upgraded_rows (abstract_schema Second) t second_narrower p in subst (PassesAudit third_schema) m.tables m.passes
upgraded_pass Third t p = subst (PassesAudit third_schema) (sym (passing_tables third_schema t p)) p

pub upgraded_read : (schema : known.Schema) (t : Tables) → PassesAudit (abstract_schema schema) t → IsTrue (has_utf8_texts t) → IsTrue (has_utf8_texts (sheets (base_of_tables t)))
upgraded_read schema t p texts = subst (λ u. IsTrue (has_utf8_texts u)) (rows_upgraded_from (abstract_schema schema) t p).1 (upgraded_texts t texts)

clean_or_not : (b : Bool) → (doubt b ≡ 0) ⊎ (¬ (doubt b ≡ 0))
unfolding doubt
clean_or_not true = inl refl
clean_or_not false = inr (λ e. cc)

true_or_not : (b : Bool) → (b ≡ true) ⊎ (¬ (b ≡ true))
true_or_not true = inl refl
true_or_not false = inr (λ e. cc)

no_rows_pass : PassesAudit third_schema tables_without_rows
no_rows_pass = subst (PassesAudit third_schema) empty_rows (sound_passes empty_base empty_books empty_sound)

module _ {S : Type 0} (g : Ghosts S) (new : Held S) where
  -- The store holds rows that pass the audit of schema 3 and have texts in UTF-8.
  abbrev pub HoldsPassingRows : Type 0
  HoldsPassingRows = (t : Tables) × HoldsRows g new t × PassesAudit third_schema t × IsTrue (has_utf8_texts t)

  pub rows_held : (db : Database) → (HasCleanDisk (state g new) → IsTrue (state g new).is_open → UpgradesAuditedRows db (state g new).now) → HoldsPassingRows
  rows_held db upgraded = go (clean_or_not (state g new).is_clean) (true_or_not (state g new).is_open)
    where
      go : (HasCleanDisk (state g new)) ⊎ (¬ HasCleanDisk (state g new)) → (IsTrue (state g new).is_open) ⊎ (¬ IsTrue (state g new).is_open) → HoldsPassingRows
      go (inl clean) (inl on) =
          let m = upgraded clean on in
          (sheets (base_of_tables m.1), (λ _ _. m.3), upgraded_pass m.0 m.1 m.2.2, upgraded_read m.0 m.1 m.2.2 m.2.1)
      go (inl clean) (inr off) = (tables_without_rows, (λ _ on. absurd (off on)), no_rows_pass, refl)
      go (inr never) o = (tables_without_rows, (λ clean _. absurd (never clean)), no_rows_pass, refl)

-- ---- the answer over all schemas is that of the third, where its desk is there

audited_third : (db : Database) (answer : Option Condition) → TablesWithSchemaNamesAreDeskTables third_schema db → DatabaseHasSchema third_schema db
    → IsDatabaseAuditResult db answer → IsDatabaseAuditResultBySchema third_schema db answer
audited_third db None defined there h = subst (λ s. IsDatabaseAuditResultBySchema (abstract_schema s) db None) (sym (one_desk Third h.0 h.1.0 db there h.1.1.0)) h.1
audited_third db (Some condition.NotEmpty) defined there h = h
audited_third db (Some condition.Schema) defined there h = absurd (h Third there)
audited_third db (Some condition.Form) defined there h = subst (λ s. IsDatabaseAuditResultBySchema (abstract_schema s) db (Some condition.Form)) (sym (two_desks h.0 db defined there h.1.0)) h.1
audited_third db (Some c) defined there h = subst (λ s. IsDatabaseAuditResultBySchema (abstract_schema s) db (Some c)) (sym (one_desk Third h.0 h.1.0 db there h.1.1.0)) h.1

module _ {S : Type 0} (g : Ghosts S) (old first : Held S) (settled : IsTrue (state g old).is_open → (state g old).now ≡ (state g old).committed) where
  -- ---- rolled back, whatever the result: of a desk of the third schema it is an audit

  module _ {V E : Type 0} (mid end : Held S) (out : Result V E) (Q : V → State → State → Type 0)
      (step : IsTransactionStep (state g (with_transaction_open old)) (state g mid) out Q) (late : Survives (state g mid) (state g end) (λ _. ⊥))
      (back : HasCleanDisk (state g end) → IsRolledBack (state g mid) (state g end)) where
    passed : Survives (state g old) (state g end) (λ _. ⊥)
    passed = through g old mid end settled out Q step late

    stayed : HasCleanDisk (state g end) → IsTrue (state g end).is_open → WasOpenAndIsUnchanged (state g old) (state g end)
    stayed = rolled_back g old mid end settled out Q (λ _. ⊥) step back late

    module _ (result : Result (Unit {0}) Fault)
        (told : HasCleanDisk (state g end) → ConnectionTablesWithDeskNamesAreDeskTables g old
        → AuditAnswerSatisfies result (IsDatabaseAuditResult (state g old).now)) (opened : HasCleanDisk (state g end)
        → AuditAnswerSatisfies result (λ _. IsTrue (state g old).is_open)) where
      as_audit : ConnectionTablesWithDeskNamesAreDeskTables g old → ConnectionHasThirdSchema g old → AuditPost g old end result
      as_audit defined third = record {
        answered = λ clean _.
            let before = clean_before (state g old) (state g end) (λ _. ⊥) passed clean in
            answer_with result (IsDatabaseAuditResult (state g old).now) (λ _. IsTrue (state g old).is_open) (IsDatabaseAuditResultBySchema third_schema (state g old).now)
            (λ answer h on. audited_third (state g old).now answer (defined before on Third) (third before on) h) (told clean defined) (opened clean);
        was_open = opened;
        same_rows = still_holds g old mid end settled (λ _. ⊥) passed stayed;
        unchanged_if_open = stayed;
        survives = passed;
      }

      crashes : ConnectionTablesWithDeskNamesAreDeskTables g old → Survives (state g old) (state g end) (IsUpgradedDiskContent (state g old).now)
      crashes defined = survives_weaker (state g old) (state g end) _ _ (λ _ db none. absurd none) passed

    none_adopted : (fault : Fault)
        → (HasCleanDisk (state g end) → ConnectionTablesWithDeskNamesAreDeskTables g old
        → AuditAnswerSatisfies (Err fault) (IsDatabaseAuditResult (state g old).now)) → (HasCleanDisk (state g end)
        → AuditAnswerSatisfies (Err fault) (λ _. IsTrue (state g old).is_open))
        → AdoptPost g old end (Err fault)
    none_adopted fault told opened = record {
      answered = told;
      was_open = opened;
      adopted = λ defined. tt;
      upgraded = λ clean on defined. tt;
      open_after_adoption = λ clean. tt;
      unchanged_if_open = stayed;
      survives = crashes (Err fault) told opened;
      audited = as_audit (Err fault) told opened;
    }

    pub gave_up : (fault : CallFault) → AdoptPost g old end (Err (fault_of_call fault))
    gave_up fault =
        none_adopted (fault_of_call fault) (λ clean defined. on_fault fault (IsDatabaseAuditResult (state g old).now))
        (λ clean. on_fault fault (λ _. IsTrue (state g old).is_open))

  module _ (told : AuditResult) (step : IsTransactionStep {V = AuditResult} {E = CallFault} (state g (with_transaction_open old)) (state g first) (Ok told) ReturnsTrueAuditResult) where
    looked : (end : Held S) → Survives (state g first) (state g end) (λ _. ⊥) → HasCleanDisk (state g end) → ReturnsTrueAuditResult told (state g (with_transaction_open old)) (state g first)
    looked end late clean = (step.relates_states (clean_before (state g first) (state g end) (λ _. ⊥) late clean) refl).1

    clean_then : (end : Held S) → Survives (state g first) (state g end) (λ _. ⊥) → HasCleanDisk (state g end) → HasCleanDisk (state g old)
    clean_then end late = clean_before (state g old) (state g end) (λ _. ⊥) (through g old first end settled (Ok told) ReturnsTrueAuditResult step late)

    told_at : (end : Held S) (one : AuditResult) → told ≡ one → Survives (state g first) (state g end) (λ _. ⊥) → HasCleanDisk (state g end)
        → ConnectionTablesWithDeskNamesAreDeskTables g old → IsTrueAuditResult one (state g old).now
    told_at end one is late clean defined = let l = looked end late clean in subst (λ e. IsTrueAuditResult e (state g old).now) is (l.2 (defined (clean_then end late clean) l.0))

    -- a condition fails
    pub fails : (end : Held S) (failing : Condition) → told ≡ Fails failing → Survives (state g first) (state g end) (λ _. ⊥)
        → (HasCleanDisk (state g end) → IsRolledBack (state g first) (state g end)) → AdoptPost g old end (Err (Damaged failing))
    fails end failing is late back =
        none_adopted first end (Ok told) ReturnsTrueAuditResult step late back (Damaged failing) (told_at end (Fails failing) is late) (λ clean. (looked end late clean).0)

    -- a desk of the third schema passes, and is left as it is
    passes : (end : Held S) (schema : known.Schema) → told ≡ Succeeds schema → (abstract_schema schema).has_settle_rule_table ≡ true
        → Survives (state g first) (state g end) (λ _. ⊥) → (HasCleanDisk (state g end) → IsRolledBack (state g first) (state g end))
        → (HasCleanDisk (state g end) → IsTrue (state g end).is_open) → AdoptPost g old end (Ok tt)
    passes end schema is rule late back opened = record {
      answered = now_told;
      was_open = was_open;
      adopted = λ defined. rows_held g end (state g old).now (λ clean on. there clean on defined);
      upgraded = λ clean on defined. let k = same_at clean on in (there clean on defined, k.committed ∙ sym (settled k.was_open) ∙ sym k.now);
      open_after_adoption = opened;
      unchanged_if_open = λ clean on. tt;
      survives = crashes first end (Ok told) ReturnsTrueAuditResult step late back (Ok tt) now_told was_open;
      audited = as_audit first end (Ok told) ReturnsTrueAuditResult step late back (Ok tt) now_told was_open;
    }
      where
        third : told ≡ Succeeds Third
        third = subst (λ s. told ≡ Succeeds s) (third_has_rule schema rule) is

        now_told : HasCleanDisk (state g end) → ConnectionTablesWithDeskNamesAreDeskTables g old → AuditAnswerSatisfies (Ok tt) (IsDatabaseAuditResult (state g old).now)
        now_told clean defined = (Third, told_at end (Succeeds Third) third late clean defined)

        was_open : HasCleanDisk (state g end) → AuditAnswerSatisfies (Ok tt) (λ _. IsTrue (state g old).is_open)
        was_open clean = (looked end late clean).0

        same_at : HasCleanDisk (state g end) → IsTrue (state g end).is_open → WasOpenAndIsUnchanged (state g old) (state g end)
        same_at = stayed first end (Ok told) ReturnsTrueAuditResult step late back

        there : HasCleanDisk (state g end) → IsTrue (state g end).is_open → ConnectionTablesWithDeskNamesAreDeskTables g old → UpgradesAuditedRows (state g old).now (state g end).now
        there clean on defined =
            let p = told_at end (Succeeds Third) third late clean defined in
            let rows : HasDeskTables (tables_upgraded_from_schema third_schema p.0) (state g end).now =
            subst (HasDeskTables p.0) (sym (same_at clean on).now) (third_rows p.0 (state g old).now p.1.0) in (
              Third,
              p.0,
              p.1,
              subst (λ u. HasDeskTables u (state g end).now) (as_tables Third p.0 p.1.2) rows,
              strangers_stay (IsTableOfSchema third_schema) p.1.0.0 (state g old).now (state g end).now (same_at clean on).now,
            )

    -- and it was there before
    third_there : (end : Held S) (schema : known.Schema) → told ≡ Succeeds schema → (abstract_schema schema).has_settle_rule_table ≡ true
        → Survives (state g first) (state g end) (λ _. ⊥) → HasCleanDisk (state g end) → ConnectionTablesWithDeskNamesAreDeskTables g old → ConnectionHasThirdSchema g old
    third_there end schema is rule late clean defined =
        let p = told_at end (Succeeds Third) (subst (λ s. told ≡ Succeeds s) (third_has_rule schema rule) is) late clean defined in
        λ _ _. desk_is_there third_schema p.0 (state g old).now p.1.0

    -- then a test that the database is open
    module _ (mid end : Held S) (late : Survives (state g first) (state g mid) (λ _. ⊥)) (back : HasCleanDisk (state g mid) → IsRolledBack (state g first) (state g mid))
        (same : HasCleanDisk (state g end) → IsUnchanged (state g mid) (state g end) ⊎ IsRolledBack (state g mid) (state g end)) (later : Survives (state g mid) (state g end) (λ _. ⊥)) where
      late_end : Survives (state g first) (state g end) (λ _. ⊥)
      late_end = late_at_end g first mid end late later

      back_end : HasCleanDisk (state g end) → IsRolledBack (state g first) (state g end)
      back_end = rolled_back_at_end g first mid end late later back same

      pub passes_open : (schema : known.Schema) → told ≡ Succeeds schema → (abstract_schema schema).has_settle_rule_table ≡ true
          → (HasCleanDisk (state g end) → IsTrue (state g end).is_open) → AdoptPost g old end (Ok tt)
      passes_open schema is rule opened = passes end schema is rule late_end back_end opened

      pub third_open : (schema : known.Schema) → told ≡ Succeeds schema → (abstract_schema schema).has_settle_rule_table ≡ true
          → HasCleanDisk (state g end) → ConnectionTablesWithDeskNamesAreDeskTables g old → ConnectionHasThirdSchema g old
      third_open schema is rule clean defined = third_there end schema is rule late_end clean defined

      pub found_closed : AdoptPost g old end (Err Store)
      found_closed = gave_up first end (Ok told) ReturnsTrueAuditResult step late_end back_end call.Store

    module _ (schema : known.Schema) (is : told ≡ Succeeds schema) (older : (abstract_schema schema).has_settle_rule_table ≡ false) (mid : Held S) where
      -- the move gave up
      pub move_gives_up : (end : Held S) (fault : CallFault)
          → IsTransactionStep {V = Unit {0}} {E = CallFault} (state g first) (state g mid) (Err fault)
          (λ _ a b. UpgradesTables (abstract_schema schema) a.now b.now)
          → Survives (state g mid) (state g end) (λ _. ⊥) → (HasCleanDisk (state g end) → IsRolledBack (state g mid) (state g end)) → AdoptPost g old end (Err (fault_of_call fault))
      move_gives_up end fault move late back =
          gave_up mid end (Err fault) (λ _ a b. UpgradesTables (abstract_schema schema) a.now b.now)
          (step_then (state g (with_transaction_open old)) (state g first) (state g mid) told (Err fault) ReturnsTrueAuditResult
          (λ _ a b. UpgradesTables (abstract_schema schema) a.now b.now) (λ _ a b. UpgradesTables (abstract_schema schema) a.now b.now)
          (λ _ l m. subst (λ d. UpgradesTables (abstract_schema schema) d (state g mid).now) l.1 m) step move)
          late back fault

      module _ (move : IsTransactionStep {V = Unit {0}} {E = CallFault} (state g first) (state g mid) (Ok tt)
          (λ _ a b. UpgradesTables (abstract_schema schema) a.now b.now)) (end : Held S)
          (late : Survives (state g mid) (state g end) (λ db. db ≡ (state g mid).now.trees)) where
        made : IsTransactionStep {V = Unit {0}} {E = CallFault} (state g (with_transaction_open old)) (state g mid) (Ok tt) (λ _ a b. HasPassingRowsAndUpgrades schema a.now b.now)
        made =
            step_then (state g (with_transaction_open old)) (state g first) (state g mid) told (Ok tt) ReturnsTrueAuditResult
            (λ _ a b. UpgradesTables (abstract_schema schema) a.now b.now) (λ _ a b. HasPassingRowsAndUpgrades schema a.now b.now)
            (λ _ l m. ((λ defined. subst (λ e. IsTrueAuditResult e (state g old).now) is (l.2 defined)), subst (λ d. UpgradesTables (abstract_schema schema) d (state g mid).now) l.1 m)) step move

        over : Survives (state g old) (state g end) (λ trees. (db : Database) × HasPassingRowsAndUpgrades schema (state g old).now db × (trees ≡ db.trees))
        over = whole g old mid end settled (HasPassingRowsAndUpgrades schema) made late

        clean_old : HasCleanDisk (state g end) → HasCleanDisk (state g old)
        clean_old = clean_before (state g old) (state g end) _ over

        looked_at : HasCleanDisk (state g end) → ReturnsTrueAuditResult told (state g (with_transaction_open old)) (state g first)
        looked_at clean = (step.relates_states (clean_before (state g first) (state g mid) (λ _. ⊥) move.survives (clean_before (state g mid) (state g end) _ late clean)) refl).1

        -- it was open where the rows were looked at
        was_open : HasCleanDisk (state g end) → IsTrue (state g old).is_open
        was_open clean = (looked_at clean).0

        -- no desk of the third schema is there
        never : ConnectionTablesWithDeskNamesAreDeskTables g old → ConnectionHasThirdSchema g old → HasCleanDisk (state g end) → ⊥
        never defined third clean =
            let l = looked_at clean in
            let before = clean_old clean in
            let p = subst (λ e. IsTrueAuditResult e (state g old).now) is (l.2 (defined before l.0)) in
            older_has_none schema older (sym (one_desk Third schema p.0 (state g old).now (third before l.0) p.1.0))

        left : ConnectionTablesWithDeskNamesAreDeskTables g old → Survives (state g old) (state g end) (IsUpgradedDiskContent (state g old).now)
        unfolding made_upgraded
        left defined =
            survives_weaker (state g old) (state g end) _ _
            (λ clean trees h.
            let m = made_upgraded schema (state g old).now h.0 h.1 (defined (clean_old clean) (was_open clean)) in
            (schema, m.1, older_has_none schema older, m.2, (h.0, m.3, h.2))) over

        nothing : (result : Result (Unit {0}) Fault) → (HasCleanDisk (state g end) → AuditAnswerSatisfies result (λ _. IsTrue (state g old).is_open))
            → ConnectionTablesWithDeskNamesAreDeskTables g old → ConnectionHasThirdSchema g old → AuditPost g old end result
        nothing result opened defined third = record {
          answered = λ clean known. absurd (never defined third clean);
          was_open = opened;
          same_rows = λ t holds clean on. absurd (never defined third clean);
          unchanged_if_open = λ clean on. absurd (never defined third clean);
          survives = survives_weaker (state g old) (state g end) _ _ (λ clean trees h. never defined third clean) over;
        }

        pub commits : (HasCleanDisk (state g end) → IsTrue (state g mid).in_transaction
            × Shows (state g mid) (state g end) (state g mid).now (state g mid).now false × KeepsCounts (state g mid) (state g end)
            × ((state g end).marks ≡ [])) → AdoptPost g old end (Ok tt)
        commits done = record {
          answered = λ clean defined. let p = (ends clean).2.0 (defined (clean_old clean) (was_open clean)) in (schema, p);
          was_open = was_open;
          adopted = λ defined. rows_held g end (state g old).now (λ clean on. there clean defined);
          upgraded = λ clean on defined. (there clean defined, (ends clean).3);
          open_after_adoption = λ clean. (ends clean).1;
          unchanged_if_open = λ clean on. tt;
          survives = left;
          audited = nothing (Ok tt) was_open;
        }
          where
            ends : (clean : HasCleanDisk (state g end)) → IsTrue (state g old).is_open × IsTrue (state g end).is_open
                × HasPassingRowsAndUpgrades schema (state g old).now (state g end).now × ((state g end).committed ≡ (state g end).now)
            ends = all g old mid end settled (HasPassingRowsAndUpgrades schema) made late done

            there : HasCleanDisk (state g end) → ConnectionTablesWithDeskNamesAreDeskTables g old → UpgradesAuditedRows (state g old).now (state g end).now
            there clean defined = made_upgraded schema (state g old).now (state g end).now (ends clean).2 (defined (clean_old clean) (was_open clean))

        pub commits_none : (e : Error) → (HasCleanDisk (state g end) → FailsToCommit (state g mid) (state g end) e) → AdoptPost g old end (Err Store)
        commits_none e fails = record {
          answered = λ clean defined. tt;
          was_open = λ clean. tt;
          adopted = λ defined. tt;
          upgraded = λ clean on defined. tt;
          open_after_adoption = λ clean. tt;
          unchanged_if_open = kept_at g old mid end settled (HasPassingRowsAndUpgrades schema) made late e fails;
          survives = left;
          audited = nothing (Err Store) (λ clean. tt);
        }
