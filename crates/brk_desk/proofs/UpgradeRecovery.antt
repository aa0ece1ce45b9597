-- A database of any schema is adopted, also after a crash that follows an adoption, failed or not.
use Rattle.std.proofs.Common.{◌≡◌, ◌∙◌, inl, inr, Option, Some, None, Result, Ok, Err, IsTrue, refl, sym, ap, subst}
use Rattle.std.specs.Prelude.{OnOk}
use Rattle.sqlite_trees.specs.declared.store.Store.{Ghosts}
use Rattle.sqlite_trees.specs.Tree.{Trees}
use Rattle.sqlite.specs.Effect.{Database}
use Rattle.sqlite.specs.Held.{Held, state}
use Rattle.sqlite.specs.State.{HasCleanDisk}
use Rattle.brk_money.specs.declared.fault.Condition.{Condition}
use Rattle.brk_money.specs.declared.fault.Fault.{Fault}
use Rattle.brk_money.specs.declared.fault.Fault.TheVariants.{Memory, Store, Damaged}
use Rattle.brk_model.specs.Adopted.{base_of_tables}
use Rattle.brk_model.specs.Base.{Base}
use Rattle.brk_model.specs.Sheets.{sheets}
use Rattle.brk_model.specs.Tables.{Tables}
use Rattle.brk_trade_rows.specs.Schemas.{abstract_schema}
use Rattle.brk_trade_rows.specs.declared.schema.Schema as known
use Rattle.brk_store_transactions.specs.Audited.{StoresRowsWithAuditResult, IsDatabaseAuditResult, AdoptPost, ConnectionTablesWithDeskNamesAreDeskTables, AuditAnswerSatisfies, IsConsistent}
use Rattle.brk_store_transactions.specs.Holds.{IsDiskContentOfRows}
use Rattle.brk_store_transactions.proofs.Defined.{defined_whole}
use Rattle.brk_store_transactions.proofs.States.{clean_before, same_audited_rows, same_database, upgraded_rows_there}
use Rattle.brk_store_transactions.proofs.Taking.{one_answer}
use Rattle.brk_desk.specs.Reopening.{RepresentsAuditedRowsDurably, IsNewConnectionToDiskContent, AdoptsBaseWithoutDamage, IsNewConnectionAfterCrash, FindsBaseWithoutDamage, RepresentsDurableBase}
use Rattle.brk_desk.proofs.UpgradedRows.{are_upgraded}
use Rattle.brk_desk.proofs.Reopened.{RecoversOnlyLastCommit, leaves_alone, taken_over}

-- the books of rows that passed can be kept
rows_can_be : (schema : known.Schema) (rows : Tables) (db : Database) → StoresRowsWithAuditResult (abstract_schema schema) rows db None → IsConsistent (base_of_tables rows)
rows_can_be schema rows db a = let k = are_upgraded schema rows a.2 a.1 in record { books = k.books; sound = k.sound; texts = k.texts }

-- what is so of each answer is so of this one
each_answer : (result : Result (Unit {0}) Fault) (P Q : Option Condition → Type 0) → ((answer : Option Condition) → P answer → Q answer) → AuditAnswerSatisfies result P → AuditAnswerSatisfies result Q
each_answer (Ok x) P Q f p = f None p
each_answer (Err (Damaged c)) P Q f p = f (Some c) p
each_answer (Err Memory) P Q f p = tt
each_answer (Err Store) P Q f p = tt

module _ {S : Type 0} (g : Ghosts S) (settled : RecoversOnlyLastCommit g) where
  -- ---- an adoption that went well

  module _ (trees : Trees) (conn store : Held S) (opened : IsNewConnectionToDiskContent g trees conn) (adopted : AdoptPost g conn store (Ok tt))
      (clean : HasCleanDisk (state g store)) (defined : ConnectionTablesWithDeskNamesAreDeskTables g conn) where
    before : HasCleanDisk (state g conn)
    before = clean_before (state g conn) (state g store) _ (adopted.survives defined) clean

    -- the rows are there, and committed
    stands : (schema : known.Schema) (rows : Tables) → StoresRowsWithAuditResult (abstract_schema schema) rows (state g conn).now None
        → IsTrue (state g store).is_open → RepresentsDurableBase g store (base_of_tables rows)
    stands schema rows a on =
        let m = adopted.upgraded clean on defined in
        let there = upgraded_rows_there schema rows (state g conn).now (state g store).now a m.0 in
        let can = rows_can_be schema rows (state g conn).now a in
        record {
          represented = record { rows = λ _ _. there; consistent = can };
          crash_exposes_only_base = λ left may. ((state g store).now, there, settled store.store left on may ∙ ap (λ (db : Database). db.trees) m.1);
        }

    pub adopted_stands : (schema : known.Schema) (rows : Tables) → StoresRowsWithAuditResult (abstract_schema schema) rows (state g conn).now None → RepresentsDurableBase g store (base_of_tables rows)
    adopted_stands schema rows a = stands schema rows a (adopted.open_after_adoption clean)

    pub takes_over : RepresentsAuditedRowsDurably g conn store
    takes_over = let told = adopted.answered clean defined in (told.0, told.1.0, told.1.1, adopted_stands told.0 told.1.0 told.1.1)

  -- ---- a stop within an adoption

  module _ (trees : Trees) (first left conn store : Held S) (stopped result : Result (Unit {0}) Fault) (opened : IsNewConnectionToDiskContent g trees first) (schema : known.Schema) (rows : Tables)
      (answered : StoresRowsWithAuditResult (abstract_schema schema) rows (state g first).now None) (adopted : AdoptPost g first left stopped)
      (clean : HasCleanDisk (state g left)) (again : IsNewConnectionAfterCrash g left conn)
      (adopts : AdoptPost g conn store result) (after : HasCleanDisk (state g store)) where
    was_clean : HasCleanDisk (state g first)
    was_clean = clean_before (state g first) (state g left) _ (adopted.survives (λ _ _. defined_whole (abstract_schema schema) rows (state g first).now answered.0)) clean

    -- the rows are there as they were
    module _ (same : again.0 ≡ trees) where
      defined : ConnectionTablesWithDeskNamesAreDeskTables g conn
      defined good on = defined_whole (abstract_schema schema) rows (state g conn).now (there good).0
        where
          there : HasCleanDisk (state g conn) → StoresRowsWithAuditResult (abstract_schema schema) rows (state g conn).now None
          there good =
              subst (λ db. StoresRowsWithAuditResult (abstract_schema schema) rows db None)
              (same_database (state g first).now (state g conn).now (opened.connected.live was_clean (opened.opens was_clean).is_open).0 (again.2.connected.live good (again.2.opens good).is_open).0
              (opened.connected.same was_clean ∙ sym same ∙ sym (again.2.connected.same good))) answered

      there : StoresRowsWithAuditResult (abstract_schema schema) rows (state g conn).now None
      there =
          let good = clean_before (state g conn) (state g store) _ (adopts.survives defined) after in
          subst (λ db. StoresRowsWithAuditResult (abstract_schema schema) rows db None)
          (same_database (state g first).now (state g conn).now (opened.connected.live was_clean (opened.opens was_clean).is_open).0 (again.2.connected.live good (again.2.opens good).is_open).0
          (opened.connected.same was_clean ∙ sym same ∙ sym (again.2.connected.same good))) answered

      stands_after : (r : Result (Unit {0}) Fault) → r ≡ result → OnOk r (RepresentsDurableBase g store (base_of_tables rows))
      stands_after (Ok x) e = adopted_stands again.0 conn store again.2 (subst (AdoptPost g conn store) (sym e) adopts) after defined schema rows there
      stands_after (Err f) e = tt

      upgraded_again : AdoptsBaseWithoutDamage g store result (base_of_tables rows)
      upgraded_again = record {
        undamaged = each_answer result (IsDatabaseAuditResult (state g conn).now) (λ answer. answer ≡ None)
            (λ answer told. one_answer (state g conn).now answer None told (schema, (rows, there))) (adopts.answered after defined);
        represented = stands_after result refl;
      }

    -- the upgraded rows are there
    upgraded_already : (base : Base) → base ≡ base_of_tables rows → IsDiskContentOfRows (sheets base) again.0 → AdoptsBaseWithoutDamage g store result (base_of_tables rows)
    upgraded_already base same are =
        let t : FindsBaseWithoutDamage g store result (λ b. b ≡ base_of_tables rows) =
        taken_over g settled again.0 conn store result again.2 adopts after (base_of_tables rows) (rows_can_be schema rows (state g first).now answered)
        (subst (λ b. IsDiskContentOfRows (sheets b) again.0) same are) (λ b. b ≡ base_of_tables rows) refl in
        record { undamaged = t.undamaged; represented = whichever result (subst (RepresentsDurableBase g store) t.possible t.represented) }
      where
        whichever : (r : Result (Unit {0}) Fault) → RepresentsDurableBase g store (base_of_tables rows) → OnOk r (RepresentsDurableBase g store (base_of_tables rows))
        whichever (Ok x) h = h
        whichever (Err f) h = tt

    pub upgrade_taken_over : AdoptsBaseWithoutDamage g store result (base_of_tables rows)
    upgrade_taken_over =
        elim ((adopted.survives (λ _ _. defined_whole (abstract_schema schema) rows (state g first).now answered.0)).crash clean again.0 again.1) [
          | inl was ↦ upgraded_again (leaves_alone g settled trees first opened was_clean again.0 was)
          | inr m ↦ upgraded_already (base_of_tables m.1) (ap base_of_tables (same_audited_rows m.0 schema m.1 rows (state g first).now m.3 answered)) m.4
        ]
