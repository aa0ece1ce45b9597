-- Reads of a store that was adopted: they leave the adoption what it is.
use Rattle.std.proofs.Common.{◌≡◌, ◌⊎◌, inl, inr, ◌∙◌, Option, None, Result, Ok, Err, IsTrue, sym, subst}
use Rattle.sqlite_trees.specs.declared.store.Store.{Ghosts}
use Rattle.sqlite.specs.Held.{Held, state}
use Rattle.sqlite.specs.State.{State, HasCleanDisk, IsRolledBack, IsUnchanged, Survives}
use Rattle.sqlite.proofs.StateLemmas.{survives_then}
use Rattle.brk_money.specs.declared.fault.Condition.{Condition}
use Rattle.brk_money.specs.declared.fault.Fault.{Fault}
use Rattle.brk_money.specs.declared.fault.Fault.TheVariants.{Store}
use Rattle.brk_model.specs.Schemas.{third_schema}
use Rattle.brk_store_transactions.proofs.Ending.{still_holds}
use Rattle.brk_store_transactions.specs.Audited.{AdoptPost, AuditAnswerSatisfies, AuditPost, ConnectionHasThirdSchema, ConnectionTablesWithDeskNamesAreDeskTables}
use Rattle.brk_store_transactions.specs.Audited.{IsDatabaseAuditResultBySchema, IsUpgradedDiskContent, UpgradesAuditedRows}
use Rattle.brk_store_transactions.specs.Holds.{WasOpenAndIsUnchanged}
use Rattle.brk_store_reads.specs.ReadSequences.{IsUnchangedByReads, disk_was_clean_before_reads}
use Rattle.brk_store_reads.proofs.Sequences.{none_then, same_then}

-- ---- a test that a store is open changes no more than a read

unchanged_or_back : (a b : State) → (IsTrue a.is_open → a.now ≡ a.committed) → IsUnchanged a b ⊎ IsRolledBack a b → IsTrue b.is_open → WasOpenAndIsUnchanged a b
unchanged_or_back a b settled (inl same) on = record { was_open = same.0.was_open; now = same.0.now_is; committed = same.0.committed_is }
unchanged_or_back a b settled (inr back) on =
    let was_open = back.was_open on in
    let undone = back.undone on in
    record { was_open = was_open; now = undone.0 ∙ sym (settled was_open); committed = undone.1 }

pub unchanged_by_test : {S : Type 0} (g : Ghosts S) (old new : Held S) → (IsTrue (state g old).is_open → (state g old).now ≡ (state g old).committed)
    → (HasCleanDisk (state g new) → IsUnchanged (state g old) (state g new) ⊎ IsRolledBack (state g old) (state g new))
    → Survives (state g old) (state g new) (λ _. ⊥) → IsUnchangedByReads g old new
unchanged_by_test g old new settled same survives = record {
  same_rows = still_holds g old old new settled (λ _. ⊥) survives kept;
  unchanged_if_open = kept;
  survives = survives;
}
  where
    kept : HasCleanDisk (state g new) → IsTrue (state g new).is_open → WasOpenAndIsUnchanged (state g old) (state g new)
    kept clean on = unchanged_or_back (state g old) (state g new) settled (same clean) on

-- ---- reads after an adoption

module _ {S : Type 0} (g : Ghosts S) (old mid end : Held S) (reads : IsUnchangedByReads g mid end) where
  before : HasCleanDisk (state g end) → HasCleanDisk (state g mid)
  before = disk_was_clean_before_reads mid end reads

  audited_then_read : (result : Result (Unit {0}) Fault) → ((P : Option Condition → Type 0) → P None → AuditAnswerSatisfies result P) → AuditPost g old mid (Ok tt)
      → AuditPost g old end result
  audited_then_read result at_ok post = record {
    answered = λ clean defined. at_ok (IsDatabaseAuditResultBySchema third_schema (state g old).now) (post.answered (before clean) defined);
    was_open = λ clean. at_ok (λ _. IsTrue (state g old).is_open) (post.was_open (before clean));
    same_rows = λ t holds. reads.same_rows t (post.same_rows t holds);
    unchanged_if_open = λ clean on.
        let s = reads.unchanged_if_open clean on in
        same_then (state g old) (state g mid) (state g end) (post.unchanged_if_open (before clean) s.was_open) s;
    survives = none_then (state g old) (state g mid) (state g end) (λ _. ⊥) post.survives reads.survives;
  }

  module _ (post : AdoptPost g old mid (Ok tt)) where
    survived : ConnectionTablesWithDeskNamesAreDeskTables g old → Survives (state g old) (state g end) (IsUpgradedDiskContent (state g old).now)
    survived defined =
        survives_then (state g old) (state g mid) (state g end) (IsUpgradedDiskContent (state g old).now) (λ _. ⊥) (IsUpgradedDiskContent (state g old).now)
        (λ _ db p. p) (λ _ db none. absurd none) (post.survives defined) reads.survives

    -- the store is open after them
    pub adopted_then_read : (HasCleanDisk (state g end) → IsTrue (state g end).is_open) → AdoptPost g old end (Ok tt)
    adopted_then_read opened = record {
      answered = λ clean defined. post.answered (before clean) defined;
      was_open = λ clean. post.was_open (before clean);
      adopted = λ defined. let rows = post.adopted defined in (rows.0, reads.same_rows rows.0 rows.1, rows.2, rows.3);
      upgraded = λ clean on defined.
          let s = reads.unchanged_if_open clean on in
          let u = post.upgraded (before clean) s.was_open defined in
          (subst (UpgradesAuditedRows (state g old).now) (sym s.now) u.0, s.committed ∙ u.1 ∙ sym s.now);
      open_after_adoption = opened;
      unchanged_if_open = λ clean on. tt;
      survives = survived;
      audited = λ defined third. audited_then_read (Ok tt) (λ P p. p) (post.audited defined third);
    }

    -- they closed it, and nothing was upgraded
    pub closed_by_read : ConnectionTablesWithDeskNamesAreDeskTables g old → (HasCleanDisk (state g mid) → ConnectionHasThirdSchema g old) → AdoptPost g old end (Err Store)
    closed_by_read defined third = record {
      answered = λ clean defined. tt;
      was_open = λ clean. tt;
      adopted = λ defined. tt;
      upgraded = λ clean on defined. tt;
      open_after_adoption = λ clean. tt;
      unchanged_if_open = λ clean on.
          let s = reads.unchanged_if_open clean on in
          let audit = post.audited defined (third (before clean)) in
          same_then (state g old) (state g mid) (state g end) (audit.unchanged_if_open (before clean) s.was_open) s;
      survives = survived;
      audited = λ defined third. audited_then_read (Err Store) (λ P p. tt) (post.audited defined third);
    }
