-- The index of a store, from one call to the next.
use Rattle.std.proofs.Common.{◌≡◌, false, Result, Ok, Err, IsTrue, sym, subst}
use Rattle.sqlite_trees.specs.declared.store.Store.{Ghosts}
use Rattle.sqlite.specs.Effect.{Database}
use Rattle.sqlite.specs.Held.{Held, state}
use Rattle.sqlite.specs.State.{HasCleanDisk, Survives, IsRolledBack}
use Rattle.brk_money.specs.declared.fault.StoreFailed.{StoreFailed}
use Rattle.brk_model.specs.Tables.{Tables}
use Rattle.brk_tables_sql.specs.Model.{IsTransactionStep, IsUnchangedAndSatisfies}
use Rattle.brk_tables_sql.proofs.Inside.{clean_before}
use Rattle.brk_tables_schema.specs.Desk.{desk_tables}
use Rattle.brk_tables_schema.specs.Made.{HasDeskTables}
use Rattle.brk_tables_scan.specs.Schemas.{TablesWithDeskNamesAreDeskTables}
use Rattle.brk_store_transactions.specs.Audited.{AdoptPost}
use Rattle.brk_store_transactions.specs.Holds.{ApplyPost, ReadPost, WasOpenAndIsUnchanged}
use Rattle.brk_store.specs.Indexed.{IsIndexOfDatabase, IndexIsTrue}
use Rattle.brk_store_reads.specs.ReadSequences.{IsUnchangedByReads, disk_was_clean_before_reads}
use Rattle.brk_store_index.specs.declared.store_index.StoreIndex.{StoreIndex}
use Rattle.brk_store_index.specs.declared.store_index.StoreIndex.TheVariants.{Absent, Made, Unmade}
use Rattle.brk_store_transactions.proofs.Ending.{is_read, with_transaction_open}
use Rattle.brk_store_index.specs.Index.{IsIndexOf}
use Rattle.brk_store_index.specs.declared.index.RowIndex.{RowIndex}

module _ {S : Type 0} (g : Ghosts S) (old new : Held S) (index : StoreIndex) where
  -- what is so of a database is so where it is unchanged
  pub unchanged_index : (HasCleanDisk (state g new) → HasCleanDisk (state g old))
      → (HasCleanDisk (state g new) → IsTrue (state g new).is_open → WasOpenAndIsUnchanged (state g old) (state g new)) → IndexIsTrue g old index → IndexIsTrue g new index
  unchanged_index before same is = record {
    indexed = λ clean on. let s = same clean on in subst (IsIndexOfDatabase index) (sym s.now) (is.indexed (before clean) s.was_open);
  }

  pub index_after_reads : IsUnchangedByReads g old new → IndexIsTrue g old index → IndexIsTrue g new index
  index_after_reads reads = unchanged_index (disk_was_clean_before_reads old new reads) reads.unchanged_if_open

  pub index_after_changes : (more : StoreIndex) (after : Tables → Tables) → ApplyPost {V = Unit {0}} {E = StoreFailed} g old new (Ok tt) after
      → ((a b : Database) → ((t : Tables) → HasDeskTables t a → HasDeskTables (after t) b) → IsIndexOfDatabase index a → IsIndexOfDatabase more b)
      → IndexIsTrue g old index → IndexIsTrue g new more
  index_after_changes more after post keeps is = record {
    indexed = λ clean on.
        keeps (state g old).now (state g new).now (λ t has. post.applied t (λ _ _. has) clean on)
        (is.indexed (clean_before (state g old) (state g new) _ post.survives clean) (post.open_and_committed clean).0);
  }

-- The index of all rows that a read returned is that of the database.
pub index_of_read : {S E : Type 0} (g : Ghosts S) (old new : Held S) (index : RowIndex) → ReadPost {E = E} g old new (Ok index) IsIndexOf
    → IndexIsTrue g old Unmade → IndexIsTrue g new (Made index)
index_of_read g old new index read is = record {
  indexed = λ clean on.
      let s = read.unchanged_if_open clean on in
      let c = is.indexed (clean_before (state g old) (state g new) (λ _. ⊥) read.survives clean) s.was_open in
      (c.0, subst (HasDeskTables c.0) (sym s.now) c.1, read.answered clean c.0 (λ _ _. c.1));
}

-- Of no index nothing is said.
pub no_index : {S : Type 0} (g : Ghosts S) (conn : Held S) → IndexIsTrue g conn Absent
no_index g conn = record { indexed = λ clean on. tt }

-- A call that changes rows, by another type of its error.
pub applied_as : {S V E F : Type 0} (g : Ghosts S) (old new : Held S) (v : V) (after : Tables → Tables) → ApplyPost {E = E} g old new (Ok v) after
    → ApplyPost {E = F} g old new (Ok v) after
applied_as g old new v after post = record {
  applied = post.applied;
  open_and_committed = post.open_and_committed;
  other_tables = post.other_tables;
  same_rows_at_error = tt;
  unchanged_if_open = λ clean on. tt;
  survives = post.survives;
  durable = post.durable;
}

pub not_applied_as : {S V E F : Type 0} (g : Ghosts S) (old new : Held S) (e : E) (fault : F) (after : Tables → Tables)
    → ApplyPost {V = V} g old new (Err e) after → ApplyPost {V = V} g old new (Err fault) after
not_applied_as g old new e fault after post = record {
  applied = tt;
  open_and_committed = λ clean. tt;
  other_tables = λ clean. tt;
  same_rows_at_error = post.same_rows_at_error;
  unchanged_if_open = post.unchanged_if_open;
  survives = post.survives;
  durable = λ clean. tt;
}

-- the rows of an adopted store are there, if the tables are defined as a desk defines them
pub tables_of_adopted : {S : Type 0} (g : Ghosts S) (old new : Held S) → (IsTrue (state g old).is_open → TablesWithDeskNamesAreDeskTables (state g old).now)
    → AdoptPost g old new (Ok tt) → IndexIsTrue g new Unmade
tables_of_adopted g old new defined adoption = record { indexed = λ clean on. let rows = adoption.adopted (λ _. defined) in (rows.0, rows.1 clean on) }

-- a read in a transaction, which is dropped at its end
pub read_keeps_index : {S V E : Type 0} (g : Ghosts S) (conn first mid end : Held S) (index : StoreIndex) {out : Result V E} {P : V → Tables → Type 0}
    → first ≡ with_transaction_open conn → (IsTrue (state g conn).is_open → (state g conn).now ≡ (state g conn).committed)
    → IsTransactionStep (state g first) (state g mid) out (λ v. IsUnchangedAndSatisfies desk_tables (P v))
    → Survives (state g mid) (state g end) (λ _. ⊥) → (HasCleanDisk (state g end) → IsRolledBack (state g mid) (state g end)) → end.in_transaction ≡ false
    → IndexIsTrue g conn index → (end.in_transaction ≡ false) × IndexIsTrue g end index
read_keeps_index g conn first mid end index {out} {P} first_is settled step late back ended is =
    let post = is_read g conn mid end settled out P (subst (λ h. IsTransactionStep (state g h) (state g mid) out (λ v. IsUnchangedAndSatisfies desk_tables (P v))) first_is step) late back in
    (ended, unchanged_index g conn end index (clean_before (state g conn) (state g end) (λ _. ⊥) post.survives) post.unchanged_if_open is)
