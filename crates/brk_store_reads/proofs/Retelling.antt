-- Consequences of the result of a read, and one read after another.
use Rattle.std.proofs.Common.{Result, Ok, Err, IfOk, OnOk, IsTrue}
use Rattle.sqlite_trees.specs.declared.store.Store.{Ghosts}
use Rattle.sqlite.specs.Held.{Held, state}
use Rattle.sqlite.specs.State.{HasCleanDisk}
use Rattle.brk_model.specs.Tables.{Tables}
use Rattle.brk_tables_sql.proofs.Inside.{clean_before}
use Rattle.brk_tables_schema.specs.Made.{HasDeskTables}
use Rattle.brk_store_transactions.specs.Holds.{HoldsRows, ReadPost}
use Rattle.brk_store_reads.specs.ReadSequences.{IsUnchangedByReads, disk_was_clean_before_reads, single_read_changes_nothing, joined_reads_change_nothing}

module _ {S : Type 0} (g : Ghosts S) where
  -- what was read tells this too, of rows that a database has
  pub retold_of : (old end : Held S) {V X E H : Type 0} (v : V) (x : X) (P : V → Tables → Type 0) (R : X → Tables → Type 0)
      → ((t : Tables) → HasDeskTables t (state g old).now → P v t → R x t) → ReadPost {E = E} g old end (Ok v) P → ReadPost {E = H} g old end (Ok x) R
  retold_of old end v x P R tell read = record {
    answered = λ clean t holds. tell t (holds (clean_before (state g old) (state g end) (λ _. ⊥) read.survives clean) (read.was_open clean)) (read.answered clean t holds);
    was_open = read.was_open;
    same_rows = read.same_rows;
    unchanged_if_open = read.unchanged_if_open;
    survives = read.survives;
  }

  -- what was read tells this too
  pub retold : (old end : Held S) {V X E H : Type 0} (v : V) (x : X) (P : V → Tables → Type 0) (R : X → Tables → Type 0)
      → ((t : Tables) → P v t → R x t) → ReadPost {E = E} g old end (Ok v) P → ReadPost {E = H} g old end (Ok x) R
  retold old end v x P R tell = retold_of old end v x P R (λ t has. tell t)

  -- a read after another tells of the rows that stood before both
  pub read_after : (old mid end : Held S) {V W E F : Type 0} (v : V) (r : Result W F) (P : V → Tables → Type 0) (Q : W → Tables → Type 0)
      → ReadPost {E = E} g old mid (Ok v) P → ReadPost g mid end r Q → ReadPost g old end r Q
  read_after old mid end {V} {W} {E} {F} v r P Q first next = record {
    answered = λ clean. tells r (next.answered clean);
    was_open = λ clean. opens r (first.was_open (before clean)) (next.was_open clean);
    same_rows = both.same_rows;
    unchanged_if_open = both.unchanged_if_open;
    survives = both.survives;
  }
    where
      both : IsUnchangedByReads g old end
      both = joined_reads_change_nothing old mid end (single_read_changes_nothing old mid (Ok v) P first) (single_read_changes_nothing mid end r Q next)

      before : HasCleanDisk (state g end) → HasCleanDisk (state g mid)
      before = disk_was_clean_before_reads mid end (single_read_changes_nothing mid end r Q next)

      tells : (o : Result W F) → IfOk o (λ answer. (t : Tables) → HoldsRows g mid t → Q answer t) → IfOk o (λ answer. (t : Tables) → HoldsRows g old t → Q answer t)
      tells (Ok answer) h = λ t holds. h t (first.same_rows t holds)
      tells (Err e) h = tt

      opens : (o : Result W F) → IsTrue (state g old).is_open → OnOk o (IsTrue (state g mid).is_open) → OnOk o (IsTrue (state g old).is_open)
      opens (Ok answer) was h = was
      opens (Err e) was h = tt
