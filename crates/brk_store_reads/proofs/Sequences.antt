-- Reads one after another: two reads, any number of them, and none.
use Rattle.std.proofs.Common.{◌∙◌, Result, Ok, Err, IsTrue}
use Rattle.sqlite_trees.specs.declared.store.Store.{Ghosts}
use Rattle.sqlite.specs.Held.{Held, state}
use Rattle.sqlite.specs.State.{State, HasCleanDisk, Survives}
use Rattle.sqlite.proofs.StateLemmas.{survives_then}
use Rattle.brk_model.specs.Tables.{Tables}
use Rattle.brk_store_transactions.specs.Holds.{ReadPost, WasOpenAndIsUnchanged}
use Rattle.brk_store_reads.specs.ReadSequences.{IsUnchangedByReads, ReadSequencePost, disk_was_clean_before_reads, joined_reads_change_nothing}
use Rattle.brk_store_reads.specs.ReadSequences.{empty_read_sequence_changes_nothing, single_read_changes_nothing}

-- Two calls that change nothing, one after the other, change nothing.
pub same_then : (a b c : State) → WasOpenAndIsUnchanged a b → WasOpenAndIsUnchanged b c → WasOpenAndIsUnchanged a c
same_then a b c f s = record { was_open = f.was_open; now = s.now ∙ f.now; committed = s.committed ∙ f.committed }

-- A call that exposes nothing new at a crash, before another.
pub none_then : (a b c : State) (P : _) → Survives a b (λ _. ⊥) → Survives b c P → Survives a c P
none_then a b c P f s = survives_then a b c (λ _. ⊥) P P (λ _ db none. absurd none) (λ _ db p. p) f s

module _ {S : Type 0} (g : Ghosts S) where
  -- no read
  pub no_reads : (old : Held S) {X H : Type 0} (x : X) (R : X → Tables → Type 0) → ((t : Tables) → R x t) → ReadSequencePost {E = H} g old old (Ok x) R
  no_reads old x R tell = record { answered = λ clean t holds. tell t; unchanged = empty_read_sequence_changes_nothing old }

  -- one read
  pub one_read : (old end : Held S) {V E : Type 0} (result : Result V E) (P : V → Tables → Type 0) → ReadPost g old end result P → ReadSequencePost g old end result P
  one_read old end result P read = record { answered = read.answered; unchanged = single_read_changes_nothing old end result P read }

  -- reads tell this too
  pub reads_retold : (old end : Held S) {V X E H : Type 0} (v : V) (x : X) (P : V → Tables → Type 0) (R : X → Tables → Type 0)
      → ((t : Tables) → P v t → R x t) → ReadSequencePost {E = E} g old end (Ok v) P → ReadSequencePost {E = H} g old end (Ok x) R
  reads_retold old end v x P R tell reads = record { answered = λ clean t holds. tell t (reads.answered clean t holds); unchanged = reads.unchanged }

  -- reads that failed
  pub reads_failed : (old end : Held S) {X H : Type 0} (e : H) (R : X → Tables → Type 0) → IsUnchangedByReads g old end → ReadSequencePost {V = X} g old end (Err e) R
  reads_failed old end e R unchanged = record { answered = λ clean. tt; unchanged = unchanged }

  -- a read of a store that was open
  pub reads_are_read : (old end : Held S) {V E : Type 0} (v : V) (P : V → Tables → Type 0) → (HasCleanDisk (state g end) → IsTrue (state g old).is_open)
      → ReadSequencePost {E = E} g old end (Ok v) P → ReadPost {E = E} g old end (Ok v) P
  reads_are_read old end v P opened reads = record {
    answered = reads.answered;
    was_open = opened;
    same_rows = reads.unchanged.same_rows;
    unchanged_if_open = reads.unchanged.unchanged_if_open;
    survives = reads.unchanged.survives;
  }

  -- a read that failed
  pub none_read : (old end : Held S) {X H : Type 0} (e : H) (R : X → Tables → Type 0) → IsUnchangedByReads g old end → ReadPost {V = X} g old end (Err e) R
  none_read old end e R unchanged = record {
    answered = λ clean. tt;
    was_open = λ clean. tt;
    same_rows = unchanged.same_rows;
    unchanged_if_open = unchanged.unchanged_if_open;
    survives = unchanged.survives;
  }

  module _ (old mid end : Held S) where
    -- reads after reads
    pub reads_both : {V W X E F H : Type 0} (v : V) (w : W) (x : X) (P : V → Tables → Type 0) (Q : W → Tables → Type 0) (R : X → Tables → Type 0)
        → ((t : Tables) → P v t → Q w t → R x t) → ReadSequencePost {E = E} g old mid (Ok v) P → ReadSequencePost {E = F} g mid end (Ok w) Q → ReadSequencePost {E = H} g old end (Ok x) R
    reads_both v w x P Q R tell first next = record {
      answered = λ clean t holds. tell t (first.answered (disk_was_clean_before_reads mid end next.unchanged clean) t holds) (next.answered clean t (first.unchanged.same_rows t holds));
      unchanged = joined_reads_change_nothing old mid end first.unchanged next.unchanged;
    }

    -- a read, and reads after it
    pub read_with_reads : {V W X E F H : Type 0} (v : V) (w : W) (x : X) (P : V → Tables → Type 0) (Q : W → Tables → Type 0) (R : X → Tables → Type 0)
        → ((t : Tables) → P v t → Q w t → R x t) → ReadPost {E = E} g old mid (Ok v) P → ReadSequencePost {E = F} g mid end (Ok w) Q → ReadPost {E = H} g old end (Ok x) R
    read_with_reads v w x P Q R tell first next =
        reads_are_read old end x R (λ clean. first.was_open (disk_was_clean_before_reads mid end next.unchanged clean))
        (reads_both v w x P Q R tell (one_read old mid (Ok v) P first) next)

    -- a read, and one after it
    pub read_with : {V W X E F H : Type 0} (v : V) (w : W) (x : X) (P : V → Tables → Type 0) (Q : W → Tables → Type 0) (R : X → Tables → Type 0)
        → ((t : Tables) → P v t → Q w t → R x t) → ReadPost {E = E} g old mid (Ok v) P → ReadPost {E = F} g mid end (Ok w) Q → ReadPost {E = H} g old end (Ok x) R
    read_with v w x P Q R tell first next = read_with_reads v w x P Q R tell first (one_read mid end (Ok w) Q next)

    -- what comes after the reads failed
    pub reads_then_failed : {V W X E F H : Type 0} (v : V) (result : Result W F) (e : H) (P : V → Tables → Type 0) (Q : W → Tables → Type 0) (R : X → Tables → Type 0)
        → ReadSequencePost {E = E} g old mid (Ok v) P → ReadSequencePost g mid end result Q → ReadSequencePost {E = H} g old end (Err e) R
    reads_then_failed v result e P Q R first next = reads_failed old end e R (joined_reads_change_nothing old mid end first.unchanged next.unchanged)

    pub read_then_failed : {V W X E F H : Type 0} (v : V) (result : Result W F) (e : H) (P : V → Tables → Type 0) (Q : W → Tables → Type 0) (R : X → Tables → Type 0)
        → ReadPost {E = E} g old mid (Ok v) P → ReadSequencePost g mid end result Q → ReadPost {E = H} g old end (Err e) R
    read_then_failed v result e P Q R first next = none_read old end e R (joined_reads_change_nothing old mid end (single_read_changes_nothing old mid (Ok v) P first) next.unchanged)

    -- one more read changes nothing either
    pub unchanged_after : {V E : Type 0} (result : Result V E) (P : V → Tables → Type 0) → IsUnchangedByReads g old mid → ReadPost g mid end result P → IsUnchangedByReads g old end
    unchanged_after result P before next = joined_reads_change_nothing old mid end before (single_read_changes_nothing mid end result P next)

    -- where a read after others fails, they changed nothing
    pub failed_after : {V X E H : Type 0} (result : Result V E) (e : H) (P : V → Tables → Type 0) (R : X → Tables → Type 0) → IsUnchangedByReads g old mid
        → ReadPost g mid end result P → ReadPost {E = H} g old end (Err e) R
    failed_after result e P R before next = none_read old end e R (unchanged_after result P before next)
