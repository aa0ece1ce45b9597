-- Sequences of reads, which change nothing.
use Rattle.std.proofs.Common.{IsTrue, IfOk, Result, ◌∙◌, refl, inl}
use Rattle.std.proofs.Math.Nat.{le_refl}
use Rattle.sqlite_trees.specs.declared.store.Store.{Ghosts}
use Rattle.sqlite.specs.Held.{Held, state}
use Rattle.sqlite.specs.State.{HasCleanDisk, Survives}
use Rattle.sqlite.proofs.StateLemmas.{survives_then}
use Rattle.brk_model.specs.Tables.{Tables}
use Rattle.brk_tables_sql.proofs.Inside.{clean_before}
use Rattle.brk_store_transactions.specs.Holds.{HoldsRows, ReadPost, WasOpenAndIsUnchanged}

-- The postcondition of any number of reads: the store holds the rows that it held; a database that
-- is open was open before and is unchanged; a crash exposes only prior crash states. The last two
-- are vacuous if the disk assumption fails by the end of the last call.
pub record IsUnchangedByReads {S : Type 0} (g : Ghosts S) (old new : Held S) : Type 0 where
  pub same_rows : (t : Tables) → HoldsRows g old t → HoldsRows g new t
  pub unchanged_if_open : HasCleanDisk (state g new) → IsTrue (state g new).is_open → WasOpenAndIsUnchanged (state g old) (state g new)
  pub survives : Survives (state g old) (state g new) (λ _. ⊥)

-- The postcondition of a call that makes any number of reads, or none, and writes nothing.
-- `Matches` relates the returned value to the rows that the store holds.
pub record ReadSequencePost {S V E : Type 0} (g : Ghosts S) (old new : Held S) (result : Result V E) (Matches : V → Tables → Type 0) : Type 0 where
  -- A value satisfies `Matches` with the rows held before the call. Vacuous if the disk assumption
  -- fails by its return, or if the store was open and satisfied `HasDeskTables` for no `t`. If it
  -- was closed, the value satisfies `Matches` with every `t`.
  pub answered : HasCleanDisk (state g new) → IfOk result (λ answer. (t : Tables) → HoldsRows g old t → Matches answer t)
  -- The call changes nothing (`IsUnchangedByReads`), whatever the result.
  pub unchanged : IsUnchangedByReads g old new

module _ {S : Type 0} {g : Ghosts S} where
  -- If the disk assumption holds after such reads, it held before them.
  pub disk_was_clean_before_reads : (old new : Held S) → IsUnchangedByReads g old new → HasCleanDisk (state g new) → HasCleanDisk (state g old)
  disk_was_clean_before_reads old new k = clean_before (state g old) (state g new) (λ _. ⊥) k.survives

  -- Two such sequences of reads, from `p` to `q` and from `q` to `r`, are one from `p` to `r`.
  pub joined_reads_change_nothing : (p q r : Held S) → IsUnchangedByReads g p q → IsUnchangedByReads g q r → IsUnchangedByReads g p r
  joined_reads_change_nothing p q r a b = record {
    same_rows = λ t h. b.same_rows t (a.same_rows t h);
    unchanged_if_open = λ clean o.
        let late = b.unchanged_if_open clean o in
        let early = a.unchanged_if_open (disk_was_clean_before_reads q r b clean) late.was_open in
        record { was_open = early.was_open; now = late.now ∙ early.now; committed = late.committed ∙ early.committed };
    survives = survives_then (state g p) (state g q) (state g r) (λ _. ⊥) (λ _. ⊥) (λ _. ⊥) (λ _ db none. none) (λ _ db none. none) a.survives b.survives;
  }

  -- A read that satisfies `ReadPost` satisfies `IsUnchangedByReads`.
  pub single_read_changes_nothing : {V E : Type 0} (old new : Held S) (result : _) (Matches : _) → ReadPost {V = V} {E = E} g old new result Matches
      → IsUnchangedByReads g old new
  single_read_changes_nothing old new result Matches r = record { same_rows = r.same_rows; unchanged_if_open = r.unchanged_if_open; survives = r.survives }

-- The empty sequence of reads satisfies `IsUnchangedByReads`.
pub empty_read_sequence_changes_nothing : {S : Type 0} {g : Ghosts S} (old : Held S) → IsUnchangedByReads g old old
empty_read_sequence_changes_nothing {S} {g} old = record {
  same_rows = λ t h. h;
  unchanged_if_open = λ clean o. record { was_open = o; now = refl; committed = refl };
  survives = record { clean = le_refl _; shield = λ s. s; counts = le_refl _; limit = refl; closes = λ clean o. inl o; crash = λ clean db h. inl h };
}
