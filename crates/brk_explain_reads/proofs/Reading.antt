-- Reads of a store one after another.
use Rattle.std.proofs.Common.{Err, Ok, Result}
use Rattle.sqlite_trees.specs.declared.store.Store.{Ghosts}
use Rattle.sqlite.specs.Held.{Held}
use Rattle.brk_model.specs.Tables.{Tables}
use Rattle.brk_store_transactions.specs.Holds.{ReadPost}
use Rattle.brk_store_reads.specs.ReadSequences.{IsUnchangedByReads, joined_reads_change_nothing, single_read_changes_nothing}
use Rattle.brk_store_reads.proofs.Retelling.{read_after}

module _ {S : Type 0} (g : Ghosts S) (old mid end : Held S) where
  -- where what comes after two reads fails, they changed nothing
  pub read_failed : {V W X E F H : Type 0} (v : V) (r : Result W F) (e : H) (P : V → Tables → Type 0) (Q : W → Tables → Type 0) (R : X → Tables → Type 0)
      → ReadPost {E = E} g old mid (Ok v) P → ReadPost g mid end r Q → ReadPost {E = H} g old end (Err e) R
  read_failed v r e P Q R first second =
      let on = read_after g old mid end v r P Q first second in
      record { answered = λ clean. tt; was_open = λ clean. tt; same_rows = on.same_rows; unchanged_if_open = on.unchanged_if_open; survives = on.survives }

module _ {S : Type 0} (g : Ghosts S) where
  -- two reads change nothing
  pub both_change_nothing : (old mid end : Held S) {V W E F : Type 0} (v : Result V E) (w : Result W F) (P : V → Tables → Type 0) (Q : W → Tables → Type 0)
      → ReadPost g old mid v P → ReadPost g mid end w Q
      → IsUnchangedByReads g old end
  both_change_nothing old mid end v w P Q first second =
      joined_reads_change_nothing old mid end (single_read_changes_nothing old mid v P first) (single_read_changes_nothing mid end w Q second)
