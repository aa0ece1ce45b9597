-- Consecutive reads and walks change nothing.
use Rattle.std.proofs.Common.{Result, arith, inl, refl, ◌∙◌}
use Rattle.sqlite_trees.specs.declared.store.Store.{Ghosts}
use Rattle.sqlite.specs.Held.{Held, state}
use Rattle.sqlite.specs.State.{HasCleanDisk, State, Survives}
use Rattle.sqlite.proofs.StateLemmas.{survives_then}
use Rattle.brk_model.specs.Tables.{Tables}
use Rattle.brk_store_transactions.specs.Holds.{ReadPost}
use Rattle.brk_store.specs.Walked.{WalkPost}
use Rattle.brk_tables_views.specs.declared.walking.WalkError.{WalkError}
use Rattle.brk_report.specs.StatementOutput.{PreservesDesk}

clean_before : (a b : State) → Survives a b (λ _. ⊥) → HasCleanDisk b → HasCleanDisk a
clean_before a b s clean = omega (arith, s.clean)

module _ {S : Type 0} (g : Ghosts S) where
  pub keeps_still : (store : Held S) → PreservesDesk g store store
  keeps_still store = record {
    same_rows = λ t holds. holds;
    unchanged_if_open = λ clean o. record { was_open = o; now = refl; committed = refl };
    survives = record { clean = omega arith; shield = λ x. x; counts = omega arith; limit = refl; closes = λ _ o. inl o; crash = λ _ db may. inl may };
  }

  pub keeps_read : {V E : Type 0} (old new : Held S) (result : Result V E) (P : V → Tables → Type 0) → ReadPost g old new result P → PreservesDesk g old new
  keeps_read old new result P read = record { same_rows = read.same_rows; unchanged_if_open = read.unchanged_if_open; survives = read.survives }

  pub keeps_walked : {X M V E : Type 0} (old new : Held S) (of : X → M) (list : Tables → _) (takes : V → X → V → Type 0) (stops : V → X → E → V → Type 0)
      (before after : V) (result : Result (Unit {0}) (WalkError E))
      → WalkPost g old new of list takes stops before after result → PreservesDesk g old new
  keeps_walked old new of list takes stops before after result walked = record { same_rows = walked.same_rows; unchanged_if_open = walked.unchanged_if_open; survives = walked.survives }

  pub keeps_then : (old mid new : Held S) → PreservesDesk g old mid → PreservesDesk g mid new → PreservesDesk g old new
  keeps_then old mid new a b = record {
    same_rows = λ t holds. b.same_rows t (a.same_rows t holds);
    unchanged_if_open = λ clean o.
        let s = b.unchanged_if_open clean o in
        let r = a.unchanged_if_open (clean_before (state g mid) (state g new) b.survives clean) s.was_open in
        record { was_open = r.was_open; now = s.now ∙ r.now; committed = s.committed ∙ r.committed };
    survives = survives_then (state g old) (state g mid) (state g new) (λ _. ⊥) (λ _. ⊥) (λ _. ⊥) (λ _ db none. none) (λ _ db none. none) a.survives b.survives;
  }

  -- a disk that has returned what was written had done so before
  pub clean_then : (mid new : Held S) → PreservesDesk g mid new → HasCleanDisk (state g new) → HasCleanDisk (state g mid)
  clean_then mid new b clean = clean_before (state g mid) (state g new) b.survives clean
