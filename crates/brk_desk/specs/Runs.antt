-- Runs of a desk: sequences of its calls.
use Rattle.std.specs.Prelude.{ℕ, List}
use Rattle.sqlite_trees.specs.declared.store.Store.{Ghosts}
use Rattle.sqlite.specs.Held.{Held}
use Rattle.brk_io.specs.Calls.{IsCallSequence}
use Rattle.brk_desk.specs.CallPosts.{OutcomePost, RunPost, RunGuarantee}
use Rattle.brk_desk.specs.declared.call.Call.{Call}
use Rattle.brk_desk.specs.declared.call.Outcome.{Outcome}

-- Exactly these calls of the desk were executed between `old` and `new`, in order, with these
-- outcomes (`executed`); the other two fields follow from it (`call_sequences_are_runs`).
pub record IsRunWithOutcomes {S : Type 0} (g : Ghosts S) (old new : Held S) (calls : List (ℕ × Call)) (outcomes : List Outcome) : Type 0 where
  -- Each call satisfies `OutcomePost`, the first from the state `old`, each later one from the
  -- state after the call before, up to `new`. Without calls `new` equals `old`.
  pub executed : IsCallSequence (λ old now call outcome new. OutcomePost g old new now call outcome) old calls outcomes new
  -- The postcondition of a run: answers, tables and crashes (`RunPost`).
  pub post : RunPost g old new calls outcomes
  -- The guarantee of a run: sums, taxes and the audit (`RunGuarantee`).
  pub guarantee : RunGuarantee g old new calls outcomes

-- Some calls of the desk, executed in order, changed it from `old` to `new`, and nothing else did.
pub record IsSomeDeskRun {S : Type 0} (g : Ghosts S) (old new : Held S) : Type 0 where
  pub calls : List (ℕ × Call)
  pub outcomes : List Outcome
  pub run : IsRunWithOutcomes g old new calls outcomes
