-- The effect of one call of a desk.
use Rattle.std.specs.Prelude.{◌≡◌, ℕ}
use Rattle.sqlite_trees.specs.declared.store.Store.{Ghosts}
use Rattle.sqlite.specs.Held.{Held}
use Rattle.brk_desk.specs.Answers.{model_outcome}
use Rattle.brk_desk.specs.Commands.{model_call}
use Rattle.brk_desk.specs.CallPosts.{OutcomePost}
use Rattle.brk_desk.specs.declared.call.Call as made
use Rattle.brk_desk.specs.declared.call.Outcome as came
use Rattle.brk_model.specs.Run.{Call, Outcome}

-- The model's call `call` at `now` represents a call of the desk that turned it from `old` to `new`
-- with the outcome `outcome`, as `OutcomePost` specifies.
pub record DeskCallHasOutcome {S : Type 0} (g : Ghosts S) (old : Held S) (now : ℕ) (call : Call) (outcome : Outcome) (new : Held S) : Type 0 where
  -- The call of the desk and its outcome; in the model they are `call` and `outcome`.
  pub made : made.Call
  pub came : came.Outcome
  pub call_is : model_call (now, made) ≡ (now, call)
  pub outcome_is : model_outcome came ≡ outcome
  pub is_made : OutcomePost g old new now made came
