-- The calls of a desk for the rows of a batch.
use Rattle.std.specs.Prelude.{◌≡◌, ℕ, List, Option, Result, Some, map}
use Rattle.sqlite_trees.specs.declared.store.Store.{Ghosts}
use Rattle.sqlite.specs.Held.{Held}
use Rattle.brk_import_engine.specs.Batch.{BatchMatchesScript}
use Rattle.brk_import_engine.specs.Script.{RowCalls}
use Rattle.brk_import_engine.specs.declared.counts.Counts.{Counts}
use Rattle.brk_desk.specs.Answers.{model_outcome}
use Rattle.brk_desk.specs.Commands.{model_call}
use Rattle.brk_desk.specs.CallPosts.{OutcomePost}
use Rattle.brk_desk.specs.declared.call.Call as made
use Rattle.brk_desk.specs.declared.call.Outcome as came
use Rattle.brk_io.specs.Span.{ClockAndWriterChange}
use Rattle.brk_io.specs.declared.batch_fault.BatchFault.{BatchFault}
use Rattle.brk_model.specs.Commands.{Command}
use Rattle.brk_model.specs.Parse.{parse_by_first_field, row_parsers}
use Rattle.brk_model.specs.Records.{Key}
use Rattle.brk_model.specs.Run.{Call, Do, Outcome}
use Rattle.brk_money.specs.Spelling.{Text}

-- The call of the desk for a row of a batch at its clock reading: the row's command under its key.
abbrev pub desk_call_of_row : ℕ × (Command × Key) → ℕ × Call
desk_call_of_row call = (call.0, Do call.1.0 (Some call.1.1))

-- A call at the clock reading `now`, with the command of `row` under its key, turned the desk from
-- `old` to `new` with the outcome `outcome`, as `OutcomePost` specifies.
pub record RowCallHasOutcome {S : Type 0} (g : Ghosts S) (old : Held S) (now : ℕ) (row : Command × Key) (outcome : Outcome) (new : Held S) : Type 0 where
  -- The call of the desk and its outcome; in the model they are the call of the row and `outcome`.
  pub made : made.Call
  pub came : came.Outcome
  pub call_is : model_call (now, made) ≡ desk_call_of_row (now, row)
  pub outcome_is : model_outcome came ≡ outcome
  pub is_made : OutcomePost g old new now made came

-- `calls` are exactly the calls of the batch for its rows, in order, each with its command under
-- its key; its lines and its result follow from their outcomes (`BatchMatchesScript`).
abbrev pub BatchMatchesRowCalls : {C : Type 0} → (C → ℕ → C → Type 0) → Option Text → List (ℕ × Call) → List Outcome → ClockAndWriterChange C
    → Result Counts BatchFault → Type 0
BatchMatchesRowCalls gives text calls outcomes outside result =
    (rows : RowCalls Command) × (calls ≡ map desk_call_of_row rows)
    × BatchMatchesScript (parse_by_first_field row_parsers) gives text (rows, outcomes) outside result
