-- The outcome (`Outcome`) of each result of a desk's call, and the model's outcome (`run.Outcome`).
use Rattle.std.specs.Prelude.{Result, Ok, Err}
use Rattle.brk_money.specs.declared.fault.Fault.{Fault}
use Rattle.brk_money.specs.declared.refusal.Refusal.{Refusal}
use Rattle.brk_model.specs.Run as run
use Rattle.brk_view_rows.specs.Views.{records_of_view}
use Rattle.brk_view_rows.specs.declared.view.View.{View}
use Rattle.brk_desk.specs.CommandAnswers.{CommandAnswer, model_answer}
use Rattle.brk_desk.specs.declared.call.Outcome.{Outcome}
use Rattle.brk_desk.specs.declared.call.Outcome.TheVariants as desk_outcome

-- The model's outcome for that of a desk's call: an answer becomes the model's, a view its list of
-- records of texts; refusals and faults are unchanged.
abbrev pub model_outcome : Outcome → run.Outcome
model_outcome (desk_outcome.Did answer) = run.Did (model_answer answer)
model_outcome (desk_outcome.Saw view) = run.Saw (records_of_view view)
model_outcome (desk_outcome.NoView refusal) = run.NoView refusal
model_outcome (desk_outcome.Failed fault) = run.Failed fault

-- The outcome of a command's result: `Did` with its answer, or `Failed` with its fault.
abbrev pub outcome_of_command : Result CommandAnswer Fault → Outcome
outcome_of_command (Ok answer) = desk_outcome.Did answer
outcome_of_command (Err fault) = desk_outcome.Failed fault

-- The outcome of a query's result: `Saw` with its view, `NoView` with its refusal, or `Failed`.
abbrev pub outcome_of_query : Result (Result View Refusal) Fault → Outcome
outcome_of_query (Ok (Ok view)) = desk_outcome.Saw view
outcome_of_query (Ok (Err refusal)) = desk_outcome.NoView refusal
outcome_of_query (Err fault) = desk_outcome.Failed fault
