-- The calls of the rows of a batch, and their outcomes.
use Rattle.std.specs.Prelude.{ℕ, List, [], ◌∷◌, ◌++◌}
use Rattle.brk_money.specs.declared.refusal.Refusal.TheVariants.{BadText}
use Rattle.brk_model.specs.Answers.{RowStep}
use Rattle.brk_model.specs.Commands.{Answer, Refused}
use Rattle.brk_model.specs.Records.{Key}
use Rattle.brk_model.specs.Run.{Outcome}

-- The type of a call's relation: desk before, reading, command and key, outcome, desk after.
abbrev pub RowCallRelation : Type 0 → Type 0 → Type 1
RowCallRelation D X = D → ℕ → X × Key → Outcome → D → Type 0

-- The type of a list of calls: each has a clock reading, a command of type `X`, and its key.
abbrev pub RowCalls : Type 0 → Type 0
RowCalls X = List (ℕ × (X × Key))

-- The type of a pair: a list of calls with commands of type `X`, and the list of their outcomes.
abbrev pub RowCallScript : Type 0 → Type 0
RowCallScript X = RowCalls X × List Outcome

-- The step of a model desk of answers and recorded calls: each call returns and removes the first
-- answer, or is refused with `BadText` if none is left, and is recorded at the end.
abbrev pub recording_step : {X : Type 0} → RowStep (List Answer × RowCalls X) X
recording_step ([], calls) now command key = (Refused BadText, ([], calls ++ ((now, (command, key)) ∷ [])))
recording_step (answer ∷ answers, calls) now command key = (answer, (answers, calls ++ ((now, (command, key)) ∷ [])))
