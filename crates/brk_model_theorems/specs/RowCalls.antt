-- The well-formed rows of a batch as calls, with their keys and clock readings, and the answers to
-- all rows, with refusals of malformed rows in between; for theorems on runs and retries.
use Rattle.std.specs.Prelude.{◌≡◌, ℕ, ◌+◌, List, [], ◌∷◌, length, Ok, Err}
use Rattle.brk_money.specs.Spelling.{Text}
use Rattle.brk_model.specs.Records.{Key}
use Rattle.brk_model.specs.Forms.{ReadResult}
use Rattle.brk_model.specs.Commands.{Answer, Refused}
use Rattle.brk_model.specs.Answers.{Fields, RowStep}

-- The call of a well-formed row: its key, the clock reading and its command.
pub record RowCall (C : Type 0) : Type 0 where
  pub key : Key
  pub now : ℕ
  pub command : C

-- The answer of `step` to the call on `base`, and the base after it.
abbrev pub result_of_row_call : {B C : Type 0} → RowStep B C → B → RowCall C → Answer × B
result_of_row_call step base call = step base call.now call.command call.key

-- The calls, executed in sequence by `step` from `base` on, have exactly the given answers, and
-- `after` is the base after the last call. False if the two lists have different lengths.
abbrev pub CallsHaveAnswers : {B C : Type 0} → RowStep B C → B → List (RowCall C) → List Answer → B → Type 0
CallsHaveAnswers step base [] [] after = after ≡ base
CallsHaveAnswers step base (call ∷ calls) (answer ∷ answers) after =
    (answer ≡ (result_of_row_call step base call).0) × CallsHaveAnswers step (result_of_row_call step base call).1 calls answers after
CallsHaveAnswers step base [] (answer ∷ answers) after = ⊥
CallsHaveAnswers step base (call ∷ calls) [] after = ⊥

-- `rest`, with `n` and the command of the row in front if the row is well-formed (`Ok`).
abbrev pub rows_with_well_formed_row : {C : Type 0} → ReadResult C → ℕ → List (ℕ × C) → List (ℕ × C)
rows_with_well_formed_row (Ok command) n rest = (n, command) ∷ rest
rows_with_well_formed_row (Err refusal) n rest = rest

-- The commands of the well-formed rows, each with its row number; the first row has the number `n`.
abbrev pub well_formed_rows_from : {C : Type 0} → (Fields → ReadResult C) → ℕ → List Fields → List (ℕ × C)
well_formed_rows_from form n [] = []
well_formed_rows_from form n (row ∷ rows) = rows_with_well_formed_row (form row) n (well_formed_rows_from form (n + 1) rows)

-- The calls of the well-formed rows of the batch `batch`, which are given as row numbers with
-- commands; each call has the next clock reading. Surplus clock readings or rows are dropped.
abbrev pub calls_of_rows : {C : Type 0} → Text → List ℕ → List (ℕ × C) → List (RowCall C)
calls_of_rows batch (moment ∷ moments) (row ∷ rows) =
    record { key = record { batch = batch; n = row.0 }; now = moment; command = row.1 } ∷ calls_of_rows batch moments rows
calls_of_rows batch [] rows = []
calls_of_rows batch (moment ∷ moments) [] = []

-- The answers to a row and to the rows after it: its refusal if it is malformed, otherwise the
-- first of `answers`, if any; then the answers that `more` returns for the remaining `answers`.
abbrev pub answers_to_row_and_rest : {C : Type 0} → ReadResult C → (List Answer → List Answer) → List Answer → List Answer
answers_to_row_and_rest (Err refusal) more answers = Refused refusal ∷ more answers
answers_to_row_and_rest (Ok command) more (answer ∷ answers) = answer ∷ more answers
answers_to_row_and_rest (Ok command) more [] = more []

-- The answers to the rows, in sequence: the refusal of each malformed row, and for each other row
-- the next of `answers`, if there is one. Surplus answers are dropped.
abbrev pub answers_interleaved_with_refusals : {C : Type 0} → (Fields → ReadResult C) → List Fields → List Answer → List Answer
answers_interleaved_with_refusals form [] answers = []
answers_interleaved_with_refusals form (row ∷ rows) answers = answers_to_row_and_rest (form row) (answers_interleaved_with_refusals form rows) answers

-- The rows of the batch `batch` have exactly the answers `answers` and lead from `base` to `after`.
-- Malformed rows are refused; the others are executed in sequence by `step`, each under its key and
-- with the next of the clock readings `moments`, of which there is one for each of these rows.
pub record RowsAreAnsweredByCalls {B C : Type 0} (form : Fields → ReadResult C) (step : RowStep B C) (batch : Text) (base : B) (moments : List ℕ)
    (rows : List Fields) (answers : List Answer) (after : B) : Type 0 where
  pub replies : List Answer
  pub one_each : length moments ≡ length (well_formed_rows_from form 1 rows)
  pub run : CallsHaveAnswers step base (calls_of_rows batch moments (well_formed_rows_from form 1 rows)) replies after
  pub all : answers ≡ answers_interleaved_with_refusals form rows replies
