-- The answers to the rows of a batch, and the base after them. The definitions are generic in the
-- type `B` of bases, the type `C` of commands, the format checks and the step.
use Rattle.std.specs.Prelude.{◌≡◌, ℕ, ◌+◌, List, [], ◌∷◌, Ok, Err}
use Rattle.brk_money.specs.Spelling.{Text}
use Rattle.brk_model.specs.Records.{Key}
use Rattle.brk_model.specs.Forms.{ReadResult}
use Rattle.brk_model.specs.Commands.{Answer, Refused}

-- The type of the fields of a row, a list of texts.
abbrev pub Fields : Type 0
Fields = List Text

-- A step: from a base, a clock reading, a command and its key to the answer and the base after it.
abbrev pub RowStep : Type 0 → Type 0 → Type 0
RowStep B C = B → ℕ → C → Key → Answer × B

-- The result of rows: the answers in sequence, the base after them, and the unused clock readings.
pub record ResultOfRows (B : Type 0) : Type 0 where
  pub answers : List Answer
  pub base : B
  pub moments : List ℕ

-- The result `rest` with `answer` in front of its answers.
abbrev pub result_with_answer_in_front : {B : Type 0} → Answer → ResultOfRows B → ResultOfRows B
result_with_answer_in_front answer rest = record { answers = answer ∷ rest.answers; base = rest.base; moments = rest.moments }

-- The result of `more` on the base `answered.1` and `moments`, with the answer `answered.0` first.
abbrev pub result_of_answer_and_later_rows : {B : Type 0} → Answer × B → List ℕ → (B → List ℕ → ResultOfRows B) → ResultOfRows B
result_of_answer_and_later_rows answered moments more = result_with_answer_in_front answered.0 (more answered.1 moments)

-- The result of a row and of the rows after it (`more`). A malformed row is answered with its
-- refusal, uses no clock reading and does not change the base. A command uses the next clock
-- reading, at which `step` answers it; without one, it and all later rows have no answer.
abbrev pub result_of_row_and_later_rows : {B C : Type 0} → RowStep B C → ReadResult C → Key → B → List ℕ → (B → List ℕ → ResultOfRows B) → ResultOfRows B
result_of_row_and_later_rows step (Err refusal) key base moments more = result_of_answer_and_later_rows (Refused refusal, base) moments more
result_of_row_and_later_rows step (Ok command) key base (now ∷ moments) more = result_of_answer_and_later_rows (step base now command key) moments more
result_of_row_and_later_rows step (Ok command) key base [] more = record { answers = []; base = base; moments = [] }

-- The result of the rows of a batch, parsed by `form` and executed by `step` in sequence, from
-- `base` on with the clock readings `moments` (`result_of_row_and_later_rows`). The first row has
-- the number `n`; the key of a row is the batch name `batch` and the row's number.
abbrev pub result_of_rows : {B C : Type 0} → (Fields → ReadResult C) → RowStep B C → Text → ℕ → B → List ℕ → List Fields → ResultOfRows B
result_of_rows form step batch n base moments [] = record { answers = []; base = base; moments = moments }
result_of_rows form step batch n base moments (row ∷ rows) =
    result_of_row_and_later_rows step (form row) (record { batch = batch; n = n }) base moments
    (λ after left. result_of_rows form step batch (n + 1) after left rows)

-- The rows of the batch `batch`, numbered from 1, parsed by `form` and executed by `step` from
-- `base` on, have exactly the answers `answers`, in sequence, use all clock readings `moments`, and
-- result in the base `after`. A malformed row is answered with its refusal and uses no clock
-- reading; a command for which none is left, and each row after it, has no answer.
abbrev pub RowsAreAnswered : {B C : Type 0} → (Fields → ReadResult C) → RowStep B C → Text → B → List ℕ → List Fields → List Answer → B → Type 0
RowsAreAnswered form step batch base moments rows answers after =
    result_of_rows form step batch 1 base moments rows ≡ record { answers = answers; base = after; moments = [] }
