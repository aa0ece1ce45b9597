-- A batch that was interrupted and is retried.
use Rattle.std.specs.Prelude.{◌≡◌, ◌⊎◌, ◌++◌, [], ◌∷◌, ℕ, List, Option}
use Rattle.std.specs.Io.KnownBytes.{Appends}
use Rattle.brk_money.specs.Spelling.{Text}
use Rattle.brk_model.specs.Answers.{Fields}
use Rattle.brk_model_theorems.specs.RowCalls.{RowsAreAnsweredByCalls, CallsHaveAnswers, calls_of_rows, well_formed_rows_from}
use Rattle.brk_model.specs.Base.{Base}
use Rattle.brk_model.specs.Batch.{BatchRowsAreDecided, step_of_row}
use Rattle.brk_model.specs.Commands.{Answer, Command}
use Rattle.brk_model.specs.Forms.{ReadResult}
use Rattle.brk_model.specs.Lines.{refused_answer_count, batch_end_line, answer_lines_from}
use Rattle.brk_model_theorems.specs.Laws.{AnswersMatchStoredReplies, AcceptedCallsAreStored, IsCompletedByRetry, answers_for_new_keys}
use Rattle.brk_model_theorems.specs.Laws.{calls_with_new_keys, accepted_answers, accepted_calls}
use Rattle.brk_io.specs.Moments.{ClockReturnsMomentsInSequence}
use Rattle.brk_io.specs.Span.{ClockAndWriterChange}
use Rattle.brk_import_engine.specs.Batch.{BeginsWithWholeBatch}

-- A batch whose first run began at `base` was retried in full, and the retry completed at `after`;
-- `one` and `two` are the changes of clock and writer in the runs. If the first run refused no row
-- that it answered, the two equal one uninterrupted run of the batch.
pub record RetryCompletesBatch {C : Type 0} (form : Fields → ReadResult Command) (gives : C → ℕ → C → Type 0) (text : Option Text) (base after : Base)
    (one two : ClockAndWriterChange C) : Type 0 where
  -- The name and all rows of the batch with which `text` begins, or any if `text` is `None`.
  pub name : Text
  pub rows : List Fields
  pub whole : BeginsWithWholeBatch text name rows
  -- The first run's answers and their timestamps; no clause relates them to the lines it wrote.
  pub answers : List Answer
  pub moments : List ℕ
  pub mid : C
  pub taken : ClockReturnsMomentsInSequence gives one.clock moments mid
  -- The answers of the retry to all rows, its timestamps, and its lines.
  pub retry_answers : List Answer
  pub others : List ℕ
  pub asked : ClockReturnsMomentsInSequence gives two.clock others two.later
  pub written : Appends two.old two.new (answer_lines_from 1 retry_answers ++ batch_end_line retry_answers)
  -- If the first run refused none of the rows that it answered, both runs equal one uninterrupted
  -- run. A row that was committed but not answered is decided at its own timestamp.
  pub completed : refused_answer_count answers ≡ 0 → IsCompletedByRetry form name base moments others rows answers retry_answers after
      ⊎ ((moment : ℕ) × (answer : Answer) × gives mid moment one.later
      × IsCompletedByRetry form name base (moments ++ moment ∷ []) others rows (answers ++ answer ∷ []) retry_answers after)

-- A batch whose first run began at `base` was retried in full, and the retry completed at `after`.
-- Whichever rows were refused, the runs (`one`, `two`) equal one run of calls between these bases.
pub record RunAndRetryEqualOneRun {C : Type 0} (form : Fields → ReadResult Command) (gives : C → ℕ → C → Type 0) (text : Option Text) (base after : Base)
    (one two : ClockAndWriterChange C) : Type 0 where
  -- The name and all rows of the batch with which `text` begins, or any if `text` is `None`.
  pub name : Text
  pub rows : List Fields
  pub whole : BeginsWithWholeBatch text name rows
  -- The rows that the first run answered, and the next one if it was committed; `mid_base` is the
  -- base after them. No clause relates them to the lines that the first run wrote.
  pub front : List Fields
  pub back : List Fields
  pub split : rows ≡ front ++ back
  pub moments : List ℕ
  pub mid : C
  pub taken : ClockReturnsMomentsInSequence gives one.clock moments mid
  pub answers : List Answer
  pub mid_base : Base
  pub first : BatchRowsAreDecided form step_of_row name base moments front answers mid_base
  -- The calls of the first rows, with their answers.
  pub first_calls : RowsAreAnsweredByCalls form step_of_row name base moments front answers mid_base
  -- The answers of the retry to all rows, its timestamps, and its lines.
  pub retry_answers : List Answer
  pub others : List ℕ
  pub asked : ClockReturnsMomentsInSequence gives two.clock others two.later
  pub second : BatchRowsAreDecided form step_of_row name mid_base others rows retry_answers after
  -- The calls of the retry, with their answers.
  pub retry_calls : RowsAreAnsweredByCalls form step_of_row name mid_base others rows retry_answers after
  pub written : Appends two.old two.new (answer_lines_from 1 retry_answers ++ batch_end_line retry_answers)
  -- The one run: the rows that the first run accepted, at its timestamps, then the rows of the
  -- retry whose keys `mid_base` does not contain, at the timestamps of the retry.
  pub run : CallsHaveAnswers step_of_row base
      (accepted_calls (calls_of_rows name moments (well_formed_rows_from form 1 front)) first_calls.replies
      ++ calls_with_new_keys mid_base (calls_of_rows name others (well_formed_rows_from form 1 rows)))
      (accepted_answers first_calls.replies
      ++ answers_for_new_keys mid_base (calls_of_rows name others (well_formed_rows_from form 1 rows)) retry_calls.replies) after
  -- The base `mid_base` contains each row that the first run accepted, under its key.
  pub stored : AcceptedCallsAreStored mid_base (calls_of_rows name moments (well_formed_rows_from form 1 front)) first_calls.replies
  -- The retry answers a row with a key of `mid_base` by the stored line, or refuses another row.
  pub repeated : AnswersMatchStoredReplies mid_base (calls_of_rows name others (well_formed_rows_from form 1 rows)) retry_calls.replies
