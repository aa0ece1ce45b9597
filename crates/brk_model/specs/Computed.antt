-- The result of a batch as a function of its bytes and of the clock readings, for examples.
use Rattle.std.specs.Prelude.{ℕ, Bool, false, if◌then◌else◌, List, [], ◌∷◌, ◌++◌, length, take, Option, Some, None, codes, decimal, bytes_eq}
use Rattle.csv.specs.Reading.{records, default_config}
use Rattle.brk_money.specs.Spelling.{Text}
use Rattle.brk_money.specs.declared.refusal.Refusal.TheVariants.{BadText}
use Rattle.brk_model.specs.Base.{Base}
use Rattle.brk_model.specs.Forms.{ReadResult, is_batch_name}
use Rattle.brk_model.specs.Parse.{parse_row}
use Rattle.brk_model.specs.Commands.{Answer, Refused}
use Rattle.brk_model.specs.Answers.{Fields, RowStep, ResultOfRows, result_of_rows}
use Rattle.brk_model.specs.Input.{input_text}
use Rattle.brk_model.specs.Lines.{answer_lines_from, batch_end_line}
use Rattle.brk_model.specs.Batch.{BatchResult, BatchEnding, CorrectEnd, BadHeader, NoEnd, BadEnd, step_of_row}

-- The type of a pair: a list of answers, and the base after them.
abbrev pub AnswersAndBase : Type 0 → Type 0
AnswersAndBase B = List Answer × B

-- The answers and the base of a result of rows, without the clock readings.
abbrev pub answers_and_base_of_result : {B : Type 0} → ResultOfRows B → AnswersAndBase B
answers_and_base_of_result result = (result.answers, result.base)

-- The answers to the rows of the batch `name`, numbered from 1 and executed from `base` on with the
-- clock readings `moments`, and the base after the last answer (`result_of_rows`).
abbrev pub answers_and_base_of_rows : {B C : Type 0} → (Fields → ReadResult C) → RowStep B C → Text → B → List ℕ → List Fields → AnswersAndBase B
answers_and_base_of_rows form step name base moments rows = answers_and_base_of_result (result_of_rows form step name 1 base moments rows)

-- True if the record is an end record, correct or not: its first field is the word `end`.
abbrev pub is_end_record : Fields → Bool
is_end_record [] = false
is_end_record (word ∷ fields) = bytes_eq word (codes "end")

-- The type of a split: the rows before an end record, and the end record if there is one.
abbrev pub RowsAndEndRecord : Type 0
RowsAndEndRecord = List Fields × Option Fields

-- The split with `row` in front of its rows.
abbrev pub split_with_row_in_front : Fields → RowsAndEndRecord → RowsAndEndRecord
split_with_row_in_front row split = (row ∷ split.0, split.1)

-- The rows before the first end record, and that record; without one, all rows and none.
abbrev pub split_at_end_record : List Fields → RowsAndEndRecord
split_at_end_record [] = ([], None)
split_at_end_record (row ∷ rows) = if is_end_record row then ([], Some row) else split_with_row_in_front row (split_at_end_record rows)

-- The batch name of a record of exactly two fields, `batch` and a well-formed name; otherwise none.
abbrev pub batch_name_of_header : Fields → Option Text
batch_name_of_header (word ∷ name ∷ []) = if bytes_eq word (codes "batch") then (if is_batch_name name then Some name else None) else None
batch_name_of_header _ = None

-- True if the record has exactly two fields and the second is the decimal text of the number `n`.
abbrev pub has_correct_row_count : ℕ → Fields → Bool
has_correct_row_count n (word ∷ count ∷ []) = bytes_eq count (decimal n)
has_correct_row_count n _ = false

-- The result of a batch with the answers and the base of `run` and the ending `ending`: one line
-- for each answer, numbered from 1, without an `end` line; each answer is a decided row.
abbrev pub result_without_end_line : {B : Type 0} → AnswersAndBase B → BatchEnding → BatchResult B
result_without_end_line run ending = record { text = answer_lines_from 1 run.0; base = run.1; ending = ending; rows = length run.0 }

-- The result (`CorrectEnd`) of a complete batch with the answers and the base of `run`: one line
-- for each answer, numbered from 1, and the `end` line; each answer is a decided row.
abbrev pub result_of_complete_batch : {B : Type 0} → AnswersAndBase B → BatchResult B
result_of_complete_batch run = record { text = answer_lines_from 1 run.0 ++ batch_end_line run.0; base = run.1; ending = CorrectEnd; rows = length run.0 }

-- The result (`NoEnd`) of a batch without an end record: the answers of `run`, then the refusal
-- `BadText` of the last row, which is decided but not executed, and the base of `run`.
abbrev pub result_with_refused_last_row : {B : Type 0} → AnswersAndBase B → BatchResult B
result_with_refused_last_row run = result_without_end_line (run.0 ++ Refused BadText ∷ [], run.1) NoEnd

-- The result of a batch whose rows are followed by the end record `last`: complete if this has
-- their number (`has_correct_row_count`), otherwise with the ending `BadEnd`.
abbrev pub result_with_end_record : {B C : Type 0} → (Fields → ReadResult C) → RowStep B C → Text → B → List ℕ → List Fields → Fields → BatchResult B
result_with_end_record form step name base moments rows last =
    if has_correct_row_count (length rows) last then result_of_complete_batch (answers_and_base_of_rows form step name base moments rows)
    else result_without_end_line (answers_and_base_of_rows form step name base moments rows) BadEnd

-- The result (`NoEnd`) of a batch without an end record: its last row is refused with `BadText` and
-- not executed; without rows, the output is empty and the base is unchanged.
abbrev pub result_without_end_record : {B C : Type 0} → (Fields → ReadResult C) → RowStep B C → Text → B → List ℕ → List Fields → BatchResult B
result_without_end_record form step name base moments [] = result_without_end_line (answers_and_base_of_rows form step name base moments []) NoEnd
result_without_end_record form step name base moments (row ∷ rows) =
    result_with_refused_last_row (answers_and_base_of_rows form step name base moments (take (length rows) (row ∷ rows)))

-- The result of the batch `name` with the rows and, if any, the end record of a split.
abbrev pub result_of_batch_rows : {B C : Type 0} → (Fields → ReadResult C) → RowStep B C → Text → B → List ℕ → RowsAndEndRecord → BatchResult B
result_of_batch_rows form step name base moments (rows, Some last) = result_with_end_record form step name base moments rows last
result_of_batch_rows form step name base moments (rows, None) = result_without_end_record form step name base moments rows

-- The result of a batch with the records `rows` after its header; any after the first end record
-- are ignored. Without a name: `BadHeader`, base unchanged, no output, no decided row.
abbrev pub result_of_optionally_named_batch : {B C : Type 0} → (Fields → ReadResult C) → RowStep B C → Option Text → B → List ℕ → List Fields → BatchResult B
result_of_optionally_named_batch form step None base moments rows = record { text = []; base = base; ending = BadHeader; rows = 0 }
result_of_optionally_named_batch form step (Some name) base moments rows = result_of_batch_rows form step name base moments (split_at_end_record rows)

-- The result of a batch with the given records; any after the first end record are ignored. Without
-- a header with a well-formed name: `BadHeader`, base unchanged, no output, no decided row.
abbrev pub result_of_batch_records : {B C : Type 0} → (Fields → ReadResult C) → RowStep B C → B → List ℕ → List Fields → BatchResult B
result_of_batch_records form step base moments [] = result_of_optionally_named_batch form step None base moments []
result_of_batch_records form step base moments (header ∷ rows) = result_of_optionally_named_batch form step (batch_name_of_header header) base moments rows

-- The result of a batch with the text of the bytes `input` (`input_text`: at most their first
-- `most_input_bytes`), executed from `base` on with the clock readings `moments`.
unfoldable pub result_of_batch_input : Base → List ℕ → Text → BatchResult Base
result_of_batch_input base moments input = result_of_batch_records parse_row step_of_row base moments (records default_config (input_text input))
