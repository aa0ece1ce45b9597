-- The output of a batch, and the base after it, as a relation that the theorems on retries and keys
-- use; Computed has the function, which is easier to read first. Here a text may be unknown (None),
-- as of a reader without specified content; any records may then be its records.
use Rattle.std.specs.Prelude.{◌≡◌, ◌⊎◌, ℕ, List, [], ◌∷◌, ◌++◌, length, Option, Some}
use Rattle.std.specs.List.{AllByRecursion}
use Rattle.brk_money.specs.Spelling.{Text}
use Rattle.brk_money.specs.declared.refusal.Refusal.TheVariants.{BadText}
use Rattle.brk_model.specs.Records.{Key}
use Rattle.brk_model.specs.Base.{Base}
use Rattle.brk_model.specs.Forms.{ReadResult}
use Rattle.brk_model.specs.Commands.{Command, Answer, Refused}
use Rattle.brk_model.specs.Keyed.{keyed_step}
use Rattle.brk_model.specs.Answers.{Fields, RowStep, RowsAreAnswered}
use Rattle.brk_model.specs.Input.{input_text, BeginsWithRecords, HasExactlyRecords, IsBatchName, IsEndRecord, batch_header, correct_end_record}
use Rattle.brk_model.specs.Lines.{answer_lines_from, batch_end_line}

-- The ways in which a batch ends: with a correct end record, without a header with a well-formed
-- batch name (`BadHeader`), without an end record (`NoEnd`), or with a wrong one (`BadEnd`).
pub data BatchEnding : Type 0 where
  CorrectEnd : BatchEnding
  BadHeader : BatchEnding
  NoEnd : BatchEnding
  BadEnd : BatchEnding

-- The result of a batch: output (`text`), base after it, ending, number of decided rows (`rows`).
pub record BatchResult (B : Type 0) : Type 0 where
  pub text : Text
  pub base : B
  pub ending : BatchEnding
  pub rows : ℕ

-- The batch name is well-formed, no row is an end record, and the rows, executed from `base` on,
-- have exactly the answers `answers`, one each, and result in `after`. Rows that `form` refuses are
-- answered with their refusals; `step` executes the others in sequence, each at the next of the
-- clock readings `moments`, which are all used, under the key of `name` and the row's number.
pub record BatchRowsAreDecided {B C : Type 0} (form : Fields → ReadResult C) (step : RowStep B C) (name : Text) (base : B) (moments : List ℕ)
    (rows : List Fields) (answers : List Answer) (after : B) : Type 0 where
  pub named : IsBatchName name
  pub rows_only : AllByRecursion (λ row. ¬ (IsEndRecord row)) rows
  pub answered : RowsAreAnswered form step name base moments rows answers after
  pub each : length answers ≡ length rows

-- The text has no header with a well-formed batch name as its first record, or is unknown.
abbrev pub HasNoHeader : Option Text → Type 0
HasNoHeader text =
    HasExactlyRecords text [] ⊎ ((first : Fields) × BeginsWithRecords text (first ∷ []) × ((name : Text) → IsBatchName name → first ≡ batch_header name → ⊥))

-- The text ends after the header of the batch `name`, and `rows` and the printed answers `told` are
-- empty; or it ends after this header, `rows` and one more record, which is no end record, and
-- `told` is `answers` followed by the refusal `BadText`. An unknown text may have any records.
abbrev pub EndsWithoutEndRecord : Option Text → Text → List Fields → List Answer → List Answer → Type 0
EndsWithoutEndRecord text name rows answers told =
    ((rows ≡ []) × HasExactlyRecords text (batch_header name ∷ []) × (told ≡ []))
    ⊎ ((last : Fields) × ¬ (IsEndRecord last) × HasExactlyRecords text (batch_header name ∷ (rows ++ (last ∷ []))) × (told ≡ answers ++ (Refused BadText ∷ [])))

-- The records of the text begin with the header of the batch `name`, `rows`, and an end record that
-- is wrong for the number of `rows`. An unknown text always satisfies this.
abbrev pub EndsWithWrongEndRecord : Option Text → Text → List Fields → Type 0
EndsWithWrongEndRecord text name rows =
    (last : Fields) × IsEndRecord last × (last ≡ correct_end_record (length rows) → ⊥) × BeginsWithRecords text (batch_header name ∷ (rows ++ (last ∷ [])))

-- The records of the text begin with the header of the batch `name`, `rows`, and an end record,
-- correct for `CorrectEnd` and wrong for `BadEnd`; for `NoEnd` the text satisfies
-- `EndsWithoutEndRecord`. An unknown text may have any records. The printed answers `told` are
-- `answers`; for `NoEnd` there are none, or `answers` and the refusal of the last record. The
-- output `out` has one line for each of them, numbered from 1, and then the `end` line for
-- `CorrectEnd` only. `BadHeader` never satisfies this.
abbrev pub MatchesEnding : Option Text → BatchEnding → Text → List Fields → List Answer → List Answer → Text → Type 0
MatchesEnding text CorrectEnd name rows answers told out =
    BeginsWithRecords text (batch_header name ∷ (rows ++ (correct_end_record (length rows) ∷ []))) × (told ≡ answers)
    × (out ≡ answer_lines_from 1 answers ++ batch_end_line answers)
MatchesEnding text NoEnd name rows answers told out = EndsWithoutEndRecord text name rows answers told × (out ≡ answer_lines_from 1 told)
MatchesEnding text BadEnd name rows answers told out = EndsWithWrongEndRecord text name rows × (told ≡ answers) × (out ≡ answer_lines_from 1 answers)
MatchesEnding text BadHeader name rows answers told out = ⊥

-- `batch` is the result of executing a text with a header of the batch `name`: `rows`, parsed by
-- `form` and executed by `step` from `base` on with the clock readings `moments`, have the answers
-- `answers` (`BatchRowsAreDecided`). Its ending and output match the text (`MatchesEnding`), and
-- its number of decided rows is the number of the printed answers `told`.
pub record IsResultOfTextWithHeader {B C : Type 0} (form : Fields → ReadResult C) (step : RowStep B C) (base : B) (moments : List ℕ) (text : Option Text)
    (batch : BatchResult B) : Type 0 where
  pub name : Text
  pub rows : List Fields
  pub answers : List Answer
  pub told : List Answer
  pub settled : BatchRowsAreDecided form step name base moments rows answers batch.base
  pub ends : MatchesEnding text batch.ending name rows answers told batch.text
  pub counted : batch.rows ≡ length told

-- `batch` is the result of a text, perhaps unknown, without a header with a well-formed batch name:
-- `BadHeader`, no clock reading used, the base unchanged, no output, and no row decided.
pub record IsResultOfTextWithoutHeader {B : Type 0} (base : B) (moments : List ℕ) (text : Option Text) (batch : BatchResult B) : Type 0 where
  pub headless : HasNoHeader text
  pub ending : batch.ending ≡ BadHeader
  pub asked : moments ≡ []
  pub unchanged : batch.base ≡ base
  pub told : batch.text ≡ []
  pub counted : batch.rows ≡ 0

-- `batch` is the result of the text of the bytes `input` (`input_text`) on `base`. If it has a
-- header, `form` parses its rows and `step` executes them, with `moments` as their clock readings
-- (`BatchRowsAreDecided`); otherwise no row is executed, and the ending is `BadHeader`.
abbrev pub IsResultOfBatch : {B C : Type 0} → (Fields → ReadResult C) → RowStep B C → B → List ℕ → Text → BatchResult B → Type 0
IsResultOfBatch form step base moments input batch =
    IsResultOfTextWithHeader form step base moments (Some (input_text input)) batch ⊎ IsResultOfTextWithoutHeader base moments (Some (input_text input)) batch

-- The answer to the command of a row under the key `key` at the clock reading `now` on `base`, and
-- the base after it (`keyed_step`).
abbrev pub step_of_row : Base → ℕ → Command → Key → Answer × Base
step_of_row base now command key = keyed_step base now command (Some key)
