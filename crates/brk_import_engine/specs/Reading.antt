-- A reader over the records of a batch.
use Rattle.std.specs.Prelude.{◌≡◌, Option, Some, None, List, true}
use Rattle.csv.specs.Reading.{Reached, Ready, default_config, is_flexible, reader_config, reader_trim}
use Rattle.csv.specs.declared.reader.Reader.{Reader}
use Rattle.csv.specs.declared.reader.Trim.TheVariants as trim
use Rattle.csv.specs.declared.parser.State.{State}
use Rattle.csv.specs.declared.parser.State.TheVariants as st
use Rattle.brk_money.specs.Spelling.{Text}
use Rattle.brk_model.specs.Answers.{Fields}

-- The reader has the settings for a batch: no trimming of fields, the default CSV format, any
-- number of fields in a record; its next read returns one record, none taken as a header (`Ready`).
abbrev pub IsBatchReader : {R : Type 0} → Reader R → Type 0
IsBatchReader reader = (reader_trim reader ≡ trim.None) × Ready reader × (reader_config reader ≡ default_config) × (is_flexible reader ≡ true)

-- The text begins with the records `front`, and a CSV reader in the state `state` has read exactly
-- these and still has `left`. Vacuous if the text is unknown; false if only `left` is unknown.
abbrev pub ReaderIsAfterRecords : Option Text → List Fields → State → Option Text → Type 0
ReaderIsAfterRecords None front state left = Unit {0}
ReaderIsAfterRecords (Some text) front state None = ⊥
ReaderIsAfterRecords (Some text) front state (Some left) = Reached default_config st.StartRecord text front state left
