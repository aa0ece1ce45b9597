-- The records of a batch's input, of which the first 67,108,864 bytes are read.
use Rattle.std.specs.Prelude.{◌≡◌, List, [], ◌∷◌, ◌++◌, ℕ, Option, Some, None, take, codes, decimal, IsTrue}
use Rattle.csv.specs.Reading.{records, default_config, strip_bom}
use Rattle.csv.specs.Records.{field_at}
use Rattle.brk_money.specs.Spelling.{Text}
use Rattle.brk_model.specs.Forms.{is_batch_name}
use Rattle.brk_model.specs.Answers.{Fields}

-- The greatest number of bytes that are read of an input.
abbrev pub most_input_bytes : ℕ
most_input_bytes = 67108864

-- The text of an input: its first `most_input_bytes` bytes without a leading byte order mark.
abbrev pub input_text : Text → Text
input_text input = strip_bom (take most_input_bytes input)

-- The records of the text begin with `front`. An unknown text (`None`) always satisfies this.
abbrev pub BeginsWithRecords : Option Text → List Fields → Type 0
BeginsWithRecords None front = Unit {0}
BeginsWithRecords (Some text) front = (rest : List Fields) × (records default_config text ≡ front ++ rest)

-- The records of the text are exactly `all`. An unknown text (`None`) always satisfies this.
abbrev pub HasExactlyRecords : Option Text → List Fields → Type 0
HasExactlyRecords None all = Unit {0}
HasExactlyRecords (Some text) all = records default_config text ≡ all

-- The text `name` is a well-formed batch name.
abbrev pub IsBatchName : Text → Type 0
IsBatchName name = IsTrue (is_batch_name name)

-- The header record of a batch with the name `name`: the word `batch` and the name.
abbrev pub batch_header : Text → Fields
batch_header name = codes "batch" ∷ name ∷ []

-- The record is an end record: its first field is the word `end`. Its other fields are not checked.
abbrev pub IsEndRecord : Fields → Type 0
IsEndRecord row = field_at row 0 ≡ Some (codes "end")

-- The correct end record of a batch of `n` rows: the word `end` and the decimal text of `n`.
abbrev pub correct_end_record : ℕ → Fields
correct_end_record n = codes "end" ∷ decimal n ∷ []
