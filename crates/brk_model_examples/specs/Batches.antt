-- The functions that run the examples: rows in, lines out.
use Rattle.std.specs.Prelude.{◌≡◌, ℕ, List, [], ◌∷◌, ◌++◌, flat_map, length, replicate, Result, codes, decimal}
use Rattle.brk_model.specs.Forms.{check_read_value}
use Rattle.brk_money.specs.declared.refusal.Refusal.{Refusal}
use Rattle.brk_money.specs.Spelling.{Text}
use Rattle.brk_model.specs.Base.{Base}
use Rattle.brk_model.specs.Computed.{result_of_batch_input}
use Rattle.brk_model.specs.Queries.{View}
use Rattle.brk_model.specs.Ask.{ask, parse_query}

-- Twenty clock readings, all of them the start of 2024-03-01, in milliseconds since 1970-01-01 UTC.
abbrev pub twenty_clock_readings : List ℕ
twenty_clock_readings = replicate 20 1709251200000

-- The text of the lines, in sequence, each followed by a line feed.
abbrev pub text_with_line_ends : List Text → Text
text_with_line_ends lines = flat_map (λ line. line ++ 10 ∷ []) lines

-- The bytes of a batch with the name `name`: a line for its header, for each of `rows`, in
-- sequence, and for its end record, which has the number of the rows.
abbrev pub bytes_of_batch : Text → List Text → Text
bytes_of_batch name rows = text_with_line_ends ((codes "batch," ++ name) ∷ rows ++ (codes "end," ++ decimal (length rows)) ∷ [])

-- The base after a batch with the name `T` and the rows `rows`, executed from `base` on with
-- `twenty_clock_readings`. A well-formed row for which no reading is left, and each row after it,
-- is not executed.
abbrev pub base_after_batch : Base → List Text → Base
base_after_batch base rows = (result_of_batch_input base twenty_clock_readings (bytes_of_batch (codes "T") rows)).base

-- A batch with the name `T` and the rows `rows`, executed from `base` on with
-- `twenty_clock_readings`, has exactly the output lines `lines`. A well-formed row for which no
-- reading is left, and each row after it, has no output line.
abbrev pub BatchOutputsLines : Base → List Text → List Text → Type 0
BatchOutputsLines base rows lines = (result_of_batch_input base twenty_clock_readings (bytes_of_batch (codes "T") rows)).text ≡ text_with_line_ends lines

-- The base `base` without its stored rows and replies.
abbrev pub base_without_stored_replies : Base → Base
base_without_stored_replies base = record base { kept = [] }

-- The view of the query with the name `name` and the arguments `arguments` on `base`, or the
-- refusal of the query or of its arguments; the refusal `BadText` if no query has this name.
abbrev pub view_by_name_and_arguments : Base → Text → List Text → Result View Refusal
view_by_name_and_arguments base name arguments = check_read_value (ask base) (parse_query name arguments)
