-- The output of lines, whole or not. `old` and `new` are the writer's contents, `None` if unknown.
use Rattle.std.specs.Prelude.{◌≡◌, ℕ, List, [], ◌∷◌, ◌++◌, Option, Result, Ok, Err, take}
use Rattle.std.specs.Io.KnownBytes.{Appends}
use Rattle.brk_money.specs.Spelling.{Text}
use Rattle.brk_model.specs.Statement.{text_of_lines}
use Rattle.brk_io.specs.declared.report_fault.LinesFault.{LinesFault}
use Rattle.brk_io.specs.declared.report_fault.LinesFault.TheVariants.{Desk, Write}

-- The bytes of `line`, followed by a line feed.
abbrev pub line_with_line_feed : Text → Text
line_with_line_feed line = line ++ 10 ∷ []

-- The first lines of `lines` were written whole, perhaps none and never the last; never if `lines`
-- is empty. If the content before is unknown, it states only that `lines` is not empty.
abbrev pub WritesProperPrefixOfLines : List Text → Option Text → Option Text → Type 0
WritesProperPrefixOfLines lines old new =
    (first : List Text) × (next : Text) × (rest : List Text) × (first ++ next ∷ rest ≡ lines) × Appends old new (text_of_lines first)

-- The first lines of `lines` were written whole, perhaps none, and a prefix of the next with its
-- line feed, perhaps empty or all of it. On unknown content: only that `lines` is not empty.
abbrev pub WritesLinesAndPartOfNext : List Text → Option Text → Option Text → Type 0
WritesLinesAndPartOfNext lines old new =
    (first : List Text) × (next : Text) × (rest : List Text) × (k : ℕ) × (first ++ next ∷ rest ≡ lines)
    × Appends old new (text_of_lines first ++ take k (line_with_line_feed next))

-- Writing `lines` failed with this fault. `Desk`: the first lines were written whole, perhaps none
-- and never the last one. `Write`: the first lines were written whole, perhaps none, and then a
-- prefix of the next one with its line feed, perhaps empty or all of it. Never holds if `lines` is
-- empty. If the writer's content before is unknown, it states only that `lines` is not empty.
abbrev pub FailsWithinLines : List Text → Option Text → Option Text → LinesFault → Type 0
FailsWithinLines lines old new (Desk fault) = WritesProperPrefixOfLines lines old new
FailsWithinLines lines old new Write = WritesLinesAndPartOfNext lines old new

-- Writing a longer text that begins with `lines` failed within these. `Desk`: the first of them
-- were written whole, perhaps none or all. `Write`: the first whole, perhaps none, and a prefix of
-- the next with its line feed, perhaps empty or all of it; never if `lines` is empty. If the
-- content before is unknown, `Desk` states nothing, `Write` only that `lines` is not empty.
abbrev pub FailsWithinFirstLines : List Text → Option Text → Option Text → LinesFault → Type 0
FailsWithinFirstLines lines old new (Desk fault) = (first : List Text) × (rest : List Text) × (first ++ rest ≡ lines) × Appends old new (text_of_lines first)
FailsWithinFirstLines lines old new Write = WritesLinesAndPartOfNext lines old new

-- `Ok`: exactly the lines `lines` were written; it states nothing if the writer's content before is
-- unknown. `Err`: writing them failed as `FailsWithinLines` specifies.
abbrev pub WritesLines : {R : Type 0} → List Text → Option Text → Option Text → Result R LinesFault → Type 0
WritesLines lines old new (Ok r) = Appends old new (text_of_lines lines)
WritesLines lines old new (Err fault) = FailsWithinLines lines old new fault
