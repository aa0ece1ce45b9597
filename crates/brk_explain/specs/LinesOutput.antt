-- The output of lines that follow from the tables of a desk, which a call reads only.
use Rattle.std.specs.Prelude.{◌≡◌, ◌⊎◌, List, [], IfErr, Option, Result, Ok, Err}
use Rattle.std.specs.Io.KnownBytes.{Appends}
use Rattle.sqlite_trees.specs.declared.store.Store.{Ghosts}
use Rattle.sqlite.specs.Held.{Held}
use Rattle.brk_money.specs.Spelling.{Text}
use Rattle.brk_money.specs.declared.refusal.Refusal.{Refusal}
use Rattle.brk_model.specs.Run.{IsCallFault}
use Rattle.brk_model.specs.Statement.{text_of_lines}
use Rattle.brk_model.specs.Tables.{Tables}
use Rattle.brk_report.specs.StatementOutput.{PreservesDesk, IsReportFaultOtherThanDamage, HoldsForStoredTables}
use Rattle.brk_report_lines.specs.Written.{WritesProperPrefixOfLines, WritesLinesAndPartOfNext}
use Rattle.brk_io.specs.declared.report_fault.ReportFault.{ReportFault}
use Rattle.brk_io.specs.declared.report_fault.ReportFault.TheVariants.{Refused, Desk, Write}

-- The result of writing `told`, lines or a refusal. `Ok`: exactly the lines were written.
-- `Refused`: `told` is this refusal; the output is not specified here. `Desk`: the fault is
-- `Memory` or `Store`, and nothing was written, or the first lines whole, perhaps none and never
-- the last. `Write`: the first lines were written whole, perhaps none, and a prefix of the next
-- with its line feed, perhaps empty or all of it. Conditions on the output are vacuous if the
-- writer's content before is unknown.
abbrev pub WritesLinesOrRefuses : Result (List Text) Refusal → Option Text → Option Text → Result (Unit {0}) ReportFault → Type 0
WritesLinesOrRefuses told old new (Ok u) = (lines : List Text) × (told ≡ Ok lines) × Appends old new (text_of_lines lines)
WritesLinesOrRefuses told old new (Err (Refused refusal)) = told ≡ Err refusal
WritesLinesOrRefuses told old new (Err (Desk fault)) =
    IsCallFault fault × (Appends old new [] ⊎ ((lines : List Text) × (told ≡ Ok lines) × WritesProperPrefixOfLines lines old new))
WritesLinesOrRefuses told old new (Err Write) = (lines : List Text) × (told ≡ Ok lines) × WritesLinesAndPartOfNext lines old new

-- The postcondition of writing the lines that `told` returns for the tables of a desk, or failing
-- with its refusal: `WritesLinesOrRefuses`; a fault of the desk is `Memory` or `Store`; the desk is
-- unchanged; a refusal writes nothing. `before` and `after` are the writer's content.
pub record WriteLinesPost {S : Type 0} (g : Ghosts S) (old new : Held S) (told : Tables → Result (List Text) Refusal) (before after : Option Text)
    (result : Result (Unit {0}) ReportFault) : Type 0 where
  -- The output for all rows that the store held before; vacuous as `HoldsForStoredTables` states.
  pub written : HoldsForStoredTables g old new (λ t. WritesLinesOrRefuses (told t) before after result)
  -- A fault of the desk is `Memory` or `Store`. This does not depend on the disk assumption.
  pub fault : IfErr result IsReportFaultOtherThanDamage
  -- The desk is unchanged.
  pub keeps : PreservesDesk g old new
  -- Nothing is written at a refusal.
  pub unwritten : (refusal : _) → result ≡ Err (Refused refusal) → after ≡ before
