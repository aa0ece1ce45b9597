-- The effects of a run of a batch, for each way in which it ends.
--
-- Parameters: those of specs/Answers.antt. `text` is the text of the batch, or `None` if it is
-- unknown; `span` and `outside` are the desk's base, the clock and the writer's content before and
-- after the batch. A condition that bytes were written (`Appends`) is vacuous if the writer's
-- content before is unknown, and a condition on the records of the text if the text is unknown.
use Rattle.std.specs.Prelude.{◌≡◌, ◌+◌, ◌<◌, ◌⊎◌, ◌∷◌, ◌++◌, [], IfErr, List, ℕ, Option, Result, Ok, Err, take, length, map}
use Rattle.std.specs.Io.KnownBytes.{Appends}
use Rattle.brk_money.specs.Spelling.{Text}
use Rattle.brk_money.specs.declared.fault.Fault.{Fault}
use Rattle.brk_money.specs.declared.fault.Fault.TheVariants.{Memory}
use Rattle.brk_model.specs.Answers.{Fields, RowStep}
use Rattle.brk_model.specs.Batch as model
use Rattle.brk_model.specs.Commands.{Answer}
use Rattle.brk_model.specs.Forms.{ReadResult}
use Rattle.brk_model.specs.Input.{BeginsWithRecords, correct_end_record, batch_header}
use Rattle.brk_model.specs.Lines.{answer_line, batch_end_line, answer_lines_from}
use Rattle.brk_model.specs.Run.{Did, Failed, IsCallFault}
use Rattle.brk_import_engine.specs.Counts.{counts_of_answers}
use Rattle.brk_import_engine.specs.Script.{RowCallRelation, RowCalls, RowCallScript, recording_step}
use Rattle.brk_io.specs.Calls.{IsCallSequence}
use Rattle.brk_io.specs.Moments.{ReadsClockAtMostOnce, ClockReturnsMomentsInSequence}
use Rattle.brk_io.specs.Span.{IsUnchangedEnvironment, ClockAndWriterChange, EnvironmentChange, environment_change_with_bases}
use Rattle.brk_io.specs.declared.batch_fault.BatchFault.{BatchFault}
use Rattle.brk_io.specs.declared.batch_fault.FaultKind.{FaultKind}
use Rattle.brk_io.specs.declared.batch_fault.FaultKind.TheVariants as kinds
use Rattle.brk_import_engine.specs.declared.counts.Counts.{Counts}

-- The batch ended with `ending` after `count` decided rows; never with `BadHeader`. The clock was
-- read once for each of `moments`, in order; at these timestamps the batch of the model has the
-- lines `lines` and leads from the base before to the base after; exactly these lines were written.
pub record BatchEndsWith {S X C : Type 0} (form : Fields → ReadResult X) (step : RowStep S X) (gives : C → ℕ → C → Type 0)
    (text : Option Text) (span : EnvironmentChange S C) (ending : model.BatchEnding) (count : ℕ) : Type 0 where
  pub moments : List ℕ
  pub lines : Text
  pub taken : ClockReturnsMomentsInSequence gives span.clock moments span.later
  pub answered : model.IsResultOfTextWithHeader form step span.base moments text (record { text = lines; base = span.after; ending = ending; rows = count })
  pub written : Appends span.old span.new lines

-- The text, if known, begins with the header of `name`, the rows `rows` and the correct end record.
abbrev pub BeginsWithWholeBatch : Option Text → Text → List Fields → Type 0
BeginsWithWholeBatch text name rows = BeginsWithRecords text (batch_header name ∷ (rows ++ (correct_end_record (length rows) ∷ [])))

-- If `rows` is not empty, the text begins with the header of the batch `name`, these rows and one
-- more record. Vacuous if there are no rows or the text is unknown.
abbrev pub HasRecordAfterRows : Option Text → Text → List Fields → Type 0
HasRecordAfterRows text name rows = 0 < length rows → (next : Fields) × BeginsWithRecords text (batch_header name ∷ (rows ++ (next ∷ [])))

-- The progress of a batch that a fault ended: the text begins with the header of the batch `name`,
-- the rows `rows` and, if there are any, one more record. The rows have the answers `answers` in
-- the model and lead to the base after the batch. The clock was read once for each of `moments`, in
-- order, one for each well-formed row. `told`, of all decided answers, has `count` elements;
-- another condition relates it to `answers`.
pub record BatchProgress {S X C : Type 0} (form : Fields → ReadResult X) (step : RowStep S X) (gives : C → ℕ → C → Type 0)
    (text : Option Text) (span : EnvironmentChange S C) (count : ℕ) : Type 0 where
  -- The name of the batch, its first rows with their answers, and all decided answers.
  pub name : Text
  pub rows : List Fields
  pub answers : List Answer
  pub told : List Answer
  -- The timestamps of the rows, and the clock after these readings.
  pub moments : List ℕ
  pub mid : C
  pub taken : ClockReturnsMomentsInSequence gives span.clock moments mid
  -- From the base before, the rows have these answers in the model, and lead to the base after.
  pub settled : model.BatchRowsAreDecided form step name span.base moments rows answers span.after
  pub begins : BeginsWithRecords text (batch_header name ∷ rows)
  -- If there are rows, one more record follows them.
  pub next : HasRecordAfterRows text name rows
  pub counted : count ≡ length told

-- Exactly the lines of `told`, all or all but the last, were written. Vacuous on unknown content.
abbrev pub WritesAllLinesOrAllButLast : Option Text → Option Text → List Answer → Type 0
WritesAllLinesOrAllButLast old new told =
    Appends old new (answer_lines_from 1 told)
    ⊎ ((front : List Answer) × (last : Answer) × (told ≡ front ++ (last ∷ [])) × Appends old new (answer_lines_from 1 front))

-- The lines of `told` but the last were written, and a prefix of the last, perhaps empty or all of
-- it. If the writer's content before is unknown, it states only that `told` is not empty.
abbrev pub WritesPartOfLastLine : Option Text → Option Text → List Answer → Type 0
WritesPartOfLastLine old new told =
    (front : List Answer) × (last : Answer) × (k : ℕ) × (told ≡ front ++ (last ∷ []))
    × Appends old new (answer_lines_from 1 front ++ take k (answer_line (length told) last))

-- The lines of all answers in `told` were written, and then a prefix of the end line, perhaps empty
-- or all of it. Vacuous if the writer's content before is unknown.
abbrev pub WritesPartOfEndLine : Option Text → Option Text → List Answer → Type 0
WritesPartOfEndLine old new told = (k : ℕ) × Appends old new (answer_lines_from 1 told ++ take k (batch_end_line told))

-- The answers `told` equal `answers`; or the text ends without an end record
-- (`EndsWithoutEndRecord`): either after the header of `name`, the rows `rows` and one more row,
-- and `told` is `answers` followed by the refusal `BadText` of this row; or after the header, and
-- `rows` and `told` are empty. Conditions on the text are vacuous if it is unknown.
abbrev pub MayAddLastRowRefusal : Option Text → Text → List Fields → List Answer → List Answer → Type 0
MayAddLastRowRefusal text name rows answers told = (told ≡ answers) ⊎ model.EndsWithoutEndRecord text name rows answers told

-- The batch failed with this fault after `count` decided rows. `BadHeader`: the text has no header,
-- and nothing was decided or changed. `NoEnd`, `BadEnd`: it ends as the model's (`BatchEndsWith`).
-- `Read`: the lines of all decided rows were written, or nothing was decided or changed. `Write`:
-- all lines but the last and a part of it, or all lines and a part of the end line, were written; a
-- part may be empty or whole. `Desk`: memory ran out, and nothing was decided or changed; or, after
-- `Memory` or `Store`, the decided rows' lines were written, and the clock was read at most once
-- more; or memory ran out, and these lines, or all but the last, were written.
abbrev pub BatchFailsWith : {S X C : Type 0} → (Fields → ReadResult X) → RowStep S X → (C → ℕ → C → Type 0) → Option Text → EnvironmentChange S C → ℕ
    → FaultKind → Type 0
BatchFailsWith form step gives text span count kinds.BadHeader =
    IsUnchangedEnvironment span
    × model.IsResultOfTextWithoutHeader span.base [] text (record { text = []; base = span.after; ending = model.BadHeader; rows = count })
BatchFailsWith form step gives text span count kinds.NoEnd = BatchEndsWith form step gives text span model.NoEnd count
BatchFailsWith form step gives text span count kinds.BadEnd = BatchEndsWith form step gives text span model.BadEnd count
BatchFailsWith form step gives text span count kinds.Read =
    ((count ≡ 0) × IsUnchangedEnvironment span)
    ⊎ ((s : BatchProgress form step gives text span count) × (span.later ≡ s.mid) × (s.told ≡ s.answers)
    × Appends span.old span.new (answer_lines_from 1 s.told))
BatchFailsWith form step gives text span count kinds.Write =
    (s : BatchProgress form step gives text span count) × (span.later ≡ s.mid)
    × ((MayAddLastRowRefusal text s.name s.rows s.answers s.told × WritesPartOfLastLine span.old span.new s.told)
    ⊎ ((s.told ≡ s.answers) × BeginsWithWholeBatch text s.name s.rows × WritesPartOfEndLine span.old span.new s.told))
BatchFailsWith form step gives text span count (kinds.Desk fault) =
    ((fault ≡ Memory) × (count ≡ 0) × IsUnchangedEnvironment span)
    ⊎ (((s : BatchProgress form step gives text span count) × ReadsClockAtMostOnce gives s.mid span.later × IsCallFault fault × (s.told ≡ s.answers)
    × Appends span.old span.new (answer_lines_from 1 s.told))
    ⊎ ((s : BatchProgress form step gives text span count) × (span.later ≡ s.mid) × (fault ≡ Memory)
    × MayAddLastRowRefusal text s.name s.rows s.answers s.told × WritesAllLinesOrAllButLast span.old span.new s.told))

-- The result of the batch: at `Ok` it ended with the correct end record (`BatchEndsWith`), and the
-- counts are of its accepted, repeated and refused answers; an error is as in `BatchFailsWith`.
abbrev pub IsBatchResult : {S X C : Type 0} → (Fields → ReadResult X) → RowStep S X → (C → ℕ → C → Type 0) → Option Text → EnvironmentChange S C
    → Result Counts BatchFault → Type 0
IsBatchResult form step gives text span (Ok counts) =
    (c : BatchEndsWith form step gives text span model.CorrectEnd (counts.ok + counts.again + counts.no)) × (counts ≡ counts_of_answers c.answered.answers)
IsBatchResult form step gives text span (Err fault) = BatchFailsWith form step gives text span fault.rows fault.kind

-- The batch ended with the fault `cause` of the desk, `Memory` or `Store`, at the row after the
-- decided rows. This row has a record after it and is a command, for which the clock was read once,
-- and exactly the lines of the decided rows were written.
pub record DeskFaultEndsBatchAtNextRow {S X C : Type 0} (form : Fields → ReadResult X) (step : RowStep S X) (gives : C → ℕ → C → Type 0)
    (text : Option Text) (span : EnvironmentChange S C) (fault : BatchFault) : Type 0 where
  -- The fault of the desk, which is `Memory` or `Store`.
  pub cause : Fault
  pub kind : fault.kind ≡ kinds.Desk cause
  pub may_fail : IsCallFault cause
  -- The decided rows, whose lines were written.
  pub stopped : BatchProgress form step gives text span fault.rows
  pub told : stopped.told ≡ stopped.answers
  pub written : Appends span.old span.new (answer_lines_from 1 stopped.told)
  -- The failed row and the record after it, which follow the decided rows in the text.
  pub row : Fields
  pub next : Fields
  pub begins : BeginsWithRecords text (batch_header stopped.name ∷ (stopped.rows ++ (row ∷ next ∷ [])))
  -- The command of the failed row.
  pub command : X
  pub formed : form row ≡ Ok command
  -- The clock reading of its call.
  pub moment : ℕ
  pub given : gives stopped.mid moment span.later

-- If the fault is one of the desk (`Desk`), it is `Memory`. Vacuous for any other fault.
abbrev pub DeskFaultIsMemory : FaultKind → Type 0
DeskFaultIsMemory (kinds.Desk fault) = fault ≡ Memory
DeskFaultIsMemory kinds.BadHeader = Unit {0}
DeskFaultIsMemory kinds.NoEnd = Unit {0}
DeskFaultIsMemory kinds.BadEnd = Unit {0}
DeskFaultIsMemory kinds.Read = Unit {0}
DeskFaultIsMemory kinds.Write = Unit {0}

-- Every outcome of `script` is an answer. A model desk that returns exactly these answers and
-- records its calls (`recording_step`) receives exactly the calls of `script` from the batch, and
-- the lines and the result follow from the answers. A fault of the desk is `Memory`.
abbrev pub BatchMatchesAnsweredScript : {X C : Type 0} → (Fields → ReadResult X) → (C → ℕ → C → Type 0) → Option Text → RowCallScript X → ClockAndWriterChange C
    → Result Counts BatchFault → Type 0
BatchMatchesAnsweredScript form gives text script outside result =
    (answers : List Answer) × (script.1 ≡ map Did answers)
    × IsBatchResult form recording_step gives text (environment_change_with_bases (answers, []) ([], script.0) outside) result
    × IfErr result (λ fault. DeskFaultIsMemory fault.kind)

-- The last call of `script`, of the row after the decided rows under its key, failed with `Memory`
-- or `Store`, which ended the batch. All earlier outcomes are answers, and the earlier calls, the
-- lines and the result follow from them. False if the batch completed.
abbrev pub BatchMatchesFailedScript : {X C : Type 0} → (Fields → ReadResult X) → (C → ℕ → C → Type 0) → Option Text → RowCallScript X → ClockAndWriterChange C
    → Result Counts BatchFault → Type 0
BatchMatchesFailedScript form gives text script outside (Ok counts) = ⊥
BatchMatchesFailedScript {X = X} form gives text script outside (Err fault) =
    (answers : List Answer) × (calls : RowCalls X)
    × (failed : DeskFaultEndsBatchAtNextRow form recording_step gives text (environment_change_with_bases (answers, []) ([], calls) outside) fault)
    × (script.0 ≡ calls ++ ((failed.moment, (failed.command, record { batch = failed.stopped.name; n = fault.rows + 1 })) ∷ []))
    × (script.1 ≡ map Did answers ++ (Failed failed.cause ∷ []))

-- The calls of `script` are the batch's, in order: row n of batch NAME, if it is decided and
-- well-formed and has a record after it, is called once, under the key (NAME, n); one more call may
-- have failed last. The clock is read once for each; lines and result follow from the outcomes.
abbrev pub BatchMatchesScript : {X C : Type 0} → (Fields → ReadResult X) → (C → ℕ → C → Type 0) → Option Text → RowCallScript X → ClockAndWriterChange C
    → Result Counts BatchFault → Type 0
BatchMatchesScript form gives text script outside result =
    ClockReturnsMomentsInSequence gives outside.clock (map (λ call. call.0) script.0) outside.later
    × (BatchMatchesAnsweredScript form gives text script outside result ⊎ BatchMatchesFailedScript form gives text script outside result)

-- The desk changed from `first` to `last` only by the calls of some script that matches the batch
-- (`BatchMatchesScript`), whether or not the disk assumption holds.
abbrev pub ChangesOnlyByRowCalls : {D X C : Type 0} → RowCallRelation D X → (Fields → ReadResult X) → (C → ℕ → C → Type 0) → Option Text → D → D
    → ClockAndWriterChange C → Result Counts BatchFault → Type 0
ChangesOnlyByRowCalls {X = X} acts form gives text first last outside result =
    (script : RowCallScript X) × IsCallSequence acts first script.0 script.1 last × BatchMatchesScript form gives text script outside result

-- The batch refines the model: for every represented base, lines and result follow from the answers
-- of `step`, and the desk represents the base after. Vacuous if the disk assumption fails.
abbrev pub BatchRefinesModel : {D S X C : Type 0} → (D → Type 0) → (D → S → Type 0) → (Fields → ReadResult X) → RowStep S X → (C → ℕ → C → Type 0) → Option Text
    → D → D → ClockAndWriterChange C → Result Counts BatchFault → Type 0
BatchRefinesModel {S = S} meets_disk_assumption represents form step gives text first last outside result =
    meets_disk_assumption last → (base : S) → represents first base
    → (after : S) × represents last after × IsBatchResult form step gives text (environment_change_with_bases base after outside) result

-- The call of the row after the decided rows failed (`DeskFaultEndsBatchAtNextRow`), and a crash
-- exposes only the base after the decided rows, or the base after the command of this row.
pub record CrashMayCommitFailedRow {D S X C : Type 0} (form : Fields → ReadResult X) (step : RowStep S X) (gives : C → ℕ → C → Type 0)
    (crash_exposes_only : D → S → S → Type 0)
    (text : Option Text) (span : EnvironmentChange S C) (last : D) (fault : BatchFault) : Type 0 where
  pub failed : DeskFaultEndsBatchAtNextRow form step gives text span fault
  pub may : crash_exposes_only last span.after (step span.after failed.moment failed.command (record { batch = failed.stopped.name; n = fault.rows + 1 })).1

-- A crash after the batch exposes only the base after it; or, only if the batch ended with a fault,
-- that base or the base after the row whose call failed (`CrashMayCommitFailedRow`).
abbrev pub BoundsBatchCrashStates : {D S X C : Type 0} → (Fields → ReadResult X) → RowStep S X → (C → ℕ → C → Type 0) → (D → S → S → Type 0) → Option Text
    → EnvironmentChange S C → D → Result Counts BatchFault → Type 0
BoundsBatchCrashStates form step gives crash_exposes_only text span last (Ok counts) = crash_exposes_only last span.after span.after
BoundsBatchCrashStates form step gives crash_exposes_only text span last (Err fault) =
    crash_exposes_only last span.after span.after ⊎ CrashMayCommitFailedRow form step gives crash_exposes_only text span last fault

-- Crash safety of a batch: for every base that the desk represented, if a crash before the batch
-- exposed only this base, lines and result follow from the answers of `step`, the desk represents
-- the base after the decided rows, and a crash exposes only that base, or after a fault also the
-- base after the row whose call failed. Vacuous if the disk assumption fails after the batch.
abbrev pub IsBatchCrashSafe : {D S X C : Type 0} → (D → Type 0) → (D → S → Type 0) → (D → S → S → Type 0) → (Fields → ReadResult X) → RowStep S X
    → (C → ℕ → C → Type 0) → Option Text → D → D → ClockAndWriterChange C → Result Counts BatchFault → Type 0
IsBatchCrashSafe {S = S} meets_disk_assumption represents crash_exposes_only form step gives text first last outside result =
    meets_disk_assumption last → (base : S) → represents first base → crash_exposes_only first base base → (after : S) × represents last after
    × IsBatchResult form step gives text (environment_change_with_bases base after outside) result
    × BoundsBatchCrashStates form step gives crash_exposes_only text (environment_change_with_bases base after outside) last result

-- The postcondition of a run of a batch: the desk changed only by the calls of its rows, the batch
-- refines the model, and it is crash-safe.
pub record BatchPost {D S X C : Type 0} (meets_disk_assumption : D → Type 0) (represents : D → S → Type 0) (crash_exposes_only : D → S → S → Type 0)
    (acts : RowCallRelation D X) (form : Fields → ReadResult X) (step : RowStep S X) (gives : C → ℕ → C → Type 0) (text : Option Text)
    (first last : D) (outside : ClockAndWriterChange C) (result : Result Counts BatchFault) : Type 0 where
  pub changed_only_by_calls : ChangesOnlyByRowCalls acts form gives text first last outside result
  pub refines_model : BatchRefinesModel meets_disk_assumption represents form step gives text first last outside result
  pub crash_safe : IsBatchCrashSafe meets_disk_assumption represents crash_exposes_only form step gives text first last outside result
