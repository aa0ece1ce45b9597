-- The steps of a batch at its next row: reading it and the record after it, executing it.
--
-- Parameters: those of specs/Answers.antt; `rem reader`, the bytes that the source of a reader
-- still has; `settled`, the number of decided rows; `outside`, the clock and the writer's content
-- before and after the step; `old` and `new`, the writer's content where only this changes.
use Rattle.std.specs.Prelude.{◌≡◌, ◌+◌, ◌⊎◌, ◌∷◌, ◌++◌, [], ℕ, List, Option}
use Rattle.std.specs.Io.KnownBytes.{Appends}
use Rattle.csv.specs.Reading.{reader_state, source_of}
use Rattle.csv.specs.declared.reader.Reader.{Reader}
use Rattle.brk_money.specs.Spelling.{Text}
use Rattle.brk_money.specs.declared.fault.Fault.{Fault}
use Rattle.brk_money.specs.declared.fault.Fault.TheVariants.{Memory}
use Rattle.brk_money.specs.declared.refusal.Refusal.TheVariants.{BadText}
use Rattle.brk_model.specs.Answers.{Fields, RowStep}
use Rattle.brk_model.specs.Commands.{Answer, Refused}
use Rattle.brk_model.specs.Forms.{ReadResult}
use Rattle.brk_model.specs.Input.{HasExactlyRecords}
use Rattle.brk_model.specs.Lines.{answer_line}
use Rattle.brk_model.specs.Run.{IsCallFault}
use Rattle.brk_import_engine.specs.Answers.{RowHasAnswer, RowFailsWith, PreservesRepresentedBases, RepresentsDurably}
use Rattle.brk_import_engine.specs.Counts.{counts_with_answer}
use Rattle.brk_import_engine.specs.Parts.{LastRowEndsBatchWith, LineWriteFailsWith}
use Rattle.brk_import_engine.specs.Reading.{ReaderIsAfterRecords}
use Rattle.brk_import_engine.specs.Script.{RowCallRelation}
use Rattle.brk_io.specs.Span.{ClockAndWriterChange}
use Rattle.brk_io.specs.declared.batch_fault.BatchFault.{BatchFault}
use Rattle.brk_io.specs.declared.batch_fault.FaultKind.{FaultKind}
use Rattle.brk_io.specs.declared.batch_fault.FaultKind.TheVariants as kinds
use Rattle.brk_import_engine.specs.declared.counts.Counts.{Counts}

-- In every text, if `old` has read exactly the first records `before`, `new` has also read `row`.
abbrev pub ReadsOneRecord : {R : Type 0} → (R → Option Text) → Reader R → Reader R → Fields → Type 0
ReadsOneRecord rem old new row =
    (text : Option Text) (before : List Fields) → ReaderIsAfterRecords text before (reader_state old) (source_of rem old)
    → ReaderIsAfterRecords text (before ++ (row ∷ [])) (reader_state new) (source_of rem new)

-- Every text of which the reader has read exactly the first records `before` has no other record.
abbrev pub HasNoRecordLeft : {R : Type 0} → (R → Option Text) → Reader R → Type 0
HasNoRecordLeft rem reader =
    (text : Option Text) (before : List Fields) → ReaderIsAfterRecords text before (reader_state reader) (source_of rem reader) → HasExactlyRecords text before

-- The fault `kind` is one of reading a record: `Read`, or `Desk(Memory)`.
abbrev pub IsReadFault : FaultKind → Type 0
IsReadFault kind = (kind ≡ kinds.Read) ⊎ (kind ≡ kinds.Desk Memory)

-- The batch ended with `fault` at the read of the first record after the header: with `NoEnd`, and
-- no record is left, or with a fault of reading (`IsReadFault`). No row was decided.
abbrev pub FirstReadEndsBatchWith : {R : Type 0} → (R → Option Text) → Reader R → BatchFault → Type 0
FirstReadEndsBatchWith rem reader fault =
    ((fault ≡ record { rows = 0; kind = kinds.NoEnd }) × HasNoRecordLeft rem reader)
    ⊎ ((kind : FaultKind) × (fault ≡ record { rows = 0; kind = kind }) × IsReadFault kind)

-- The batch ended with `fault` at the read of the record after the row `settled + 1`: by a fault of
-- reading (`IsReadFault`), the row not decided and nothing written; or no record is left, the row
-- is refused with `BadText`, and its line was written or failed (`LastRowEndsBatchWith`).
abbrev pub NextReadEndsBatchWith : {R : Type 0} → (R → Option Text) → Reader R → ℕ → Option Text → Option Text → BatchFault → Type 0
NextReadEndsBatchWith rem reader settled old new fault =
    ((kind : FaultKind) × (fault ≡ record { rows = settled; kind = kind }) × IsReadFault kind × (new ≡ old))
    ⊎ ((kind : FaultKind) × (fault ≡ record { rows = settled + 1; kind = kind }) × HasNoRecordLeft rem reader
    × LastRowEndsBatchWith old new (answer_line (settled + 1) (Refused BadText)) kind)

-- The row is decided: it has an answer, whose line was appended to the writer's content (vacuous if
-- that is unknown before), and `more` are the counts `counts` with this answer.
pub record RowIsDecidedAndWritten {D S X C : Type 0} (meets_disk_assumption : D → Type 0) (represents : D → S → Type 0)
    (crash_exposes_only : D → S → S → Type 0) (acts : RowCallRelation D X) (step : RowStep S X) (gives : C → ℕ → C → Type 0)
    (read : ReadResult X) (batch : Text) (settled : ℕ) (first last : D) (outside : ClockAndWriterChange C) (counts more : Counts) : Type 0 where
  pub answer : Answer
  pub given : RowHasAnswer meets_disk_assumption (RepresentsDurably represents crash_exposes_only) acts step gives read batch (settled + 1)
      answer first last outside.clock outside.later
  pub written : Appends outside.old outside.new (answer_line (settled + 1) answer)
  pub counted : more ≡ counts_with_answer counts answer

-- The row failed (`RowFailsWith`) and is not decided, and the batch ended with `fault`, `Memory` or
-- `Store`; the represented bases remain (`PreservesRepresentedBases`), and nothing was written.
pub record RowIsNotDecided {D S X C : Type 0} (meets_disk_assumption : D → Type 0) (represents : D → S → Type 0)
    (crash_exposes_only : D → S → S → Type 0) (acts : RowCallRelation D X) (step : RowStep S X) (gives : C → ℕ → C → Type 0)
    (read : ReadResult X) (batch : Text) (settled : ℕ) (first last : D) (outside : ClockAndWriterChange C) (fault : BatchFault) : Type 0 where
  pub cause : Fault
  pub is : fault ≡ record { rows = settled; kind = kinds.Desk cause }
  pub failed : RowFailsWith meets_disk_assumption represents crash_exposes_only acts step gives read batch (settled + 1)
      cause first last outside.clock outside.later
  pub may_fail : IsCallFault cause
  pub represented : PreservesRepresentedBases meets_disk_assumption represents first last
  pub unwritten : outside.new ≡ outside.old

-- The row has an answer and is decided, but writing its line failed (`LineWriteFailsWith`), and the
-- batch ended with `fault`: a prefix of the line was written, perhaps all of it, or nothing.
pub record RowLineWriteFails {D S X C : Type 0} (meets_disk_assumption : D → Type 0) (represents : D → S → Type 0)
    (crash_exposes_only : D → S → S → Type 0) (acts : RowCallRelation D X) (step : RowStep S X) (gives : C → ℕ → C → Type 0)
    (read : ReadResult X) (batch : Text) (settled : ℕ) (first last : D) (outside : ClockAndWriterChange C) (fault : BatchFault) : Type 0 where
  pub answer : Answer
  pub given : RowHasAnswer meets_disk_assumption (RepresentsDurably represents crash_exposes_only) acts step gives read batch (settled + 1)
      answer first last outside.clock outside.later
  pub kind : FaultKind
  pub is : fault ≡ record { rows = settled + 1; kind = kind }
  pub part : LineWriteFailsWith outside.old outside.new (answer_line (settled + 1) answer) kind

-- The batch ended with `fault` at its next row: it was not decided, or writing its line failed.
abbrev pub RowEndsBatchWith : {D S X C : Type 0} → (D → Type 0) → (D → S → Type 0) → (D → S → S → Type 0) → RowCallRelation D X → RowStep S X
    → (C → ℕ → C → Type 0) → ReadResult X → Text → ℕ → D → D → ClockAndWriterChange C → BatchFault → Type 0
RowEndsBatchWith meets_disk_assumption represents crash_exposes_only acts step gives read batch settled first last outside fault =
    RowIsNotDecided meets_disk_assumption represents crash_exposes_only acts step gives read batch settled first last outside fault
    ⊎ RowLineWriteFails meets_disk_assumption represents crash_exposes_only acts step gives read batch settled first last outside fault
