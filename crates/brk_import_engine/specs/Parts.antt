-- The output of one failed step of a batch, for each fault.
--
-- Parameters: `old` and `new`, the writer's content before and after the step. A condition that
-- bytes were written (`Appends`) is vacuous if `old` is `None`: the content is unknown.
use Rattle.std.specs.Prelude.{◌≡◌, [], ℕ, Option, take}
use Rattle.std.specs.Io.KnownBytes.{Appends}
use Rattle.brk_money.specs.Spelling.{Text}
use Rattle.brk_money.specs.declared.fault.Fault.TheVariants.{Memory}
use Rattle.brk_model.specs.Answers.{Fields}
use Rattle.brk_model.specs.Batch.{HasNoHeader}
use Rattle.brk_model.specs.Input.{correct_end_record}
use Rattle.brk_import_engine.specs.Counts.{end_line_with_counts}
use Rattle.brk_io.specs.declared.batch_fault.FaultKind.{FaultKind}
use Rattle.brk_io.specs.declared.batch_fault.FaultKind.TheVariants as kinds
use Rattle.brk_import_engine.specs.declared.counts.Counts.{Counts}

-- Writing the line `text` failed. `Write`: the writer received a prefix, perhaps all of it. `Desk`:
-- memory ran out, and nothing was written. No other fault is possible.
abbrev pub LineWriteFailsWith : Option Text → Option Text → Text → FaultKind → Type 0
LineWriteFailsWith old new text kinds.Write = (k : ℕ) × Appends old new (take k text)
LineWriteFailsWith old new text (kinds.Desk fault) = (fault ≡ Memory) × Appends old new []
LineWriteFailsWith old new text kinds.Read = ⊥
LineWriteFailsWith old new text kinds.BadHeader = ⊥
LineWriteFailsWith old new text kinds.NoEnd = ⊥
LineWriteFailsWith old new text kinds.BadEnd = ⊥

-- Checking the end record `row` after `n` rows, and writing the end line with `counts`, failed.
-- `BadEnd`: the record is wrong, nothing was written. `Write`: it is correct, and a prefix of the
-- end line was written, perhaps all. `Desk`: memory ran out, nothing was written. No other fault.
abbrev pub EndRecordFailsWith : Option Text → Option Text → Fields → ℕ → Counts → FaultKind → Type 0
EndRecordFailsWith old new row n counts kinds.BadEnd = (row ≡ correct_end_record n → ⊥) × Appends old new []
EndRecordFailsWith old new row n counts kinds.Write = (row ≡ correct_end_record n) × ((k : ℕ) × Appends old new (take k (end_line_with_counts counts)))
EndRecordFailsWith old new row n counts (kinds.Desk fault) = (fault ≡ Memory) × Appends old new []
EndRecordFailsWith old new row n counts kinds.Read = ⊥
EndRecordFailsWith old new row n counts kinds.BadHeader = ⊥
EndRecordFailsWith old new row n counts kinds.NoEnd = ⊥

-- The last row of a text without an end record ended the batch with this fault; `text` is the line
-- of its refusal. `NoEnd`: the line was written. `Write`: the writer received a prefix of the line,
-- perhaps all of it. `Desk`: memory ran out, and nothing was written. No other fault is possible.
abbrev pub LastRowEndsBatchWith : Option Text → Option Text → Text → FaultKind → Type 0
LastRowEndsBatchWith old new text kinds.NoEnd = Appends old new text
LastRowEndsBatchWith old new text kinds.Write = (k : ℕ) × Appends old new (take k text)
LastRowEndsBatchWith old new text (kinds.Desk fault) = (fault ≡ Memory) × Appends old new []
LastRowEndsBatchWith old new text kinds.Read = ⊥
LastRowEndsBatchWith old new text kinds.BadHeader = ⊥
LastRowEndsBatchWith old new text kinds.BadEnd = ⊥

-- Reading the header failed. `BadHeader`: the text has no header (vacuous if it is unknown).
-- `Desk`: the fault is `Memory`. `Read`: nothing is specified of the text. No other fault.
abbrev pub HeaderReadFailsWith : Option Text → FaultKind → Type 0
HeaderReadFailsWith text kinds.BadHeader = HasNoHeader text
HeaderReadFailsWith text kinds.Read = Unit {0}
HeaderReadFailsWith text (kinds.Desk fault) = fault ≡ Memory
HeaderReadFailsWith text kinds.Write = ⊥
HeaderReadFailsWith text kinds.NoEnd = ⊥
HeaderReadFailsWith text kinds.BadEnd = ⊥
