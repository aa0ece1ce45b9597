-- The steps of a batch at the row after its decided rows lead to the next position, or end the
-- batch with its postcondition.
use Rattle.std.proofs.Common.{◌≡◌, ◌+◌, ◌∷◌, [], ℕ, Ok, Err, inl, inr, refl, arith}
use Rattle.std.specs.Prelude.{Option}
use Rattle.std.specs.Io.KnownBytes.{Appends}
use Rattle.csv.specs.declared.reader.Reader.{Reader}
use Rattle.brk_money.specs.Spelling.{Text}
use Rattle.brk_money.specs.declared.fault.Fault.TheVariants.{Memory}
use Rattle.brk_money.specs.declared.refusal.Refusal.TheVariants.{BadText}
use Rattle.brk_model.specs.Answers.{Fields, RowStep}
use Rattle.brk_model.specs.Commands.{Refused}
use Rattle.brk_model.specs.Forms.{ReadResult}
use Rattle.brk_model.specs.Input.{IsEndRecord, IsBatchName, batch_header, correct_end_record}
use Rattle.brk_model.specs.Lines.{answer_line, answer_lines_from}
use Rattle.brk_io.specs.declared.batch_fault.BatchFault.{BatchFault}
use Rattle.brk_io.specs.declared.batch_fault.FaultKind.TheVariants as kinds
use Rattle.brk_model_theorems.specs.RowCalls.{CallsHaveAnswers, calls_of_rows, well_formed_rows_from}
use Rattle.brk_import_engine.specs.Answers.{RepresentsDurably}
use Rattle.brk_import_engine.specs.Batch.{BatchPost}
use Rattle.brk_import_engine.specs.Counts.{counts_with_answer, end_line_with_counts}
use Rattle.brk_import_engine.specs.Parts.{EndRecordFailsWith}
use Rattle.brk_import_engine.specs.RowSteps.{FirstReadEndsBatchWith, NextReadEndsBatchWith, ReadsOneRecord, RowEndsBatchWith, RowIsDecidedAndWritten}
use Rattle.brk_import_engine.specs.Script.{RowCallRelation}
use Rattle.brk_import_engine.specs.declared.counts.Counts.{Counts}
use Rattle.brk_import_engine.proofs.Endings.{answer_failed, answer_left, end_failed, ended_well, failed_asked, no_rows, nothing_read, read_failed, row_cut_off, tell_failed, turns_over, untouched}
use Rattle.brk_import_engine.proofs.Memory.{cut_memory, end_memory, part_memory, read_memory}
use Rattle.brk_import_engine.proofs.Progress.{HasDecidedRows, IsReaderAfterRecords, told_more}
use Rattle.brk_import_engine.proofs.Reached.{BatchPosition, BatchStart, HasReachedPosition, comes, comes_answered, comes_at_once, position_after_row}
use Rattle.brk_import_engine.proofs.Reached.{position_with_base, progress_of, reached_more, start_with_base, tells_fault}

module _ {D S X C R : Type 0} (meets_disk_assumption : D → Type 0) (represents : D → S → Type 0) (crash_exposes_only : D → S → S → Type 0) (acts : RowCallRelation D X) (form : Fields → ReadResult X)
    (step : RowStep S X) (gives : C → ℕ → C → Type 0) (rem : R → Option Text) where
  -- no first row was read
  pub first_row_ended : (desk : D) (name : Text) (clock : C) (old : Option Text) (reader : Reader R) (fault : BatchFault) (text : Option Text) → IsBatchName name
      → FirstReadEndsBatchWith rem reader fault → IsReaderAfterRecords rem text (batch_header name ∷ []) reader
      → BatchPost meets_disk_assumption represents crash_exposes_only acts form step gives text desk desk (record { clock = clock; later = clock; old = old; new = old }) (Err fault)
  first_row_ended desk name clock old reader fault text named (inl none) h =
      rw none.0 (comes_at_once meets_disk_assumption represents crash_exposes_only acts form step gives desk text clock old old (Err (record { rows = 0; kind = kinds.NoEnd })) tt
      (λ T other base. no_rows form other gives text name base clock old named (none.1 text (batch_header name ∷ []) h)))
  first_row_ended desk name clock old reader fault text named (inr failed) h =
      rw failed.1 (comes_at_once meets_disk_assumption represents crash_exposes_only acts form step gives desk text clock old old
      (Err (record { rows = 0; kind = failed.0 })) (read_memory failed.0 failed.2)
      (λ T other base. nothing_read form other gives text (record { base = base; after = base; clock = clock; later = clock; old = old; new = old }) failed.0 (untouched base clock old) failed.2))

  module _ (first : D) (head : BatchStart C R) (desk : D) (place : BatchPosition C R)
      (r : HasReachedPosition meets_disk_assumption (RepresentsDurably represents crash_exposes_only) acts form step gives rem first head desk place)
      (mid : Option Text) (wrote : Appends head.old mid (answer_lines_from 1 r.answers)) where
    abbrev decided : {T : Type 0} (other : RowStep T X) (base after : T)
        → CallsHaveAnswers other base (calls_of_rows head.name r.answered.moments (well_formed_rows_from form 1 r.rows)) r.answered.replies after
        → HasDecidedRows form other gives rem (start_with_base head base) (position_with_base place after)
    decided other base after turns = progress_of meets_disk_assumption (RepresentsDurably represents crash_exposes_only) acts form step gives rem first head desk place r other base after turns

    -- the end record is correct, and the end line was written
    pub end_line_written : (new text : Option Text) → place.row ≡ correct_end_record place.settled → Appends mid new (end_line_with_counts place.counts)
        → IsReaderAfterRecords rem text (batch_header head.name ∷ []) head.reader
        → BatchPost meets_disk_assumption represents crash_exposes_only acts form step gives text first desk
        (record { clock = head.clock; later = place.later; old = head.old; new = new }) (Ok place.counts)
    end_line_written new text right last h =
        comes_answered meets_disk_assumption represents crash_exposes_only acts form step gives rem first head desk place r text head.old new (Ok place.counts) tt (λ T other base after turns.
        ended_well form other gives rem (start_with_base head base) (position_with_base place after) mid new text (decided other base after turns) wrote right last h)

    -- the end record is wrong, or the end line was not written
    pub end_record_failed : (new text : Option Text) (fault : BatchFault) → fault.rows ≡ place.settled → IsEndRecord place.row
        → EndRecordFailsWith mid new place.row place.settled place.counts fault.kind → IsReaderAfterRecords rem text (batch_header head.name ∷ []) head.reader
        → BatchPost meets_disk_assumption represents crash_exposes_only acts form step gives text first desk (record { clock = head.clock; later = place.later; old = head.old; new = new }) (Err fault)
    end_record_failed new text fault rows ends part h =
        comes_answered meets_disk_assumption represents crash_exposes_only acts form step gives rem first head desk place r text head.old new (Err fault)
        (end_memory mid new place.row place.settled place.counts fault.kind part)
        (λ T other base after turns.
        rw rows (end_failed form other gives rem (start_with_base head base) (position_with_base place after) mid new text (decided other base after turns) fault.kind wrote ends part h))

    -- as many rows are decided as the loop has turns
    pub no_turn_left : (text : Option Text) (count : ℕ) → count ≡ place.settled → IsReaderAfterRecords rem text (batch_header head.name ∷ []) head.reader
        → BatchPost meets_disk_assumption represents crash_exposes_only acts form step gives text first desk
        (record { clock = head.clock; later = place.later; old = head.old; new = mid }) (Err (record { rows = count; kind = kinds.Desk Memory }))
    no_turn_left text count all h =
        comes_answered meets_disk_assumption represents crash_exposes_only acts form step gives rem first head desk place r text head.old mid
        (Err (record { rows = count; kind = kinds.Desk Memory })) refl (λ T other base after turns.
        turns_over form other gives rem (start_with_base head base) (position_with_base place after) mid text count all (decided other base after turns) wrote h)

    -- no record after the row was read
    pub next_record_ended : (new : Option Text) (fault : BatchFault) (text : Option Text) → ¬ (IsEndRecord place.row) → NextReadEndsBatchWith rem place.reader place.settled mid new fault
        → IsReaderAfterRecords rem text (batch_header head.name ∷ []) head.reader
        → BatchPost meets_disk_assumption represents crash_exposes_only acts form step gives text first desk (record { clock = head.clock; later = place.later; old = head.old; new = new }) (Err fault)
    next_record_ended new fault text row_only (inl failed) h =
        rw (failed.1, failed.3)
        (comes_answered meets_disk_assumption represents crash_exposes_only acts form step gives rem first head desk place r text head.old mid
        (Err (record { rows = place.settled; kind = failed.0 }))
        (read_memory failed.0 failed.2) (λ T other base after turns.
        read_failed form other gives rem (start_with_base head base) (position_with_base place after) mid text
        (decided other base after turns) failed.0 wrote failed.2 h))
    next_record_ended new fault text row_only (inr cut) h =
        rw cut.1 (comes_answered meets_disk_assumption represents crash_exposes_only acts form step gives rem first head desk place r text head.old new
        (Err (record { rows = place.settled + 1; kind = cut.0 }))
        (cut_memory mid new (answer_line (place.settled + 1) (Refused BadText)) cut.0 cut.3) (λ T other base after turns.
        row_cut_off form other gives rem (start_with_base head base) (position_with_base place after) mid new text
        (decided other base after turns) cut.0 wrote row_only cut.3 cut.2 h))

    module _ (next : Fields) (reader : Reader R) (last : D) (later : C) (new : Option Text) (row_only : ¬ (IsEndRecord place.row)) (earlier : meets_disk_assumption last → meets_disk_assumption desk)
        (read : ReadsOneRecord rem place.reader reader next) where
      -- the row is decided: the batch is at the next position, and all lines were written
      pub row_decided : (counts : Counts)
          → RowIsDecidedAndWritten meets_disk_assumption represents crash_exposes_only acts step gives (form place.row) head.name place.settled desk last
          (record { clock = place.later; later = later; old = mid; new = new }) place.counts counts
          → (q : HasReachedPosition meets_disk_assumption (RepresentsDurably represents crash_exposes_only) acts form step gives rem first head last
          (position_after_row place counts next later reader))
          × Appends head.old new (answer_lines_from 1 q.answers)
      row_decided counts row =
          let more = reached_more meets_disk_assumption (RepresentsDurably represents crash_exposes_only) acts form step gives rem first head desk place
          row.answer counts next last later reader r row_only row.counted earlier row.given read in
          (more.0, told_more head.old mid new r.answers more.0.answers row.answer (place.settled + 1) wrote row.written (omega (arith, r.size, r.each)) more.1)

      -- the row, or its line, ended the batch
      pub row_ended : (fault : BatchFault) (text : Option Text)
          → RowEndsBatchWith meets_disk_assumption represents crash_exposes_only acts step gives (form place.row) head.name place.settled desk last
          (record { clock = place.later; later = later; old = mid; new = new }) fault
          → IsReaderAfterRecords rem text (batch_header head.name ∷ []) head.reader
          → BatchPost meets_disk_assumption represents crash_exposes_only acts form step gives text first last (record { clock = head.clock; later = later; old = head.old; new = new }) (Err fault)
      row_ended fault text (inl row) h =
          let asked = failed_asked meets_disk_assumption represents crash_exposes_only acts step gives (form place.row) head.name (place.settled + 1) row.cause
          desk last place.later later row.failed in
          rw (row.is, row.unwritten)
          (comes meets_disk_assumption represents crash_exposes_only acts form step gives rem first head desk place r last text
          (record { clock = head.clock; later = later; old = head.old; new = mid })
          (Err (record { rows = place.settled; kind = kinds.Desk row.cause })) earlier row.represented (λ T other base after turns.
          answer_failed form other gives rem (start_with_base head base) (position_with_base place after) later mid text
          (decided other base after turns) row.cause wrote asked row.may_fail h)
          (tells_fault meets_disk_assumption represents crash_exposes_only acts form step gives rem first head desk place r text mid later last next reader
          row.cause row.failed row.may_fail wrote read h (λ T other base after turns.
          answer_failed form other gives rem (start_with_base head base) (position_with_base place after) later mid text
          (decided other base after turns) row.cause wrote asked row.may_fail h))
          (λ good base after turns stood alone.
          answer_left meets_disk_assumption represents crash_exposes_only acts form step gives rem (start_with_base head base) (position_with_base place after) later mid text
          (decided step base after turns) next reader row.cause desk last row.failed row.may_fail wrote read h
          good stood alone))
      row_ended fault text (inr row) h =
          let counts : Counts = counts_with_answer place.counts row.answer in
          let more = reached_more meets_disk_assumption (RepresentsDurably represents crash_exposes_only) acts form step gives rem first head desk place
          row.answer counts next last later reader r row_only refl earlier row.given read in
          let at : BatchPosition C R = position_after_row place counts next later reader in
          rw row.is (comes_answered meets_disk_assumption represents crash_exposes_only acts form step gives rem first head last at more.0 text head.old new
          (Err (record { rows = place.settled + 1; kind = row.kind }))
          (part_memory mid new (answer_line (place.settled + 1) row.answer) row.kind row.part) (λ T other base after turns.
          tell_failed form other gives rem (start_with_base head base) (position_with_base at after) mid new text
          (progress_of meets_disk_assumption (RepresentsDurably represents crash_exposes_only) acts form step gives rem first head last at more.0 other base
          after turns) r.answers row.answer row.kind more.1 wrote row.part h))
