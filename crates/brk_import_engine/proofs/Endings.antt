-- The endings of a batch.
use Rattle.std.proofs.Common.{◌≡◌, ◌+◌, ◌⊎◌, ◌++◌, ◌∷◌, [], ℕ, List, sym, ap, ◌∙◌, refl, length, arith, inl, inr, subst}
use Rattle.std.specs.Prelude.{Option, Ok, Err}
use Rattle.std.specs.Io.KnownBytes.{Appends}
use Rattle.std.proofs.KnownBytes.{Appends-nil, Appends-trans}
use Rattle.std.proofs.lemmas.List.{append-nil, length-append}
use Rattle.csv.specs.declared.reader.Reader.{Reader}
use Rattle.csv.specs.Reading.{source_of}
use Rattle.brk_money.specs.Spelling.{Text}
use Rattle.brk_money.specs.declared.fault.Fault.{Fault}
use Rattle.brk_money.specs.declared.fault.Fault.TheVariants.{Memory}
use Rattle.brk_money.specs.declared.refusal.Refusal.TheVariants.{BadText}
use Rattle.brk_model.specs.Answers.{Fields, RowStep}
use Rattle.brk_model.specs.Commands.{Answer, Refused}
use Rattle.brk_model.specs.Forms.{ReadResult}
use Rattle.brk_model.specs.Input.{HasExactlyRecords, BeginsWithRecords, IsEndRecord, IsBatchName, correct_end_record, batch_header}
use Rattle.brk_model.specs.Lines.{answer_line, batch_end_line, answer_lines_from}
use Rattle.brk_model.specs.Run.{IsCallFault}
use Rattle.brk_import_engine.specs.Answers.{RowFailsWith}
use Rattle.brk_import_engine.specs.Batch.{IsBatchResult, BeginsWithWholeBatch, DeskFaultEndsBatchAtNextRow, BatchFailsWith, BoundsBatchCrashStates, BatchProgress}
use Rattle.brk_import_engine.specs.Script.{RowCallRelation}
use Rattle.brk_io.specs.Span.{IsUnchangedEnvironment, EnvironmentChange}
use Rattle.brk_import_engine.specs.Counts.{end_line_with_counts}
use Rattle.brk_io.specs.Moments.{ReadsClockAtMostOnce}
use Rattle.brk_import_engine.specs.Parts.{LastRowEndsBatchWith, EndRecordFailsWith, HeaderReadFailsWith, LineWriteFailsWith}
use Rattle.brk_import_engine.specs.declared.counts.Counts.{Counts}
use Rattle.brk_io.specs.declared.batch_fault.FaultKind.{FaultKind}
use Rattle.brk_io.specs.declared.batch_fault.FaultKind.TheVariants as kinds
use Rattle.brk_import_engine.proofs.Progress.{BatchPositionWithBase, HasDecidedRows, BatchStartWithBase, IsReaderAfterRecords, counts_whole}
use Rattle.brk_import_engine.proofs.Pushes.{lines_push}
use Rattle.brk_import_engine.proofs.Reading.{begins_front, begins_more, begins_of}

-- The change from the start of a batch to a position, with the clock and the writer's content after
-- it.
abbrev pub change_from_start : {S C R : Type 0} → BatchStartWithBase S C R → BatchPositionWithBase S C R → C → Option Text → EnvironmentChange S C
change_from_start start now later new = record { base = start.base; after = now.after; clock = start.clock; later = later; old = start.old; new = new }

pub begins_at : {R : Type 0} (rem : R → Option Text) (text : Option Text) (records : List Fields) (reader : Reader R) → IsReaderAfterRecords rem text records reader → BeginsWithRecords text records
begins_at rem text records reader h = begins_of text records reader.state (source_of rem reader) h

-- the rows that were decided, with their answers
abbrev pub stopped_of : {S X C R : Type 0} (form : Fields → ReadResult X) (step : RowStep S X) (gives : C → ℕ → C → Type 0) (rem : R → Option Text)
    (start : BatchStartWithBase S C R) (now : BatchPositionWithBase S C R) (later : C) (new : Option Text) (text : Option Text) → HasDecidedRows form step gives rem start now
    → IsReaderAfterRecords rem text (batch_header start.name ∷ []) start.reader → BatchProgress form step gives text (change_from_start start now later new) now.settled
stopped_of form step gives rem start now later new text p h = record {
  name = start.name;
  rows = p.rows;
  answers = p.answers;
  told = p.answers;
  moments = p.moments;
  mid = now.later;
  taken = p.taken;
  settled = p.settled;
  begins = begins_front text (batch_header start.name ∷ p.rows) (now.row ∷ []) (begins_at rem text _ now.reader (p.stands text h));
  next = λ some. (now.row, begins_at rem text _ now.reader (p.stands text h));
  counted = sym p.size ∙ sym p.settled.each;
}

-- the record that was read is the right end record
ends_right : {S X C R : Type 0} (form : Fields → ReadResult X) (step : RowStep S X) (gives : C → ℕ → C → Type 0) (rem : R → Option Text)
    (start : BatchStartWithBase S C R) (now : BatchPositionWithBase S C R) (text : Option Text) (p : HasDecidedRows form step gives rem start now) → now.row ≡ correct_end_record now.settled
    → IsReaderAfterRecords rem text (batch_header start.name ∷ []) start.reader → BeginsWithWholeBatch text start.name p.rows
ends_right form step gives rem start now text p right h =
    let e : now.row ≡ correct_end_record (length p.rows) = right ∙ ap correct_end_record (sym p.size) in
    rw e at (begins_at rem text _ now.reader (p.stands text h))

-- the batch ended with its right end record
pub ended_well : {S X C R : Type 0} (form : Fields → ReadResult X) (step : RowStep S X) (gives : C → ℕ → C → Type 0) (rem : R → Option Text)
    (start : BatchStartWithBase S C R) (now : BatchPositionWithBase S C R) (mid new : Option Text) (text : Option Text) (p : HasDecidedRows form step gives rem start now)
    → Appends start.old mid (answer_lines_from 1 p.answers) → now.row ≡ correct_end_record now.settled → Appends mid new (end_line_with_counts now.counts)
    → IsReaderAfterRecords rem text (batch_header start.name ∷ []) start.reader → IsBatchResult form step gives text (change_from_start start now now.later new) (Ok now.counts)
ended_well form step gives rem start now mid new text p wrote right last h = (
  record {
    moments = p.moments;
    lines = answer_lines_from 1 p.answers ++ batch_end_line p.answers;
    taken = p.taken;
    answered = record {
      name = start.name;
      rows = p.rows;
      answers = p.answers;
      told = p.answers;
      settled = p.settled;
      ends = (ends_right form step gives rem start now text p right h, refl, refl);
      counted = ap (λ (c : Counts). c.ok + c.again + c.no) p.counts ∙ counts_whole p.answers;
    };
    written = Appends-trans _ _ _ _ _ wrote (rw p.counts at last);
  },
  p.counts,
)

-- the end record is wrong, or was not answered
pub end_failed : {S X C R : Type 0} (form : Fields → ReadResult X) (step : RowStep S X) (gives : C → ℕ → C → Type 0) (rem : R → Option Text)
    (start : BatchStartWithBase S C R) (now : BatchPositionWithBase S C R) (mid new : Option Text) (text : Option Text) (p : HasDecidedRows form step gives rem start now) (kind : FaultKind)
    → Appends start.old mid (answer_lines_from 1 p.answers) → IsEndRecord now.row → EndRecordFailsWith mid new now.row now.settled now.counts kind
    → IsReaderAfterRecords rem text (batch_header start.name ∷ []) start.reader → BatchFailsWith form step gives text (change_from_start start now now.later new) now.settled kind
end_failed form step gives rem start now mid new text p kinds.BadEnd wrote ends part h = record {
  moments = p.moments;
  lines = answer_lines_from 1 p.answers;
  taken = p.taken;
  answered = record {
    name = start.name;
    rows = p.rows;
    answers = p.answers;
    told = p.answers;
    settled = p.settled;
    ends = ((now.row, ends, (λ e. part.0 (e ∙ ap correct_end_record p.size)), begins_at rem text _ now.reader (p.stands text h)), refl, refl);
    counted = sym p.size ∙ sym p.settled.each;
  };
  written = rw append-nil at (Appends-trans _ _ _ _ _ wrote part.1);
}
end_failed form step gives rem start now mid new text p kinds.Write wrote ends part h = (
  stopped_of form step gives rem start now now.later new text p h,
  refl,
  inr (refl, ends_right form step gives rem start now text p part.0 h, (part.1.0, Appends-trans _ _ _ _ _ wrote (rw p.counts at part.1.1))),
)
end_failed form step gives rem start now mid new text p (kinds.Desk f) wrote ends part h =
    inr (inr (stopped_of form step gives rem start now now.later new text p h, refl, part.0, inl refl, inl (rw append-nil at (Appends-trans _ _ _ _ _ wrote part.1))))
end_failed form step gives rem start now mid new text p kinds.Read wrote ends part h = absurd part
end_failed form step gives rem start now mid new text p kinds.BadHeader wrote ends part h = absurd part
end_failed form step gives rem start now mid new text p kinds.NoEnd wrote ends part h = absurd part

-- the next record was not read
pub read_failed : {S X C R : Type 0} (form : Fields → ReadResult X) (step : RowStep S X) (gives : C → ℕ → C → Type 0) (rem : R → Option Text)
    (start : BatchStartWithBase S C R) (now : BatchPositionWithBase S C R) (new : Option Text) (text : Option Text) (p : HasDecidedRows form step gives rem start now) (kind : FaultKind)
    → Appends start.old new (answer_lines_from 1 p.answers) → (kind ≡ kinds.Read) ⊎ (kind ≡ kinds.Desk Memory)
    → IsReaderAfterRecords rem text (batch_header start.name ∷ []) start.reader → BatchFailsWith form step gives text (change_from_start start now now.later new) now.settled kind
read_failed form step gives rem start now new text p kind wrote (inl e) h =
    rw e (inr (stopped_of form step gives rem start now now.later new text p h, refl, refl, wrote))
read_failed form step gives rem start now new text p kind wrote (inr e) h =
    rw e (inr (inr (stopped_of form step gives rem start now now.later new text p h, refl, refl, inl refl, inl wrote)))

-- no call was made and nothing written yet
pub untouched : {S C : Type 0} (base : S) (clock : C) (old : Option Text) → IsUnchangedEnvironment (record { base = base; after = base; clock = clock; later = clock; old = old; new = old })
untouched base clock old = record { base = refl; clock = refl; written = Appends-nil old }

-- the first row or the header was not read
pub nothing_read : {S X C : Type 0} (form : Fields → ReadResult X) (step : RowStep S X) (gives : C → ℕ → C → Type 0) (text : Option Text)
    (span : EnvironmentChange S C) (kind : FaultKind) → IsUnchangedEnvironment span → (kind ≡ kinds.Read) ⊎ (kind ≡ kinds.Desk Memory) → BatchFailsWith form step gives text span 0 kind
nothing_read form step gives text span kind u (inl e) = rw e (inl (refl, u))
nothing_read form step gives text span kind u (inr e) = rw e (inl (refl, refl, u))

-- the header was not read, or is none
pub header_failed : {S X C : Type 0} (form : Fields → ReadResult X) (step : RowStep S X) (gives : C → ℕ → C → Type 0) (text : Option Text)
    (base : S) (clock : C) (old : Option Text) (kind : FaultKind) → HeaderReadFailsWith text kind
    → BatchFailsWith form step gives text (record { base = base; after = base; clock = clock; later = clock; old = old; new = old }) 0 kind
header_failed form step gives text base clock old kinds.BadHeader h =
    (untouched base clock old, record { headless = h; ending = refl; asked = refl; unchanged = refl; told = refl; counted = refl })
header_failed form step gives text base clock old kinds.Read h = inl (refl, untouched base clock old)
header_failed form step gives text base clock old (kinds.Desk f) h = inl (h, refl, untouched base clock old)
header_failed form step gives text base clock old kinds.Write h = absurd h
header_failed form step gives text base clock old kinds.NoEnd h = absurd h
header_failed form step gives text base clock old kinds.BadEnd h = absurd h

-- the row was not answered
pub answer_failed : {S X C R : Type 0} (form : Fields → ReadResult X) (step : RowStep S X) (gives : C → ℕ → C → Type 0) (rem : R → Option Text)
    (start : BatchStartWithBase S C R) (now : BatchPositionWithBase S C R) (later : C) (new : Option Text) (text : Option Text) (p : HasDecidedRows form step gives rem start now) (f : Fault)
    → Appends start.old new (answer_lines_from 1 p.answers) → ReadsClockAtMostOnce gives now.later later → IsCallFault f
    → IsReaderAfterRecords rem text (batch_header start.name ∷ []) start.reader → BatchFailsWith form step gives text (change_from_start start now later new) now.settled (kinds.Desk f)
answer_failed form step gives rem start now later new text p f wrote asked may h =
    inr (inl (stopped_of form step gives rem start now later new text p h, asked, may, refl, wrote))

-- the clock was asked at most once for it
pub failed_asked : {D S X C : Type 0} (meets_disk_assumption : D → Type 0) (represents : D → S → Type 0) (crash_exposes_only : D → S → S → Type 0)
    (acts : RowCallRelation D X) (step : RowStep S X) (gives : C → ℕ → C → Type 0)
    (read : ReadResult X) (batch : Text) (n : ℕ) (f : Fault) (old new : D) (clock later : C)
    → RowFailsWith meets_disk_assumption represents crash_exposes_only acts step gives read batch n f old new clock later → ReadsClockAtMostOnce gives clock later
failed_asked meets_disk_assumption represents crash_exposes_only acts step gives read batch n f old new clock later (inl same) = inl same.1
failed_asked meets_disk_assumption represents crash_exposes_only acts step gives read batch n f old new clock later (inr way) = inr (way.0, way.3)

-- its call failed, after the record after it had been read
abbrev pub failed_row : {S X C R : Type 0} (form : Fields → ReadResult X) (step : RowStep S X) (gives : C → ℕ → C → Type 0) (rem : R → Option Text)
    (start : BatchStartWithBase S C R) (now : BatchPositionWithBase S C R) (later : C) (new : Option Text) (text : Option Text)
    (p : HasDecidedRows form step gives rem start now) (next : Fields) (reader : Reader R) (f : Fault)
    (moment : ℕ) (command : X) → form now.row ≡ Ok command → gives now.later moment later → IsCallFault f → Appends start.old new (answer_lines_from 1 p.answers)
    → ((text : Option Text) (before : List Fields) → IsReaderAfterRecords rem text before now.reader → IsReaderAfterRecords rem text (before ++ (next ∷ [])) reader)
    → IsReaderAfterRecords rem text (batch_header start.name ∷ []) start.reader
    → DeskFaultEndsBatchAtNextRow form step gives text (change_from_start start now later new) (record { rows = now.settled; kind = kinds.Desk f })
failed_row form step gives rem start now later new text p next reader f moment command formed given may wrote found h = record {
  cause = f;
  kind = refl;
  may_fail = may;
  stopped = stopped_of form step gives rem start now later new text p h;
  told = refl;
  written = wrote;
  row = now.row;
  next = next;
  begins = begins_more text start.name p.rows now.row next (begins_at rem text _ reader (found text _ (p.stands text h)));
  command = command;
  formed = formed;
  moment = moment;
  given = given;
}

-- the states that a crash exposes then
pub answer_left : {D S X C R : Type 0} (meets_disk_assumption : D → Type 0) (represents : D → S → Type 0) (crash_exposes_only : D → S → S → Type 0) (acts : RowCallRelation D X)
    (form : Fields → ReadResult X) (step : RowStep S X) (gives : C → ℕ → C → Type 0) (rem : R → Option Text)
    (start : BatchStartWithBase S C R) (now : BatchPositionWithBase S C R) (later : C) (new : Option Text) (text : Option Text)
    (p : HasDecidedRows form step gives rem start now) (next : Fields) (reader : Reader R) (f : Fault) (desk last : D)
    → RowFailsWith meets_disk_assumption represents crash_exposes_only acts step gives (form now.row) start.name (now.settled + 1) f desk last now.later later
    → IsCallFault f → Appends start.old new (answer_lines_from 1 p.answers)
    → ((text : Option Text) (before : List Fields) → IsReaderAfterRecords rem text before now.reader → IsReaderAfterRecords rem text (before ++ (next ∷ [])) reader)
    → IsReaderAfterRecords rem text (batch_header start.name ∷ []) start.reader → meets_disk_assumption last → represents desk now.after → crash_exposes_only desk now.after now.after
    → BoundsBatchCrashStates form step gives crash_exposes_only text (change_from_start start now later new) last (Err (record { rows = now.settled; kind = kinds.Desk f }))
answer_left meets_disk_assumption represents crash_exposes_only acts form step gives rem start now later new text p next reader f desk last (inl same) may wrote found h good stood alone =
    inl (subst (λ d. crash_exposes_only d now.after now.after) (sym same.0) alone)
answer_left meets_disk_assumption represents crash_exposes_only acts form step gives rem start now later new text p next reader f desk last (inr way) may wrote found h good stood alone = inr (record {
  failed = failed_row form step gives rem start now later new text p next reader f way.0 way.1 way.2 way.3 may wrote found h;
  may = way.5 good now.after stood alone;
})

-- the line of the row that was answered last was not written
pub tell_failed : {S X C R : Type 0} (form : Fields → ReadResult X) (step : RowStep S X) (gives : C → ℕ → C → Type 0) (rem : R → Option Text)
    (start : BatchStartWithBase S C R) (now : BatchPositionWithBase S C R) (mid new : Option Text) (text : Option Text) (p : HasDecidedRows form step gives rem start now)
    (front : List Answer) (answer : Answer) (kind : FaultKind)
    → p.answers ≡ front ++ (answer ∷ []) → Appends start.old mid (answer_lines_from 1 front) → LineWriteFailsWith mid new (answer_line now.settled answer) kind
    → IsReaderAfterRecords rem text (batch_header start.name ∷ []) start.reader → BatchFailsWith form step gives text (change_from_start start now now.later new) now.settled kind
tell_failed form step gives rem start now mid new text p front answer kinds.Write split wrote part h =
    let many : now.settled ≡ length p.answers = sym p.size ∙ sym p.settled.each in (
      stopped_of form step gives rem start now now.later new text p h,
      refl,
      inl (inl refl, (front, answer, part.0, split, Appends-trans _ _ _ _ _ wrote (rw many at part.1))),
    )
tell_failed form step gives rem start now mid new text p front answer (kinds.Desk f) split wrote part h =
    inr (inr (
      stopped_of form step gives rem start now now.later new text p h,
      refl,
      part.0,
      inl refl,
      inr (front, answer, split, rw append-nil at (Appends-trans _ _ _ _ _ wrote part.1)),
    ))
tell_failed form step gives rem start now mid new text p front answer kinds.Read split wrote part h = absurd part
tell_failed form step gives rem start now mid new text p front answer kinds.BadHeader split wrote part h = absurd part
tell_failed form step gives rem start now mid new text p front answer kinds.NoEnd split wrote part h = absurd part
tell_failed form step gives rem start now mid new text p front answer kinds.BadEnd split wrote part h = absurd part

-- the rows that were decided, with the refusal of the row that has no record after it
abbrev pub cut_stopped : {S X C R : Type 0} (form : Fields → ReadResult X) (step : RowStep S X) (gives : C → ℕ → C → Type 0) (rem : R → Option Text)
    (start : BatchStartWithBase S C R) (now : BatchPositionWithBase S C R) (new : Option Text) (text : Option Text) → HasDecidedRows form step gives rem start now
    → IsReaderAfterRecords rem text (batch_header start.name ∷ []) start.reader → BatchProgress form step gives text (change_from_start start now now.later new) (now.settled + 1)
cut_stopped form step gives rem start now new text p h = record {
  name = start.name;
  rows = p.rows;
  answers = p.answers;
  told = p.answers ++ (Refused BadText ∷ []);
  moments = p.moments;
  mid = now.later;
  taken = p.taken;
  settled = p.settled;
  begins = begins_front text (batch_header start.name ∷ p.rows) (now.row ∷ []) (begins_at rem text _ now.reader (p.stands text h));
  next = λ some. (now.row, begins_at rem text _ now.reader (p.stands text h));
  counted = ap (λ (n : ℕ). n + 1) (sym p.size ∙ sym p.settled.each) ∙ sym (length-append p.answers (Refused BadText ∷ []));
}

-- the row has no record after it
pub row_cut_off : {S X C R : Type 0} (form : Fields → ReadResult X) (step : RowStep S X) (gives : C → ℕ → C → Type 0) (rem : R → Option Text)
    (start : BatchStartWithBase S C R) (now : BatchPositionWithBase S C R) (mid new : Option Text) (text : Option Text) (p : HasDecidedRows form step gives rem start now) (kind : FaultKind)
    → Appends start.old mid (answer_lines_from 1 p.answers) → ¬ (IsEndRecord now.row) → LastRowEndsBatchWith mid new (answer_line (now.settled + 1) (Refused BadText)) kind
    → ((text : Option Text) (before : List Fields) → IsReaderAfterRecords rem text before now.reader → HasExactlyRecords text before)
    → IsReaderAfterRecords rem text (batch_header start.name ∷ []) start.reader → BatchFailsWith form step gives text (change_from_start start now now.later new) (now.settled + 1) kind
row_cut_off form step gives rem start now mid new text p kinds.NoEnd wrote other part all h =
    let place : now.settled + 1 ≡ 1 + length p.answers = omega (arith, p.size, p.settled.each) in
    record {
      moments = p.moments;
      lines = answer_lines_from 1 (p.answers ++ (Refused BadText ∷ []));
      taken = p.taken;
      answered = record {
        name = start.name;
        rows = p.rows;
        answers = p.answers;
        told = p.answers ++ (Refused BadText ∷ []);
        settled = p.settled;
        ends = (inr (now.row, other, all text _ (p.stands text h), refl), refl);
        counted = (cut_stopped form step gives rem start now new text p h).counted;
      };
      written = rw (lines_push 1 p.answers (Refused BadText)) (Appends-trans _ _ _ _ _ wrote (rw place at part));
    }
row_cut_off form step gives rem start now mid new text p kinds.Write wrote other part all h =
    let place : now.settled + 1 ≡ length (p.answers ++ (Refused BadText ∷ [])) = (cut_stopped form step gives rem start now new text p h).counted in (
      cut_stopped form step gives rem start now new text p h,
      refl,
      inl (inr (inr (now.row, other, all text _ (p.stands text h), refl)), (p.answers, Refused BadText, part.0, refl, Appends-trans _ _ _ _ _ wrote (rw place at part.1))),
    )
row_cut_off form step gives rem start now mid new text p (kinds.Desk f) wrote other part all h =
    inr (inr (
      cut_stopped form step gives rem start now new text p h,
      refl,
      part.0,
      inr (inr (now.row, other, all text _ (p.stands text h), refl)),
      inr (p.answers, Refused BadText, refl, rw append-nil at (Appends-trans _ _ _ _ _ wrote part.1)),
    ))
row_cut_off form step gives rem start now mid new text p kinds.Read wrote other part all h = absurd part
row_cut_off form step gives rem start now mid new text p kinds.BadHeader wrote other part all h = absurd part
row_cut_off form step gives rem start now mid new text p kinds.BadEnd wrote other part all h = absurd part

-- the input ends after its header
pub no_rows : {S X C : Type 0} (form : Fields → ReadResult X) (step : RowStep S X) (gives : C → ℕ → C → Type 0) (text : Option Text)
    (name : Text) (base : S) (clock : C) (old : Option Text) → IsBatchName name → HasExactlyRecords text (batch_header name ∷ [])
    → BatchFailsWith form step gives text (record { base = base; after = base; clock = clock; later = clock; old = old; new = old }) 0 kinds.NoEnd
no_rows form step gives text name base clock old named all = record {
  moments = [];
  lines = [];
  taken = refl;
  answered = record {
    name = name;
    rows = [];
    answers = [];
    told = [];
    settled = record {
      named = named;
      rows_only = tt;
      answered = refl;
      each = refl;
    };
    ends = (inl (refl, all, refl), refl);
    counted = refl;
  };
  written = Appends-nil old;
}

-- the loop ran out of turns
pub turns_over : {S X C R : Type 0} (form : Fields → ReadResult X) (step : RowStep S X) (gives : C → ℕ → C → Type 0) (rem : R → Option Text)
    (start : BatchStartWithBase S C R) (now : BatchPositionWithBase S C R) (new : Option Text) (text : Option Text) (count : ℕ) → count ≡ now.settled
    → (p : HasDecidedRows form step gives rem start now) → Appends start.old new (answer_lines_from 1 p.answers)
    → IsReaderAfterRecords rem text (batch_header start.name ∷ []) start.reader → BatchFailsWith form step gives text (change_from_start start now now.later new) count (kinds.Desk Memory)
turns_over form step gives rem start now new text count e p wrote h = rw e (read_failed form step gives rem start now new text p (kinds.Desk Memory) wrote (inr refl) h)
