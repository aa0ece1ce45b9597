-- The progress of a batch, whatever its desk represents.
use Rattle.std.proofs.Common.{◌≡◌, ◌+◌, ◌++◌, ◌∷◌, [], ℕ, List, Ok, Err, inl, inr, sym, ap, ◌∙◌, refl, length, arith, map, subst}
use Rattle.std.specs.Prelude.{Bool, true, false, IfErr, Option, Result}
use Rattle.std.specs.Io.KnownBytes.{Appends}
use Rattle.std.specs.List.{AllByRecursion}
use Rattle.std.proofs.lemmas.List.{length-append, map-append}
use Rattle.csv.specs.declared.reader.Reader.{Reader}
use Rattle.brk_money.specs.Spelling.{Text}
use Rattle.brk_model.specs.Answers.{Fields, RowStep}
use Rattle.brk_model_theorems.proofs.RowLaws.{answered-of}
use Rattle.brk_model_theorems.specs.RowCalls.{CallsHaveAnswers, calls_of_rows, well_formed_rows_from}
use Rattle.brk_model.specs.Commands.{Answer}
use Rattle.brk_model.specs.Forms.{ReadResult}
use Rattle.brk_model.specs.Input.{IsEndRecord, IsBatchName, batch_header}
use Rattle.brk_money.specs.declared.fault.Fault.{Fault}
use Rattle.brk_model.specs.Lines.{answer_lines_from}
use Rattle.brk_model.specs.Records.{Key}
use Rattle.brk_model.specs.Run.{Did, Failed, IsCallFault}
use Rattle.brk_import_engine.specs.Answers.{RowHasAnswer, RowFailsWith, PreservesRepresentedBases, RepresentsDurably}
use Rattle.brk_import_engine.specs.Batch.{IsBatchResult, BatchPost, BoundsBatchCrashStates, DeskFaultIsMemory, ChangesOnlyByRowCalls}
use Rattle.brk_import_engine.specs.Script.{RowCallRelation, RowCalls, recording_step}
use Rattle.brk_io.proofs.Calls.{made_then}
use Rattle.brk_io.specs.Moments.{ClockReturnsMomentsInSequence}
use Rattle.brk_io.specs.declared.batch_fault.FaultKind.TheVariants as kinds
use Rattle.brk_io.specs.Span.{ClockAndWriterChange, EnvironmentChange, environment_change_with_bases}
use Rattle.brk_import_engine.specs.Counts.{counts_with_answer, counts_of_answers}
use Rattle.brk_io.specs.declared.batch_fault.BatchFault.{BatchFault}
use Rattle.brk_import_engine.specs.declared.counts.Counts.{Counts}
use Rattle.brk_import_engine.proofs.Progress.{BatchPositionWithBase, HasDecidedRows, BatchStartWithBase, IsReaderAfterRecords, all_push, counts_push}
use Rattle.brk_import_engine.proofs.Endings.{failed_row}
use Rattle.brk_import_engine.proofs.Pushes.{RowsHaveAnswers, answered_push, desk_call_of_row_call, calls_length, calls_taken, moments_push, recorded_turns}

-- The start of a batch after its header: its name, the clock, the writer's content and the reader.
pub record BatchStart (C R : Type 0) : Type 0 where
  pub name : Text
  pub clock : C
  pub old : Option Text
  pub reader : Reader R

-- A position in a batch: the number of decided rows, their counts, the record after them, the clock
-- and the reader.
pub record BatchPosition (C R : Type 0) : Type 0 where
  pub settled : ℕ
  pub counts : Counts
  pub row : Fields
  pub later : C
  pub reader : Reader R

-- The rows before the position `place` are decided, and the desk changed from `first` to `desk`
-- only by their calls.
pub record HasReachedPosition {D S X C R : Type 0} (meets_disk_assumption : D → Type 0) (represents : Bool → D → S → Type 0) (acts : RowCallRelation D X)
    (form : Fields → ReadResult X) (step : RowStep S X) (gives : C → ℕ → C → Type 0)
    (rem : R → Option Text) (first : D) (head : BatchStart C R) (desk : D) (place : BatchPosition C R) : Type 0 where
  pub rows : List Fields
  pub answers : List Answer
  pub named : IsBatchName head.name
  pub rows_only : AllByRecursion (λ row. ¬ (IsEndRecord row)) rows
  pub answered : RowsHaveAnswers meets_disk_assumption represents acts form step gives head.name first head.clock rows answers desk place.later
  pub each : length answers ≡ length rows
  pub size : length rows ≡ place.settled
  pub counts : place.counts ≡ counts_of_answers answers
  pub read : (text : Option Text) → IsReaderAfterRecords rem text (batch_header head.name ∷ []) head.reader
      → IsReaderAfterRecords rem text (batch_header head.name ∷ (rows ++ (place.row ∷ []))) place.reader

-- before the first row
pub reached_start : {D S X C R : Type 0} (meets_disk_assumption : D → Type 0) (represents : Bool → D → S → Type 0) (acts : RowCallRelation D X)
    (form : Fields → ReadResult X) (step : RowStep S X) (gives : C → ℕ → C → Type 0)
    (rem : R → Option Text) (first : D) (head : BatchStart C R) (row : Fields) (reader : Reader R) → IsBatchName head.name
    → ((text : Option Text) (before : List Fields) → IsReaderAfterRecords rem text before head.reader → IsReaderAfterRecords rem text (before ++ (row ∷ [])) reader)
    → (r : HasReachedPosition meets_disk_assumption represents acts form step gives rem first head first
    (record { settled = 0; counts = record { ok = 0; again = 0; no = 0 }; row = row; later = head.clock; reader = reader })) × (r.answers ≡ [])
reached_start meets_disk_assumption represents acts form step gives rem first head row reader named found = (
  record {
    rows = [];
    answers = [];
    named = named;
    rows_only = tt;
    answered = record {
      moments = [];
      replies = [];
      taken = refl;
      one_each = refl;
      replied = refl;
      all = refl;
      made = refl;
      follows = λ sure good base stood. (base, stood, refl);
    };
    each = refl;
    size = refl;
    counts = refl;
    read = λ text h. found text _ h;
  },
  refl,
)

-- The position after one more row.
abbrev pub position_after_row : {C R : Type 0} → BatchPosition C R → Counts → Fields → C → Reader R → BatchPosition C R
position_after_row place counts row later reader = record { settled = place.settled + 1; counts = counts; row = row; later = later; reader = reader }

-- one row more was answered, after the record after it had been read
pub reached_more : {D S X C R : Type 0} (meets_disk_assumption : D → Type 0) (represents : Bool → D → S → Type 0) (acts : RowCallRelation D X)
    (form : Fields → ReadResult X) (step : RowStep S X) (gives : C → ℕ → C → Type 0)
    (rem : R → Option Text) (first : D) (head : BatchStart C R) (mid : D) (place : BatchPosition C R) (answer : Answer) (counts : Counts) (row : Fields) (desk : D) (later : C) (reader : Reader R)
    → (r : HasReachedPosition meets_disk_assumption represents acts form step gives rem first head mid place) → ¬ (IsEndRecord place.row)
    → counts ≡ counts_with_answer place.counts answer → (meets_disk_assumption desk → meets_disk_assumption mid)
    → RowHasAnswer meets_disk_assumption represents acts step gives (form place.row) head.name (place.settled + 1) answer mid desk place.later later
    → ((text : Option Text) (before : List Fields) → IsReaderAfterRecords rem text before place.reader → IsReaderAfterRecords rem text (before ++ (row ∷ [])) reader)
    → (q : HasReachedPosition meets_disk_assumption represents acts form step gives rem first head desk (position_after_row place counts row later reader)) × (q.answers ≡ r.answers ++ (answer ∷ []))
reached_more meets_disk_assumption represents acts form step gives rem first head mid place answer counts row desk later reader r other more earlier given found =
    let number : place.settled + 1 ≡ 1 + length r.rows = omega (arith, r.size) in (
      record {
        rows = r.rows ++ (place.row ∷ []);
        answers = r.answers ++ (answer ∷ []);
        named = r.named;
        rows_only = all_push (λ (x : Fields). ¬ (IsEndRecord x)) r.rows place.row r.rows_only other;
        answered = answered_push meets_disk_assumption represents acts form step gives head.name first mid desk head.clock place.later later r.rows r.answers place.row answer r.answered earlier
            (form place.row) refl (rw number at given);
        each = length-append r.answers (answer ∷ []) ∙ ap (λ (n : ℕ). n + 1) r.each ∙ sym (length-append r.rows (place.row ∷ []));
        size = length-append r.rows (place.row ∷ []) ∙ ap (λ (n : ℕ). n + 1) r.size;
        counts = more ∙ ap (λ (c : Counts). counts_with_answer c answer) r.counts ∙ counts_push r.answers answer;
        read = λ text h. found text _ (r.read text h);
      },
      refl,
    )

-- The start of a batch with the base that the desk represents there.
abbrev pub start_with_base : {S C R : Type 0} → BatchStart C R → S → BatchStartWithBase S C R
start_with_base head base = record { name = head.name; base = base; clock = head.clock; old = head.old; reader = head.reader }

-- The position in a batch with the base that the desk represents there.
abbrev pub position_with_base : {S C R : Type 0} → BatchPosition C R → S → BatchPositionWithBase S C R
position_with_base place after = record { settled = place.settled; counts = place.counts; row = place.row; after = after; later = place.later; reader = place.reader }

-- the progress of a batch by some steps, over some base
abbrev pub progress_of : {D S T X C R : Type 0} (meets_disk_assumption : D → Type 0) (represents : Bool → D → S → Type 0) (acts : RowCallRelation D X)
    (form : Fields → ReadResult X) (step : RowStep S X) (gives : C → ℕ → C → Type 0)
    (rem : R → Option Text) (first : D) (head : BatchStart C R) (desk : D) (place : BatchPosition C R)
    (r : HasReachedPosition meets_disk_assumption represents acts form step gives rem first head desk place)
    (other : RowStep T X) (base after : T) → CallsHaveAnswers other base (calls_of_rows head.name r.answered.moments (well_formed_rows_from form 1 r.rows)) r.answered.replies after
    → HasDecidedRows form other gives rem (start_with_base head base) (position_with_base place after)
progress_of meets_disk_assumption represents acts form step gives rem first head desk place r other base after turns = record {
  rows = r.rows;
  answers = r.answers;
  moments = r.answered.moments;
  taken = r.answered.taken;
  settled = record {
    named = r.named;
    rows_only = r.rows_only;
    answered = answered-of form other head.name base after r.answered.moments r.rows r.answers
        (record { replies = r.answered.replies; one_each = r.answered.one_each; run = turns; all = r.answered.all });
    each = r.each;
  };
  size = r.size;
  counts = r.counts;
  stands = r.read;
}

-- a crash exposes only the base after the batch
pub alone_at : {D S X C : Type 0} (form : Fields → ReadResult X) (step : RowStep S X) (gives : C → ℕ → C → Type 0) (crash_exposes_only : D → S → S → Type 0)
    (text : Option Text) (span : EnvironmentChange S C) (last : D)
    (result : Result Counts BatchFault) → crash_exposes_only last span.after span.after → BoundsBatchCrashStates form step gives crash_exposes_only text span last result
alone_at form step gives crash_exposes_only text span last (Ok counts) alone = alone
alone_at form step gives crash_exposes_only text span last (Err fault) alone = inl alone

-- if each call was answered, the script has the calls and their answers
pub tells_all : {D S X C R : Type 0} (meets_disk_assumption : D → Type 0) (represents : Bool → D → S → Type 0) (acts : RowCallRelation D X)
    (form : Fields → ReadResult X) (step : RowStep S X) (gives : C → ℕ → C → Type 0)
    (rem : R → Option Text) (first : D) (head : BatchStart C R) (desk : D) (place : BatchPosition C R)
    (r : HasReachedPosition meets_disk_assumption represents acts form step gives rem first head desk place)
    (text : Option Text) (was now : Option Text) (result : Result Counts BatchFault) → IfErr result (λ fault. DeskFaultIsMemory fault.kind)
    → ((T : Type 0) (other : RowStep T X) (base after : T) → CallsHaveAnswers other base (calls_of_rows head.name r.answered.moments (well_formed_rows_from form 1 r.rows)) r.answered.replies after
    → IsBatchResult form other gives text (record { base = base; after = after; clock = head.clock; later = place.later; old = was; new = now }) result)
    → ChangesOnlyByRowCalls acts form gives text first desk (record { clock = head.clock; later = place.later; old = was; new = now }) result
tells_all {X = X} meets_disk_assumption represents acts form step gives rem first head desk place r text was now result memory so =
    let calls = calls_of_rows head.name r.answered.moments (well_formed_rows_from form 1 r.rows) in
    let each : length r.answered.replies ≡ length calls = r.answered.replied ∙ sym (calls_length head.name r.answered.moments (well_formed_rows_from form 1 r.rows) r.answered.one_each) in (
      (map desk_call_of_row_call calls, map Did r.answered.replies),
      r.answered.made,
      (
        subst (λ (ms : List ℕ). ClockReturnsMomentsInSequence gives head.clock ms place.later)
            (sym (calls_taken head.name r.answered.moments (well_formed_rows_from form 1 r.rows) r.answered.one_each)) r.answered.taken,
        inl (
          r.answered.replies,
          refl,
          so (List Answer × RowCalls X) recording_step (r.answered.replies, []) ([], map desk_call_of_row_call calls) (recorded_turns calls r.answered.replies [] each),
          memory,
        ),
      ),
    )

-- the script has also a call that failed
pub tells_failed : {D S X C R : Type 0} (meets_disk_assumption : D → Type 0) (represents : Bool → D → S → Type 0) (acts : RowCallRelation D X)
    (form : Fields → ReadResult X) (step : RowStep S X) (gives : C → ℕ → C → Type 0)
    (rem : R → Option Text) (first : D) (head : BatchStart C R) (desk : D) (place : BatchPosition C R)
    (r : HasReachedPosition meets_disk_assumption represents acts form step gives rem first head desk place)
    (text : Option Text) (new : Option Text) (later : C) (last : D) (next : Fields) (reader : Reader R) (f : Fault) (moment : ℕ) (command : X)
    → form place.row ≡ Ok command → gives place.later moment later → acts desk moment (command, record { batch = head.name; n = place.settled + 1 }) (Failed f) last
    → IsCallFault f → Appends head.old new (answer_lines_from 1 r.answers)
    → ((text : Option Text) (before : List Fields) → IsReaderAfterRecords rem text before place.reader → IsReaderAfterRecords rem text (before ++ (next ∷ [])) reader)
    → IsReaderAfterRecords rem text (batch_header head.name ∷ []) head.reader
    → ChangesOnlyByRowCalls acts form gives text first last (record { clock = head.clock; later = later; old = head.old; new = new }) (Err (record { rows = place.settled; kind = kinds.Desk f }))
tells_failed {D = D} {X = X} meets_disk_assumption represents acts form step gives rem first head desk place r text new later last next reader f moment command formed given acted may wrote found h =
    let calls = calls_of_rows head.name r.answered.moments (well_formed_rows_from form 1 r.rows) in
    let each : length r.answered.replies ≡ length calls = r.answered.replied ∙ sym (calls_length head.name r.answered.moments (well_formed_rows_from form 1 r.rows) r.answered.one_each) in
    let under : ℕ × (X × Key) = (moment, (command, record { batch = head.name; n = place.settled + 1 })) in
    let taken : ClockReturnsMomentsInSequence gives head.clock (r.answered.moments ++ (moment ∷ [])) later =
    moments_push gives head.clock place.later later r.answered.moments moment r.answered.taken given in
    let are : map (λ (c : ℕ × (X × Key)). c.0) (map desk_call_of_row_call calls ++ (under ∷ [])) ≡ r.answered.moments ++ (moment ∷ []) =
    map-append (λ (c : ℕ × (X × Key)). c.0) (map desk_call_of_row_call calls) (under ∷ [])
    ∙ ap (λ (ms : List ℕ). ms ++ (moment ∷ [])) (calls_taken head.name r.answered.moments (well_formed_rows_from form 1 r.rows) r.answered.one_each) in
    let turns : CallsHaveAnswers recording_step (r.answered.replies, []) calls r.answered.replies ([], map desk_call_of_row_call calls) = recorded_turns calls r.answered.replies [] each in (
      (map desk_call_of_row_call calls ++ (under ∷ []), map Did r.answered.replies ++ (Failed f ∷ [])),
      made_then acts first desk last (map desk_call_of_row_call calls) (under ∷ []) (map Did r.answered.replies) (Failed f ∷ []) r.answered.made (last, acted, refl),
      (
        subst (λ (ms : List ℕ). ClockReturnsMomentsInSequence gives head.clock ms later) (sym are) taken,
        inr (
          r.answered.replies,
          map desk_call_of_row_call calls,
          failed_row form recording_step gives rem (start_with_base head (r.answered.replies, [])) (position_with_base place ([], map desk_call_of_row_call calls)) later new text
              (progress_of meets_disk_assumption represents acts form step gives rem first head desk place r recording_step (r.answered.replies, [])
              ([], map desk_call_of_row_call calls) turns) next reader f moment command
              formed given may wrote found h,
          refl,
          refl,
        ),
      ),
    )

-- whatever failed, the script has the calls
pub tells_fault : {D S X C R : Type 0} (meets_disk_assumption : D → Type 0) (represents : D → S → Type 0) (crash_exposes_only : D → S → S → Type 0)
    (acts : RowCallRelation D X) (form : Fields → ReadResult X) (step : RowStep S X)
    (gives : C → ℕ → C → Type 0) (rem : R → Option Text) (first : D) (head : BatchStart C R) (desk : D) (place : BatchPosition C R)
    (r : HasReachedPosition meets_disk_assumption (RepresentsDurably represents crash_exposes_only) acts form step gives rem first head desk place)
    (text : Option Text) (new : Option Text) (later : C) (last : D) (next : Fields) (reader : Reader R) (f : Fault)
    → RowFailsWith meets_disk_assumption represents crash_exposes_only acts step gives (form place.row) head.name (place.settled + 1) f desk last place.later later
    → IsCallFault f → Appends head.old new (answer_lines_from 1 r.answers)
    → ((text : Option Text) (before : List Fields) → IsReaderAfterRecords rem text before place.reader → IsReaderAfterRecords rem text (before ++ (next ∷ [])) reader)
    → IsReaderAfterRecords rem text (batch_header head.name ∷ []) head.reader
    → ((T : Type 0) (other : RowStep T X) (base after : T) → CallsHaveAnswers other base (calls_of_rows head.name r.answered.moments (well_formed_rows_from form 1 r.rows)) r.answered.replies after
    → IsBatchResult form other gives text (record { base = base; after = after; clock = head.clock; later = later; old = head.old; new = new })
    (Err (record { rows = place.settled; kind = kinds.Desk f })))
    → ChangesOnlyByRowCalls acts form gives text first last (record { clock = head.clock; later = later; old = head.old; new = new }) (Err (record { rows = place.settled; kind = kinds.Desk f }))
tells_fault meets_disk_assumption represents crash_exposes_only acts form step gives rem first head desk place r text new later last next reader f (inl same) may wrote found h so =
    rw (same.0, same.1) (tells_all meets_disk_assumption (RepresentsDurably represents crash_exposes_only) acts form step gives rem first head desk place r text
    head.old new (Err (record { rows = place.settled; kind = kinds.Desk f })) same.2 (rw same.1 at so))
tells_fault meets_disk_assumption represents crash_exposes_only acts form step gives rem first head desk place r text new later last next reader f (inr way) may wrote found h so =
    tells_failed meets_disk_assumption (RepresentsDurably represents crash_exposes_only) acts form step gives rem first head desk place r text new later last
    next reader f way.0 way.1 way.2 way.3 way.4 may wrote found h

-- what holds by all steps, over all bases that they lead from and to, is the postcondition of the
-- batch
pub comes : {D S X C R : Type 0} (meets_disk_assumption : D → Type 0) (represents : D → S → Type 0) (crash_exposes_only : D → S → S → Type 0)
    (acts : RowCallRelation D X) (form : Fields → ReadResult X) (step : RowStep S X)
    (gives : C → ℕ → C → Type 0) (rem : R → Option Text) (first : D) (head : BatchStart C R) (desk : D) (place : BatchPosition C R)
    (r : HasReachedPosition meets_disk_assumption (RepresentsDurably represents crash_exposes_only) acts form step gives rem first head desk place)
    (last : D) (text : Option Text) (outside : ClockAndWriterChange C) (result : Result Counts BatchFault)
    → (meets_disk_assumption last → meets_disk_assumption desk) → PreservesRepresentedBases meets_disk_assumption represents desk last
    → ((T : Type 0) (other : RowStep T X) (base after : T) → CallsHaveAnswers other base (calls_of_rows head.name r.answered.moments (well_formed_rows_from form 1 r.rows)) r.answered.replies after
    → IsBatchResult form other gives text (environment_change_with_bases base after outside) result)
    → ChangesOnlyByRowCalls acts form gives text first last outside result
    → (meets_disk_assumption last → (base after : S)
    → CallsHaveAnswers step base (calls_of_rows head.name r.answered.moments (well_formed_rows_from form 1 r.rows)) r.answered.replies after
    → represents desk after → crash_exposes_only desk after after
    → BoundsBatchCrashStates form step gives crash_exposes_only text (environment_change_with_bases base after outside) last result)
    → BatchPost meets_disk_assumption represents crash_exposes_only acts form step gives text first last outside result
comes {S = S} meets_disk_assumption represents crash_exposes_only acts form step gives rem first head desk place r last text outside result earlier keeps so told stops = record {
  changed_only_by_calls = told;
  refines_model = λ good base stood.
      let led = r.answered.follows false (earlier good) base stood in
      (led.0, keeps good led.0 led.1, so S step base led.0 led.2);
  crash_safe = λ good base stood alone.
      let led = r.answered.follows true (earlier good) base (stood, alone) in
      (led.0, keeps good led.0 led.1.0, so S step base led.0 led.2, stops good base led.0 led.2 led.1.0 led.1.1);
}

-- the postcondition, if each call was answered
pub comes_answered : {D S X C R : Type 0} (meets_disk_assumption : D → Type 0) (represents : D → S → Type 0) (crash_exposes_only : D → S → S → Type 0)
    (acts : RowCallRelation D X) (form : Fields → ReadResult X) (step : RowStep S X)
    (gives : C → ℕ → C → Type 0) (rem : R → Option Text) (first : D) (head : BatchStart C R) (desk : D) (place : BatchPosition C R)
    (r : HasReachedPosition meets_disk_assumption (RepresentsDurably represents crash_exposes_only) acts form step gives rem first head desk place)
    (text : Option Text) (was now : Option Text) (result : Result Counts BatchFault) → IfErr result (λ fault. DeskFaultIsMemory fault.kind)
    → ((T : Type 0) (other : RowStep T X) (base after : T) → CallsHaveAnswers other base (calls_of_rows head.name r.answered.moments (well_formed_rows_from form 1 r.rows)) r.answered.replies after
    → IsBatchResult form other gives text (record { base = base; after = after; clock = head.clock; later = place.later; old = was; new = now }) result)
    → BatchPost meets_disk_assumption represents crash_exposes_only acts form step gives text first desk (record { clock = head.clock; later = place.later; old = was; new = now }) result
comes_answered meets_disk_assumption represents crash_exposes_only acts form step gives rem first head desk place r text was now result memory so =
    comes meets_disk_assumption represents crash_exposes_only acts form step gives rem first head desk place r desk text
    (record { clock = head.clock; later = place.later; old = was; new = now }) result
    (λ good. good) (λ good base stood. stood) so
    (tells_all meets_disk_assumption (RepresentsDurably represents crash_exposes_only) acts form step gives rem first head desk place r text was now result
    memory so)
    (λ good base after turns stood alone.
    alone_at form step gives crash_exposes_only text (record { base = base; after = after; clock = head.clock; later = place.later; old = was; new = now }) desk result alone)

-- the postcondition, if the desk was not called
pub comes_at_once : {D S X C : Type 0} (meets_disk_assumption : D → Type 0) (represents : D → S → Type 0) (crash_exposes_only : D → S → S → Type 0)
    (acts : RowCallRelation D X) (form : Fields → ReadResult X) (step : RowStep S X)
    (gives : C → ℕ → C → Type 0) (desk : D) (text : Option Text) (clock : C) (was now : Option Text) (result : Result Counts BatchFault) → IfErr result (λ fault. DeskFaultIsMemory fault.kind)
    → ((T : Type 0) (other : RowStep T X) (base : T) → IsBatchResult form other gives text (record { base = base; after = base; clock = clock; later = clock; old = was; new = now }) result)
    → BatchPost meets_disk_assumption represents crash_exposes_only acts form step gives text desk desk (record { clock = clock; later = clock; old = was; new = now }) result
comes_at_once {S = S} {X = X} meets_disk_assumption represents crash_exposes_only acts form step gives desk text clock was now result memory so = record {
  changed_only_by_calls = (([], []), refl, (refl, inl ([], refl, so (List Answer × RowCalls X) recording_step ([], []), memory)));
  refines_model = λ good base stood. (base, stood, so S step base);
  crash_safe = λ good base stood alone.
      (base, stood, so S step base, alone_at form step gives crash_exposes_only text (record { base = base; after = base; clock = clock; later = clock; old = was; new = now }) desk result alone);
}
