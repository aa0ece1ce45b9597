-- The text that a batch prints on a new desk in memory at a fixed time.
use Rattle.std.proofs.Common.{◌≡◌, ◌⊎◌, inl, inr, ℕ, Bool, true, false, List, [], ◌∷◌, Option, Some, None, Ok, Err, Result, length, option_map, ◌+◌, refl, sym, subst, ◌∙◌, ap}
use Rattle.std.specs.Borrow.{Bor}
use Rattle.std.specs.Io.KnownBytes.{Appends}
use Rattle.std.specs.List.{AllByRecursion}
use Rattle.csv.specs.Reading.{records, default_config}
use Rattle.sqlite.proofs.Callers.{memory_is_clean}
use Rattle.sqlite.specs.Held.{Held}
use Rattle.sqlite.specs.Steps.{over_memory}
use Rattle.std.specs.Global.{Global}
use Rattle.std.specs.Prelude.{String, string_bytes}
use Rattle.brk_cli_exit.specs.Ending.{ending_after_close}
use Rattle.brk_store_transactions.specs.Audited.{Represents}
use Rattle.brk_cli_args.specs.declared.job.Job.{Job}
use Rattle.brk_cli_args.specs.declared.job.Job.TheVariants as job
use Rattle.brk_import_engine.specs.Batch.{BatchEndsWith, IsBatchResult}
use Rattle.brk_import_engine.specs.declared.counts.Counts.{Counts}
use Rattle.brk_desk.proofs.AtFirst.{made_keeps}
use Rattle.brk_cli_exit.specs.declared.ending.Ending.{Ending}
use Rattle.brk_cli_exit.specs.declared.ending.Ending.TheVariants as ending
use Rattle.brk_io.specs.Moments.{ClockReturnsMomentsInSequence}
use Rattle.brk_io.specs.Readings.{ReturnsReading}
use Rattle.brk_io.specs.Span.{EnvironmentChange, environment_change_with_bases}
use Rattle.brk_io.specs.declared.batch_fault.BatchFault.{BatchFault}
use Rattle.brk_io.specs.declared.program_clock.ProgramClock.{ProgramClock}
use Rattle.brk_io.specs.declared.program_clock.ProgramClock.TheVariants as clocks
use Rattle.brk_model.specs.Base.{Base, empty_base}
use Rattle.brk_model.specs.Batch.{BatchResult, CorrectEnd, step_of_row}
use Rattle.brk_model.specs.Computed.{result_of_batch_input, result_of_complete_batch}
use Rattle.brk_model.specs.Input.{batch_header, correct_end_record, input_text}
use Rattle.brk_model.specs.Parse.{parse_by_first_field, parse_row, row_parsers}
use Rattle.brk_money.specs.Spelling.{Text}
use Rattle.brk_money.specs.declared.fault.Fault.{Fault}
use Rattle.brk_cli_jobs.proofs.Computed.{appended, completes}
use Rattle.brk_cli_jobs.specs.BatchText.{CompletesBatchInFile, CompletesBatchOfJob, PrintsBatchAt, PrintsBatchOfJob, PrintsWholeBatch, result_of_batch_at}
use Rattle.brk_cli_jobs.specs.Endings.{ending_of_batch}
use Rattle.brk_cli_jobs.specs.Files.{CloseRelation, OpenRelation}
use Rattle.brk_cli_jobs.specs.Jobs.{ExecutesBatch, InputAndOutput, clock_and_output}
use Rattle.brk_cli_jobs.specs.Places.{ExecutesJobInFile, ExecutesJobInMemory, ExecutesJobOnNewStore, ExecutesJobOnOpened, FailsToOpen, RunsJob}
use Rattle.sqlite_trees.specs.declared.store.Store.{Ghosts}

-- all readings of a fixed clock are its timestamp
readings : {R : Type 0} (t : ℕ) (clock later : ProgramClock R) (moments : List ℕ) → clock ≡ clocks.At t → ClockReturnsMomentsInSequence ReturnsReading clock moments later
    → AllByRecursion (λ m. m ≡ t) moments
readings t clock later [] is h = tt
readings {R} t clock later (moment ∷ moments) is h =
    let first : ReturnsReading (clocks.At t) moment h.0 = subst (λ (c : ProgramClock R). ReturnsReading c moment h.0) is h.1 in
    (first.0, readings t h.0 later moments first.1 h.2)

-- a job that was done was done before the close, which did not fail
pub both_done : (reached : Ending) (closed : Result (Unit {0}) Fault) → ending_after_close reached closed ≡ ending.Done → (reached ≡ ending.Done) × (closed ≡ Ok tt)
both_done ending.Done (Ok u) e = (refl, refl)
both_done ending.Done (Err fault) e = absurd (cc)
both_done (ending.Open fault) closed e = absurd (cc)
both_done (ending.Batch fault) closed e = absurd (cc)
both_done (ending.Statement fault) closed e = absurd (cc)
both_done (ending.Serve fault) closed e = absurd (cc)
both_done ending.Net closed e = absurd (cc)
both_done ending.Output closed e = absurd (cc)
both_done ending.ClosedPipe closed e = absurd (cc)
both_done (ending.Usage fault) closed e = absurd (cc)

module _ {R : Type 0} (machine : Bor R) (t : ℕ) (input : Text) (io : InputAndOutput) where
  abbrev change : Base → Base → ProgramClock R → EnvironmentChange Base (ProgramClock R)
  change base after later = environment_change_with_bases base after (clock_and_output machine (Some t) later io)

  -- the text that the function computes, and the base after it
  complete : (base after : Base) (later : ProgramClock R) (count : ℕ)
      → BatchEndsWith (parse_by_first_field row_parsers) step_of_row ReturnsReading (Some (input_text input)) (change base after later) CorrectEnd count
      → PrintsWholeBatch base t input io.before io.after × ((result_of_batch_at base t input).base ≡ after)
  unfolding result_of_batch_input parse_row
  complete base after later count e =
      let a = e.answered in
      let rest = a.ends.0.0 in
      let all = a.ends.0.1 ∙ ap (λ rs. batch_header a.name ∷ rs) (appended a.rows (correct_end_record (length a.rows)) rest) in
      let whole : result_of_batch_at base t input ≡ result_of_complete_batch (a.answers, after) =
      completes (parse_by_first_field row_parsers) step_of_row a.name base after t e.moments a.rows rest a.answers (records default_config (input_text input))
      all a.settled.named a.settled.rows_only a.settled.answered a.settled.each (readings t (clocks.At t) later e.moments refl e.taken) in (
        (
          ap (λ (b : BatchResult Base). b.ending) whole,
          subst (λ (text : Text). Appends io.before io.after text) (a.ends.2 ∙ sym (ap (λ (b : BatchResult Base). b.text) whole)) e.written,
        ),
        ap (λ (b : BatchResult Base). b.base) whole,
      )

  done_whole : (base after : Base) (later : ProgramClock R) (result : Result Counts BatchFault)
      → IsBatchResult (parse_by_first_field row_parsers) step_of_row ReturnsReading (Some (input_text input)) (change base after later) result
      → ending_of_batch result ≡ ending.Done → PrintsWholeBatch base t input io.before io.after × ((result_of_batch_at base t input).base ≡ after)
  done_whole base after later (Ok counts) is e = complete base after later (counts.ok + counts.again + counts.no) is.0
  done_whole base after later (Err fault) is e = absurd (cc)

  on_new_store : (existing : Bool) (end : Ending) → io.input ≡ Some input → ExecutesJobOnNewStore machine (job.Batch None existing (Some t)) io end → PrintsBatchAt machine t input io end
  on_new_store existing end known ran =
      let b : ExecutesBatch over_memory machine (Some t) ran.old ran.new io end = ran.executed in
      let led = b.refines_model (memory_is_clean ran.new) empty_base (made_keeps over_memory ran.old ran.created.created) in
      let printed = subst (λ (i : Option Text). IsBatchResult (parse_by_first_field row_parsers) step_of_row ReturnsReading (option_map input_text i) (change empty_base led.0 b.later) b.result) known led.2 in
      record {
        whole = λ done. (done_whole empty_base led.0 b.later b.result printed (sym b.ended ∙ done)).0;
        result = b.result;
        ended = b.ended;
        base = led.0;
        later = b.later;
        printed = printed;
      }

  in_memory : (existing : Bool) (end : Ending) → io.input ≡ Some input → ExecutesJobInMemory machine (job.Batch None existing (Some t)) io end
      → ((fault : Fault) × FailsToOpen fault io end) ⊎ PrintsBatchAt machine t input io end
  in_memory existing end known (inl failed) = inl failed
  in_memory existing end known (inr ran) = inr (on_new_store existing end known ran)

-- a batch on a file that was done
module _ {S R : Type 0} (g : Ghosts S) (creates opens : OpenRelation S) (closes : CloseRelation S) (machine : Bor R) (t : ℕ) (input : Text) where
  in_file : (path : String Global) (existing : Bool) (io : InputAndOutput) (reached : Ending) (result : Result (Held S) Fault) → io.input ≡ Some input
      → creates (string_bytes path) result → ExecutesJobOnOpened g opens closes machine (job.Batch (Some path) existing (Some t)) (string_bytes path) result io reached → reached ≡ ending.Done
      → CompletesBatchInFile g creates closes (string_bytes path) t input io
  in_file path existing io reached (Err fault) known opened failed done = let e = sym failed.0 ∙ done in absurd (cc)
  in_file path existing io reached (Ok store) known opened ran done =
      let both = both_done ran.reached ran.closed (sym ran.ended ∙ done) in
      let b : ExecutesBatch g machine (Some t) store ran.new io ran.reached = ran.executed in
      record {
        first = store;
        last = ran.new;
        opened = opened;
        closed = subst (λ (c : Result (Unit {0}) Fault). closes ran.new c) both.1 ran.shut;
        printed = λ clean base keeps.
            let led = b.refines_model clean base keeps in
            let printed = subst (λ (i : Option Text). IsBatchResult (parse_by_first_field row_parsers) step_of_row ReturnsReading (option_map input_text i)
            (change machine t input io base led.0 b.later) b.result) known led.2 in
            let whole = done_whole machine t input io base led.0 b.later b.result printed (sym b.ended ∙ both.0) in
            (whole.0, subst (λ (after : Base). Represents g ran.new after) (sym whole.1) led.1);
      }

-- an audit has the ending and the content of a batch before its `ok`
module _ {S R : Type 0} (g : Ghosts S) (creates opens : OpenRelation S) (closes : CloseRelation S) (machine : Bor R) where
  same_run : (existing : Bool) (t : ℕ) (io : InputAndOutput) (end reached : Ending) (mid : Option Text) → end ≡ reached → io.after ≡ mid
      → ExecutesJobInMemory machine (job.Batch None existing (Some t)) (record { input = io.input; before = io.before; after = mid }) reached
      → ExecutesJobInMemory machine (job.Batch None existing (Some t)) io end
  same_run existing t io end reached mid is same ran =
      subst (λ (e : Ending). ExecutesJobInMemory machine (job.Batch None existing (Some t)) io e) (sym is)
      (subst (λ (m : Option Text). ExecutesJobInMemory machine (job.Batch None existing (Some t)) (record { input = io.input; before = io.before; after = m }) reached) (sym same) ran)

  pub prints : (j : Job) (input : Option Text) (io : InputAndOutput) (end : Ending) → io.input ≡ input → RunsJob g creates opens closes machine j io end
      → PrintsBatchOfJob machine j input io end
  prints (job.Batch None existing (Some t)) (Some input) io end known ran =
      in_memory machine t input io existing end known (same_run existing t io end ran.reached ran.mid ran.printed.0 ran.printed.1 ran.executed)
  prints (job.Batch None existing (Some t)) None io end known ran = tt
  prints (job.Batch None existing None) input io end known ran = tt
  prints (job.Batch (Some path) existing at) input io end known ran = tt
  prints (job.Statement db account from to) input io end known ran = tt
  prints (job.Statements db from to customer) input io end known ran = tt
  prints (job.Audit db) input io end known ran = tt
  prints (job.Ask db json heads view arguments) input io end known ran = tt
  prints (job.Explain db words) input io end known ran = tt
  prints (job.Serve port db existing at streams) input io end known ran = tt

  file_run : (first : OpenRelation S) (path : String Global) (existing : Bool) (t : ℕ) (io : InputAndOutput) (reached : Ending) (mid : Option Text) → io.after ≡ mid
      → ExecutesJobInFile g first opens closes machine (job.Batch (Some path) existing (Some t)) (string_bytes path) (record { input = io.input; before = io.before; after = mid }) reached
      → ExecutesJobInFile g first opens closes machine (job.Batch (Some path) existing (Some t)) (string_bytes path) io reached
  file_run first path existing t io reached mid same ran =
      subst (λ (m : Option Text). ExecutesJobInFile g first opens closes machine (job.Batch (Some path) existing (Some t)) (string_bytes path) (record { input = io.input; before = io.before; after = m }) reached)
      (sym same) ran

  pub done_in_file : (j : Job) (input : Option Text) (io : InputAndOutput) (end : Ending) → io.input ≡ input → RunsJob g creates opens closes machine j io end
      → CompletesBatchOfJob g creates opens closes j input io end
  done_in_file (job.Batch (Some path) false (Some t)) (Some input) io end known ran =
      let it = file_run creates path false t io ran.reached ran.mid ran.printed.1 ran.executed in
      λ done. in_file g creates opens closes machine t input path false io ran.reached it.result known it.opened it.executed (sym ran.printed.0 ∙ done)
  done_in_file (job.Batch (Some path) true (Some t)) (Some input) io end known ran =
      let it = file_run opens path true t io ran.reached ran.mid ran.printed.1 ran.executed in
      λ done. in_file g opens opens closes machine t input path true io ran.reached it.result known it.opened it.executed (sym ran.printed.0 ∙ done)
  done_in_file (job.Batch (Some path) false (Some t)) None io end known ran = tt
  done_in_file (job.Batch (Some path) true (Some t)) None io end known ran = tt
  done_in_file (job.Batch (Some path) false None) input io end known ran = tt
  done_in_file (job.Batch (Some path) true None) input io end known ran = tt
  done_in_file (job.Batch None existing at) input io end known ran = tt
  done_in_file (job.Statement db account from to) input io end known ran = tt
  done_in_file (job.Statements db from to customer) input io end known ran = tt
  done_in_file (job.Audit db) input io end known ran = tt
  done_in_file (job.Ask db json heads view arguments) input io end known ran = tt
  done_in_file (job.Explain db words) input io end known ran = tt
  done_in_file (job.Serve port db existing at streams) input io end known ran = tt
