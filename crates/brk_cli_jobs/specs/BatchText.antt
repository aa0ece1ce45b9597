-- What a batch prints at a fixed time, in the words of the model.
use Rattle.std.specs.Prelude.{◌≡◌, ◌⊎◌, ℕ, true, false, List, Option, Some, None, Result, Ok, length, replicate, string_bytes}
use Rattle.std.specs.Borrow.{Bor}
use Rattle.std.specs.Io.KnownBytes.{Appends}
use Rattle.sqlite.specs.Held.{Held, state}
use Rattle.sqlite.specs.State.{HasCleanDisk}
use Rattle.sqlite_trees.specs.declared.store.Store.{Ghosts}
use Rattle.csv.specs.Reading.{records, default_config}
use Rattle.brk_cli_args.specs.declared.job.Job.{Job}
use Rattle.brk_cli_args.specs.declared.job.Job.TheVariants as job
use Rattle.brk_import_engine.specs.Batch.{IsBatchResult}
use Rattle.brk_import_engine.specs.declared.counts.Counts.{Counts}
use Rattle.brk_cli_exit.specs.declared.ending.Ending.{Ending}
use Rattle.brk_cli_exit.specs.declared.ending.Ending.TheVariants as ending
use Rattle.brk_io.specs.Readings.{ReturnsReading}
use Rattle.brk_io.specs.Span.{environment_change_with_bases}
use Rattle.brk_io.specs.declared.batch_fault.BatchFault.{BatchFault}
use Rattle.brk_io.specs.declared.program_clock.ProgramClock.{ProgramClock}
use Rattle.brk_model.specs.Base.{Base, empty_base}
use Rattle.brk_model.specs.Batch.{BatchResult, CorrectEnd, step_of_row}
use Rattle.brk_model.specs.Computed.{result_of_batch_input}
use Rattle.brk_model.specs.Input.{input_text}
use Rattle.brk_model.specs.Parse.{parse_by_first_field, row_parsers}
use Rattle.brk_money.specs.Spelling.{Text}
use Rattle.brk_money.specs.declared.fault.Fault.{Fault}
use Rattle.brk_cli_jobs.specs.Endings.{ending_of_batch}
use Rattle.brk_cli_jobs.specs.Files.{CloseRelation, OpenRelation}
use Rattle.brk_cli_jobs.specs.Jobs.{InputAndOutput, clock_and_output}
use Rattle.brk_cli_jobs.specs.Places.{FailsToOpen}
use Rattle.brk_store_transactions.specs.Audited.{Represents}

-- The result of the batch `input` from `base` if every clock reading is `t`: text, ending and base.
abbrev pub result_of_batch_at : Base → ℕ → Text → BatchResult Base
result_of_batch_at base t input = result_of_batch_input base (replicate (length (records default_config (input_text input))) t) input

-- The batch `input` completes from `base` at the time `t`, and exactly its text was written.
abbrev pub PrintsWholeBatch : Base → ℕ → Text → Option Text → Option Text → Type 0
PrintsWholeBatch base t input before after =
    ((result_of_batch_at base t input).ending ≡ CorrectEnd) × Appends before after (result_of_batch_at base t input).text

-- The batch of the bytes `input` was executed on an empty brokerage at the time `t`.
pub record PrintsBatchAt {R : Type 0} (machine : Bor R) (t : ℕ) (input : Text) (io : InputAndOutput) (end : Ending) : Type 0 where
  -- `Done` means that the batch completed and exactly its text was written.
  pub whole : end ≡ ending.Done → PrintsWholeBatch empty_base t input io.before io.after
  -- For any result, the lines and the result are the model's from the empty base, and `base`
  -- and `later` are the base and the clock after the batch.
  pub result : Result Counts BatchFault
  pub ended : end ≡ ending_of_batch result
  pub base : Base
  pub later : ProgramClock R
  pub printed : IsBatchResult (parse_by_first_field row_parsers) step_of_row ReturnsReading (Some (input_text input))
      (environment_change_with_bases empty_base base (clock_and_output machine (Some t) later io)) result

-- For a batch without a file, with a fixed time and an input of known bytes: the batch was executed
-- (`PrintsBatchAt`), or its desk could not be created and nothing was written. Vacuous otherwise.
abbrev pub PrintsBatchOfJob : {R : Type 0} → Bor R → Job → Option Text → InputAndOutput → Ending → Type 0
PrintsBatchOfJob machine (job.Batch None existing (Some t)) (Some input) io end = ((fault : Fault) × FailsToOpen fault io end) ⊎ PrintsBatchAt machine t input io end
PrintsBatchOfJob machine job input io end = Unit {0}

-- The batch `input` was executed at the time `t` on the desk in the file at `path`, which was
-- opened, and closed without a fault. Under the disk assumption, for every base that the opened
-- desk represented, exactly the batch's text was written, and the desk represents the base after.
pub record CompletesBatchInFile {S : Type 0} (g : Ghosts S) (creates : OpenRelation S) (closes : CloseRelation S) (path : List ℕ) (t : ℕ) (input : Text)
    (io : InputAndOutput) : Type 0 where
  -- The store when it was opened and when it was closed.
  pub first : Held S
  pub last : Held S
  pub opened : creates path (Ok first)
  pub closed : closes last (Ok tt)
  pub printed : HasCleanDisk (state g last) → (base : Base) → Represents g first base
      → PrintsWholeBatch base t input io.before io.after × Represents g last (result_of_batch_at base t input).base

-- If the job is a batch with a file and a fixed time, and the bytes of its input are known: `Done`
-- means that the batch was executed on this file (`CompletesBatchInFile`). Vacuous otherwise.
abbrev pub CompletesBatchOfJob : {S : Type 0} → Ghosts S → OpenRelation S → OpenRelation S → CloseRelation S → Job → Option Text → InputAndOutput → Ending
    → Type 0
CompletesBatchOfJob g creates opens closes (job.Batch (Some path) false (Some t)) (Some input) io end =
    end ≡ ending.Done → CompletesBatchInFile g creates closes (string_bytes path) t input io
CompletesBatchOfJob g creates opens closes (job.Batch (Some path) true (Some t)) (Some input) io end =
    end ≡ ending.Done → CompletesBatchInFile g opens closes (string_bytes path) t input io
CompletesBatchOfJob g creates opens closes job input io end = Unit {0}
