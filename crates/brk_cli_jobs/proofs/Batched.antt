-- A batch job with the program's clock, and its desk.
use Rattle.std.proofs.Common.{◌≡◌, ℕ, List, Option, Result, map, option_map, subst}
use Rattle.std.specs.Borrow.{Bor}
use Rattle.sqlite_trees.specs.declared.store.Store.{Ghosts}
use Rattle.sqlite.specs.Held.{Held, state}
use Rattle.sqlite.specs.State.{HasCleanDisk}
use Rattle.brk_import_engine.specs.Batch.{BatchRefinesModel, IsBatchCrashSafe}
use Rattle.brk_import_engine.specs.declared.counts.Counts.{Counts}
use Rattle.brk_desk.specs.Answers.{model_outcome}
use Rattle.brk_desk.specs.Commands.{model_call}
use Rattle.brk_desk.specs.Runs.{IsRunWithOutcomes}
use Rattle.brk_desk.specs.declared.call.Call as made
use Rattle.brk_desk.specs.declared.call.Outcome as came
use Rattle.brk_cli_exit.specs.declared.ending.Ending.{Ending}
use Rattle.brk_import.specs.CrashTables.{CrashExposesOnlyOneOf}
use Rattle.brk_import.specs.Rows.{BatchMatchesRowCalls}
use Rattle.brk_io.specs.Readings.{ReturnsReading, program_clock}
use Rattle.brk_io.specs.Span.{ClockAndWriterChange}
use Rattle.brk_io.specs.declared.batch_fault.BatchFault.{BatchFault}
use Rattle.brk_io.specs.declared.program_clock.ProgramClock.{ProgramClock}
use Rattle.brk_model.specs.Batch.{step_of_row}
use Rattle.brk_model.specs.Input.{input_text}
use Rattle.brk_model.specs.Parse.{parse_by_first_field, row_parsers}
use Rattle.brk_store_transactions.specs.Audited.{Represents}
use Rattle.brk_cli_jobs.specs.Endings.{ending_of_batch}
use Rattle.brk_cli_jobs.specs.Jobs.{ExecutesBatch, InputAndOutput}

module _ {S R : Type 0} (g : Ghosts S) (old new : Held S) (io : InputAndOutput) (result : Result Counts BatchFault) where
  abbrev Calls : ClockAndWriterChange (ProgramClock R) → Type 0
  Calls outside = (calls : List (ℕ × made.Call)) × (outcomes : List came.Outcome) × IsRunWithOutcomes g old new calls outcomes
      × BatchMatchesRowCalls ReturnsReading (option_map input_text io.input) (map model_call calls) (map model_outcome outcomes) outside result

  abbrev Refines : ClockAndWriterChange (ProgramClock R) → Type 0
  Refines outside = BatchRefinesModel (λ desk. HasCleanDisk (state g desk)) (λ desk. Represents g desk) (parse_by_first_field row_parsers) step_of_row
      ReturnsReading (option_map input_text io.input) old new outside result

  abbrev Safe : ClockAndWriterChange (ProgramClock R) → Type 0
  Safe outside = IsBatchCrashSafe (λ desk. HasCleanDisk (state g desk)) (λ desk. Represents g desk) (CrashExposesOnlyOneOf g)
      (parse_by_first_field row_parsers) step_of_row ReturnsReading (option_map input_text io.input) old new outside result

  abbrev outside_of : ProgramClock R → ProgramClock R → ClockAndWriterChange (ProgramClock R)
  outside_of clock later = record { clock = clock; later = later; old = io.before; new = io.after }

  -- what a batch promises with a clock, it promises with the program's, if it is that one
  pub executes : (machine : Bor R) (at : Option ℕ) (clock later : ProgramClock R) (end : Ending) → clock ≡ program_clock machine at → end ≡ ending_of_batch result
      → Calls (outside_of clock later) → Refines (outside_of clock later) → Safe (outside_of clock later)
      → ExecutesBatch g machine at old new io end
  executes machine at clock later end is ended calls refines safe = record {
    result = result;
    later = later;
    ended = ended;
    changed_only_by_calls = subst (λ (k : ProgramClock R). Calls (outside_of k later)) is calls;
    refines_model = subst (λ (k : ProgramClock R). Refines (outside_of k later)) is refines;
    crash_safe = subst (λ (k : ProgramClock R). Safe (outside_of k later)) is safe;
  }
