-- What the program does for what its arguments request.
use Rattle.std.specs.Prelude.{◌≡◌, ◌⊎◌, ℕ, Option, Result, Ok, Err, String, string_bytes, take}
use Rattle.std.specs.Borrow.{Bor}
use Rattle.std.specs.Global.{Global}
use Rattle.std.specs.Io.KnownBytes.{Appends}
use Rattle.sqlite_trees.specs.declared.store.Store.{Ghosts}
use Rattle.brk_cli_args.specs.declared.job.Job.{Job}
use Rattle.brk_cli_exit.specs.declared.ending.Ending.{Ending}
use Rattle.brk_cli_exit.specs.declared.ending.Ending.TheVariants as ending
use Rattle.brk_io.specs.declared.usage_fault.UsageFault.{UsageFault}
use Rattle.brk_io.specs.declared.usage_fault.UsageFault.TheVariants as usage
use Rattle.brk_money.specs.Spelling.{Text}
use Rattle.brk_cli_jobs.specs.BatchText.{CompletesBatchOfJob, PrintsBatchOfJob}
use Rattle.brk_cli_jobs.specs.Files.{CloseRelation, OpenRelation}
use Rattle.brk_cli_jobs.specs.JobText.{PrintsJobAt}
use Rattle.brk_cli_jobs.specs.Jobs.{InputAndOutput}
use Rattle.brk_cli_jobs.specs.Places.{DeskPlace, InFile, InFileOrNewFile, InFileWithDesk, InMemory, RunsJob, place_of_job}
use Rattle.brk_cli_jobs.specs.declared.jobs.Place.{Place}
use Rattle.brk_cli_jobs.specs.declared.jobs.Place.TheVariants as place

-- The place of a desk, without the reference to its path.
abbrev pub abstract_place : Place → DeskPlace
abstract_place place.Memory = InMemory
abstract_place (place.FileOrNewFile path) = InFileOrNewFile path.now
abstract_place (place.FileWithDesk path) = InFileWithDesk path.now
abstract_place (place.ExistingFile path) = InFile path.now

-- The help text or the version text `text` was written, and the ending is `Usage` with it; or a
-- prefix of it, perhaps empty or all of it, and the ending is `Output`.
abbrev pub WritesHelpText : String Global → Option Text → Option Text → Ending → Type 0
WritesHelpText text before after end =
    ((end ≡ ending.Usage (usage.Help text)) × Appends before after (string_bytes text))
    ⊎ ((end ≡ ending.Output) × ((k : ℕ) × Appends before after (take k (string_bytes text))))

-- The job that the arguments request was run; or a help text was written; or they are wrong, and
-- nothing was done or written.
abbrev pub AnswersRequest : {S R : Type 0} → Ghosts S → OpenRelation S → OpenRelation S → CloseRelation S → Bor R → Result Job UsageFault → InputAndOutput → Ending
    → Type 0
AnswersRequest g creates opens closes machine (Ok job) io end =
    RunsJob g creates opens closes machine job io end × PrintsBatchOfJob machine job io.input io end
    × CompletesBatchOfJob g creates opens closes job io.input io end × PrintsJobAt g opens closes job (place_of_job job) io end
AnswersRequest g creates opens closes machine (Err (usage.Help text)) io end = WritesHelpText text io.before io.after end
AnswersRequest g creates opens closes machine (Err fault) io end = (end ≡ ending.Usage fault) × (io.after ≡ io.before)
