-- What a job does on a desk in memory or in a file, with the opening and the closing of the desk.
-- `opens`, `opens_or_creates` and `closes` are the relations of the files (`DeskFiles`).
use Rattle.std.specs.Prelude.{◌≡◌, ◌⊎◌, ℕ, Bool, true, false, List, Option, None, Some, Result, Ok, Err, String, string_bytes}
use Rattle.std.specs.Borrow.{Bor}
use Rattle.sqlite_trees.specs.declared.memory.MemStore.{MemStore}
use Rattle.sqlite_trees.specs.declared.store.Store.{Ghosts}
use Rattle.sqlite.specs.Held.{Held}
use Rattle.sqlite.specs.Steps.{over_memory}
use Rattle.brk_cli_args.specs.declared.job.Job.{Job}
use Rattle.brk_cli_args.specs.declared.job.Job.TheVariants as job
use Rattle.brk_cli_exit.specs.Ending.{ending_after_close}
use Rattle.brk_cli_exit.specs.declared.ending.Ending.{Ending}
use Rattle.brk_cli_exit.specs.declared.ending.Ending.TheVariants as ending
use Rattle.brk_money.specs.Spelling.{Text}
use Rattle.brk_io.specs.declared.report_fault.ReportFault.TheVariants.{Refused}
use Rattle.brk_money.specs.declared.fault.Fault.{Fault}
use Rattle.brk_money.specs.declared.fault.Fault.TheVariants.{Memory}
use Rattle.brk_money.specs.declared.refusal.Refusal.{Refusal}
use Rattle.brk_store_transactions.specs.Holds.{CreatePost}
use Rattle.brk_cli_jobs.specs.Files.{CloseRelation, OpenRelation}
use Rattle.brk_cli_jobs.specs.Jobs.{ExecutesJob, InputAndOutput, WritesAuditOk}
use Rattle.brk_cli_jobs.specs.Serving.{ServesStreamsInFile}
use Rattle.brk_cli_jobs.specs.Words.{HasWords, result_of_words}

-- The desk could not be opened or created: the job was not executed, and nothing was written.
abbrev pub FailsToOpen : Fault → InputAndOutput → Ending → Type 0
FailsToOpen fault io end = (end ≡ ending.Open fault) × (io.after ≡ io.before)

-- The job was executed on the desk of a new store in memory, without rows.
pub record ExecutesJobOnNewStore {R : Type 0} (machine : Bor R) (job : Job) (io : InputAndOutput) (end : Ending) : Type 0 where
  -- The connection, the store that was created over it, and this store after the job.
  pub conn : Held MemStore
  pub old : Held MemStore
  pub new : Held MemStore
  pub created : CreatePost over_memory conn old (Ok tt)
  pub executed : ExecutesJob over_memory machine job old new io end

-- The job was executed on a new desk in memory, or the desk could not be created.
abbrev pub ExecutesJobInMemory : {R : Type 0} → Bor R → Job → InputAndOutput → Ending → Type 0
ExecutesJobInMemory machine job io end = ((fault : Fault) × FailsToOpen fault io end) ⊎ ExecutesJobOnNewStore machine job io end

-- The job was executed on the store `old` of an open file, which was then closed.
pub record ExecutesJobAndCloses {S R : Type 0} (g : Ghosts S) (closes : CloseRelation S) (machine : Bor R) (job : Job) (old : Held S) (io : InputAndOutput)
    (end : Ending) : Type 0 where
  -- The store after the job, the ending of the job, and the result of the close.
  pub new : Held S
  pub reached : Ending
  pub closed : Result (Unit {0}) Fault
  pub executed : ExecutesJob g machine job old new io reached
  pub shut : closes new closed
  -- The ending is the ending of the job, or `Open` with the fault of the close if the job was done.
  pub ended : end ≡ ending_after_close reached closed

-- The job was executed on the store `old` of the open file at the path. A job that serves may open
-- the file again between two streams, by the relation `reopens` (`ServesStreamsInFile`); any other
-- job was executed on this store, which was then closed.
abbrev pub ExecutesJobOnStore : {S R : Type 0} → Ghosts S → OpenRelation S → CloseRelation S → Bor R → Job → List ℕ → Held S → InputAndOutput → Ending → Type 0
ExecutesJobOnStore g reopens closes machine (job.Serve port db existing at streams) path old io end =
    ServesStreamsInFile g reopens closes machine path at streams old end × (io.after ≡ io.before)
ExecutesJobOnStore g reopens closes machine job path old io end = ExecutesJobAndCloses g closes machine job old io end

-- The file at the path was opened with the result `opened`. `Ok`: the job was executed on its store
-- (`ExecutesJobOnStore`). `Err`: no job was executed.
abbrev pub ExecutesJobOnOpened : {S R : Type 0} → Ghosts S → OpenRelation S → CloseRelation S → Bor R → Job → List ℕ → Result (Held S) Fault → InputAndOutput
    → Ending → Type 0
ExecutesJobOnOpened g reopens closes machine job path (Ok store) io end = ExecutesJobOnStore g reopens closes machine job path store io end
ExecutesJobOnOpened g reopens closes machine job path (Err fault) io end = FailsToOpen fault io end

-- The file at the path was opened, by the relation `opens`, and the job was executed on its store.
pub record ExecutesJobInFile {S R : Type 0} (g : Ghosts S) (opens reopens : OpenRelation S) (closes : CloseRelation S) (machine : Bor R) (job : Job) (path : List ℕ)
    (io : InputAndOutput) (end : Ending) : Type 0 where
  pub result : Result (Held S) Fault
  pub opened : opens path result
  pub executed : ExecutesJobOnOpened g reopens closes machine job path result io end

-- `words` is the result of parsing the job's words. `Ok`: the file at the path was opened, and the
-- job was executed on its store. `Err`: the ending is the refusal; nothing was executed or written.
abbrev pub OpensUnlessRefused : {S R : Type 0} → Result (Unit {0}) Refusal → Ghosts S → OpenRelation S → CloseRelation S → Bor R → Job → List ℕ → InputAndOutput
    → Ending → Type 0
OpensUnlessRefused (Ok u) g opens closes machine job path io end = ExecutesJobInFile g opens opens closes machine job path io end
OpensUnlessRefused (Err refusal) g opens closes machine job path io end = (end ≡ ending.Statement (Refused refusal)) × (io.after ≡ io.before)

-- The job was executed in the file at the path, unless its words are refused
-- (`OpensUnlessRefused`), or memory ran out before its words were parsed, and nothing was written.
abbrev pub ExecutesJobInExistingFile : {S R : Type 0} → Ghosts S → OpenRelation S → CloseRelation S → Bor R → Job → List ℕ → InputAndOutput → Ending → Type 0
ExecutesJobInExistingFile g opens closes machine job path io end =
    (HasWords job × FailsToOpen Memory io end) ⊎ OpensUnlessRefused (result_of_words job) g opens closes machine job path io end

-- The place of a desk: in memory, in the file at a path, where a desk is created if there is none, in
-- the file at a path, which must have one that a job changes, or in such a file that a job reads.
pub data DeskPlace : Type 0 where
  InMemory : DeskPlace
  InFileOrNewFile : List ℕ → DeskPlace
  InFileWithDesk : List ℕ → DeskPlace
  InFile : List ℕ → DeskPlace

-- The place of a desk for an optional path; `existing`: no desk is created in a file.
abbrev pub place_of_optional_path : {Z : Type 0} → Option (String Z) → Bool → DeskPlace
place_of_optional_path None existing = InMemory
place_of_optional_path (Some path) false = InFileOrNewFile (string_bytes path)
place_of_optional_path (Some path) true = InFileWithDesk (string_bytes path)

-- The place of the desk of a job: for a batch and for serving, its file, or memory without a file;
-- for any other job, its file, which must exist.
abbrev pub place_of_job : Job → DeskPlace
place_of_job (job.Batch db existing at) = place_of_optional_path db existing
place_of_job (job.Serve port db existing at streams) = place_of_optional_path db existing
place_of_job (job.Statement db account from to) = InFile (string_bytes db)
place_of_job (job.Statements db from to customer) = InFile (string_bytes db)
place_of_job (job.Audit db) = InFile (string_bytes db)
place_of_job (job.Ask db json heads view arguments) = InFile (string_bytes db)
place_of_job (job.Explain db words) = InFile (string_bytes db)

-- The job was executed on the desk at the place.
abbrev pub ExecutesJobAt : {S R : Type 0} → Ghosts S → OpenRelation S → OpenRelation S → CloseRelation S → Bor R → Job → DeskPlace → InputAndOutput → Ending
    → Type 0
ExecutesJobAt g creates opens closes machine job InMemory io end = ExecutesJobInMemory machine job io end
ExecutesJobAt g creates opens closes machine job (InFileOrNewFile path) io end = ExecutesJobInFile g creates opens closes machine job path io end
ExecutesJobAt g creates opens closes machine job (InFileWithDesk path) io end = ExecutesJobInFile g opens opens closes machine job path io end
ExecutesJobAt g creates opens closes machine job (InFile path) io end = ExecutesJobInExistingFile g opens closes machine job path io end

-- After an audit that passed, and the close of its file, `ok` was written (`WritesAuditOk`).
-- Otherwise the ending stays, and nothing more was written.
abbrev pub PrintsOkAfterAudit : Job → Ending → Option Text → Option Text → Ending → Type 0
PrintsOkAfterAudit (job.Audit db) ending.Done before after end = WritesAuditOk before after end
PrintsOkAfterAudit job reached before after end = (end ≡ reached) × (after ≡ before)

-- The job was executed once, on the desk at its place; after a passed audit `ok` was written.
pub record RunsJob {S R : Type 0} (g : Ghosts S) (creates opens : OpenRelation S) (closes : CloseRelation S) (machine : Bor R) (job : Job) (io : InputAndOutput)
    (end : Ending) : Type 0 where
  -- The ending and the writer's content before the `ok` of an audit.
  pub reached : Ending
  pub mid : Option Text
  pub executed : ExecutesJobAt g creates opens closes machine job (place_of_job job) (record { input = io.input; before = io.before; after = mid }) reached
  pub printed : PrintsOkAfterAudit job reached mid io.after end
