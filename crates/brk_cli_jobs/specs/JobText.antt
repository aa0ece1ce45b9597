-- What a job that reads a desk in a file prints, in the words of the model.
use Rattle.std.specs.Prelude.{◌≡◌, ◌⊎◌, List, Option, Some, None, Result, Ok, Err, ℕ, codes, map, string_bytes}
use Rattle.std.specs.Io.KnownBytes.{Appends}
use Rattle.sqlite_trees.specs.declared.store.Store.{Ghosts}
use Rattle.sqlite.specs.Held.{Held, state}
use Rattle.sqlite.specs.State.{HasCleanDisk}
use Rattle.brk_ask.specs.Printed.{printed_view_text}
use Rattle.brk_ask.specs.declared.form.Form.{Form}
use Rattle.brk_cli_args.specs.declared.job.Job.{Job}
use Rattle.brk_cli_args.specs.declared.job.Job.TheVariants as job
use Rattle.brk_cli_exit.specs.declared.ending.Ending.{Ending}
use Rattle.brk_cli_exit.specs.declared.ending.Ending.TheVariants as ending
use Rattle.brk_io.specs.declared.report_fault.ReportFault.TheVariants.{Refused}
use Rattle.brk_model.specs.Ask.{ask, parse_query}
use Rattle.brk_model.specs.Base.{Base}
use Rattle.brk_model.specs.Forms.{ReadResult}
use Rattle.brk_model.specs.Queries.{Query}
use Rattle.brk_model.specs.Sheets.{sheets}
use Rattle.brk_model.specs.Statement.{statement, text_of_lines}
use Rattle.brk_model.specs.Statements.{statements}
use Rattle.brk_model.specs.Tables.{Tables}
use Rattle.brk_model_explain.specs.Explain.{ExplainRequest, explanation, read_explain_request}
use Rattle.brk_money.specs.Spelling.{Text}
use Rattle.brk_money.specs.declared.fault.Fault.{Fault}
use Rattle.brk_money.specs.declared.refusal.Refusal.{Refusal}
use Rattle.brk_store_transactions.specs.Audited.{Represents}
use Rattle.brk_cli_jobs.specs.Files.{CloseRelation, OpenRelation}
use Rattle.brk_cli_jobs.specs.Jobs.{InputAndOutput}
use Rattle.brk_cli_jobs.specs.Places.{DeskPlace, InFile}
use Rattle.brk_cli_jobs.specs.Words.{result_of_words}

-- The text of the value of `result`, or the refusal.
abbrev pub text_or_refusal : {A : Type 0} → (A → Text) → Result A Refusal → Result Text Refusal
text_or_refusal text (Ok value) = Ok (text value)
text_or_refusal text (Err refusal) = Err refusal

-- The bytes, in the format `form`, of the view that the query returns on `base`, or the refusal of
-- the words or of the query.
abbrev pub text_of_view : Form → Base → ReadResult Query → Result Text Refusal
text_of_view form base (Ok query) = text_or_refusal (printed_view_text form query) (ask base query)
text_of_view form base (Err refusal) = Err refusal

-- The lines of the explanation that the request returns for the tables `t`, or the refusal of the
-- words or of the request.
abbrev pub text_of_explanation : Tables → ReadResult ExplainRequest → Result Text Refusal
text_of_explanation t (Ok request) = text_or_refusal text_of_lines (explanation t request)
text_of_explanation t (Err refusal) = Err refusal

-- The text that the model determines for a job over a desk with the base `base`, or its refusal: a
-- statement or several, a view, an explanation, or `ok` of an audit. `None` for a batch and for
-- serving.
abbrev pub text_of_job : Base → Job → Option (Result Text Refusal)
text_of_job base (job.Statement db account from to) = Some (statement (sheets base) account from to)
text_of_job base (job.Statements db from to customer) = Some (statements (sheets base) customer from to)
text_of_job base (job.Ask db json heads view arguments) =
    Some (text_of_view (record { json = json; heads = heads }) base (parse_query (string_bytes view) (map string_bytes arguments.items)))
text_of_job base (job.Explain db words) = Some (text_of_explanation (sheets base) (read_explain_request (map string_bytes words.items)))
text_of_job base (job.Audit db) = Some (Ok (codes "ok\n"))
text_of_job base (job.Batch db existing at) = None
text_of_job base (job.Serve port db existing at streams) = None

-- Exactly this text was written. False of a refusal, vacuous without a text, or if the writer's
-- content before is unknown.
abbrev pub WritesExactly : Option (Result Text Refusal) → InputAndOutput → Type 0
WritesExactly None io = Unit {0}
WritesExactly (Some (Ok text)) io = Appends io.before io.after text
WritesExactly (Some (Err refusal)) io = ⊥

-- The desk in the file at `path` was opened, and closed without a fault. Under the disk assumption,
-- for every base that the opened desk represented, exactly the job's text of this base was written,
-- and the closed desk represents it.
pub record PrintsTextOfFile {S : Type 0} (g : Ghosts S) (opens : OpenRelation S) (closes : CloseRelation S) (path : List ℕ) (job : Job)
    (io : InputAndOutput) : Type 0 where
  -- The store when it was opened and when it was closed.
  pub first : Held S
  pub last : Held S
  pub opened : opens path (Ok first)
  pub closed : closes last (Ok tt)
  pub printed : HasCleanDisk (state g last) → (base : Base) → Represents g first base → WritesExactly (text_of_job base job) io × Represents g last base

-- The desk in the file at `path` was opened, and closed, with any result. Under the disk assumption
-- the model refuses the job with `refusal` for every base that the opened desk represented.
pub record RefusesJobOfFile {S : Type 0} (g : Ghosts S) (opens : OpenRelation S) (closes : CloseRelation S) (path : List ℕ) (job : Job)
    (refusal : Refusal) : Type 0 where
  -- The store when it was opened and when it was closed, and the result of the close.
  pub first : Held S
  pub last : Held S
  pub closed : Result (Unit {0}) Fault
  pub opened : opens path (Ok first)
  pub shut : closes last closed
  pub refused : HasCleanDisk (state g last) → (base : Base) → Represents g first base → text_of_job base job ≡ Some (Err refusal)

-- The model refuses the words of the job, or what they request of the desk in the file at `path`.
abbrev pub ModelRefuses : {S : Type 0} → Ghosts S → OpenRelation S → CloseRelation S → List ℕ → Job → Refusal → Type 0
ModelRefuses g opens closes path job refusal = (result_of_words job ≡ Err refusal) ⊎ RefusesJobOfFile g opens closes path job refusal

-- The job was executed on the desk in the existing file at `path`.
pub record PrintsJobOfFile {S : Type 0} (g : Ghosts S) (opens : OpenRelation S) (closes : CloseRelation S) (path : List ℕ) (job : Job) (io : InputAndOutput)
    (end : Ending) : Type 0 where
  -- `Done` means that exactly the model's text was written (`PrintsTextOfFile`).
  pub done : end ≡ ending.Done → PrintsTextOfFile g opens closes path job io
  -- A refusal is the model's (`ModelRefuses`), and nothing was written.
  pub refused : (refusal : Refusal) → end ≡ ending.Statement (Refused refusal) → (io.after ≡ io.before) × ModelRefuses g opens closes path job refusal

-- The job of a desk in an existing file printed what the model says (`PrintsJobOfFile`). Vacuous for
-- a desk at another place, on which a batch or a service is executed.
abbrev pub PrintsJobAt : {S : Type 0} → Ghosts S → OpenRelation S → CloseRelation S → Job → DeskPlace → InputAndOutput → Ending → Type 0
PrintsJobAt g opens closes job (InFile path) io end = PrintsJobOfFile g opens closes path job io end
PrintsJobAt g opens closes job place io end = Unit {0}
