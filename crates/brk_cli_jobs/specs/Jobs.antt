-- What a job does on an open desk, and its ending. `g` is the specification of the storage `S`,
-- `machine` has the clock, `old` and `new` are the desk's store before and after. A condition that
-- bytes were written (`Appends`) is vacuous if the content before is unknown.
use Rattle.std.specs.Prelude.{◌≡◌, ◌⊎◌, Bool, ℕ, List, Option, None, Result, Ok, Err, codes, map, option_map, string_bytes, take}
use Rattle.std.specs.Borrow.{Bor}
use Rattle.std.specs.Io.KnownBytes.{Appends}
use Rattle.sqlite_trees.specs.declared.store.Store.{Ghosts}
use Rattle.sqlite.specs.Held.{Held, state}
use Rattle.sqlite.specs.State.{HasCleanDisk}
use Rattle.brk_cli_args.specs.declared.job.Job.{Job}
use Rattle.brk_cli_args.specs.declared.job.Job.TheVariants as job
use Rattle.brk_import_engine.specs.Batch.{BatchRefinesModel, IsBatchCrashSafe}
use Rattle.brk_import_engine.specs.declared.counts.Counts.{Counts}
use Rattle.brk_desk.specs.Answers.{model_outcome}
use Rattle.brk_desk.specs.Commands.{model_call}
use Rattle.brk_desk.specs.Runs.{IsRunWithOutcomes, IsSomeDeskRun}
use Rattle.brk_desk.specs.declared.call.Call as made
use Rattle.brk_desk.specs.declared.call.Outcome as came
use Rattle.brk_cli_exit.specs.declared.ending.Ending.{Ending}
use Rattle.brk_cli_exit.specs.declared.ending.Ending.TheVariants as ending
use Rattle.brk_model_explain.specs.Explain.{ExplainRequest, explanation, read_explain_request}
use Rattle.brk_import.specs.CrashTables.{CrashExposesOnlyOneOf}
use Rattle.brk_http_engine.specs.Listening.{ServeEachStreamPost}
use Rattle.brk_http_engine.specs.declared.listen_faults.ListenFault.{ListenFault}
use Rattle.brk_http.specs.Served.{DeskServesPeer}
use Rattle.brk_import.specs.Rows.{BatchMatchesRowCalls}
use Rattle.brk_io.specs.Readings.{ReturnsReading, program_clock}
use Rattle.brk_io.specs.Span.{ClockAndWriterChange}
use Rattle.brk_io.specs.declared.batch_fault.BatchFault.{BatchFault}
use Rattle.brk_io.specs.declared.program_clock.ProgramClock.{ProgramClock}
use Rattle.brk_io.specs.declared.report_fault.ReportFault.{ReportFault}
use Rattle.brk_io.specs.declared.report_fault.ReportFault.TheVariants.{Refused}
use Rattle.brk_model.specs.Ask.{parse_query}
use Rattle.brk_model.specs.Batch.{step_of_row}
use Rattle.brk_model.specs.Forms.{ReadResult}
use Rattle.brk_model.specs.Input.{input_text}
use Rattle.brk_model.specs.Queries.{Query}
use Rattle.brk_model.specs.Parse.{parse_by_first_field, row_parsers}
use Rattle.brk_money.specs.Spelling.{Text}
use Rattle.brk_money.specs.declared.fault.Fault.TheVariants.{Memory}
use Rattle.brk_ask.specs.Asked.{PrintViewPost, FailsWritingNothing}
use Rattle.brk_explain.specs.LinesOutput.{WriteLinesPost}
use Rattle.brk_report.specs.StatementOutput.{StatementPost}
use Rattle.brk_report.specs.StatementsOutput.{StatementsPost}
use Rattle.brk_ask.specs.declared.form.Form.{Form}
use Rattle.brk_store_transactions.specs.Audited.{Represents}
use Rattle.brk_cli_jobs.specs.Endings.{ending_of_batch, ending_of_report, ending_of_serving, ending_of_statement, result_of_serving}

-- The bytes that a job may read, and its writer's content before and after; `None` if unspecified.
pub record InputAndOutput : Type 0 where
  pub input : Option Text
  pub before : Option Text
  pub after : Option Text

-- The change of a clock and of the writer in a job that began with the program's clock.
abbrev pub clock_and_output : {R : Type 0} → Bor R → Option ℕ → ProgramClock R → InputAndOutput → ClockAndWriterChange (ProgramClock R)
clock_and_output machine at later io = record { clock = program_clock machine at; later = later; old = io.before; new = io.after }

-- The job executed the batch of its input once, with the program's clock, with the result, calls,
-- lines and crash safety of `run_batch`; nothing else changed the desk or was written.
pub record ExecutesBatch {S R : Type 0} (g : Ghosts S) (machine : Bor R) (at : Option ℕ) (old new : Held S) (io : InputAndOutput) (end : Ending) : Type 0 where
  pub result : Result Counts BatchFault
  -- The clock after the batch.
  pub later : ProgramClock R
  pub ended : end ≡ ending_of_batch result
  pub changed_only_by_calls : (calls : List (ℕ × made.Call)) × (outcomes : List came.Outcome) × IsRunWithOutcomes g old new calls outcomes
      × BatchMatchesRowCalls ReturnsReading (option_map input_text io.input) (map model_call calls) (map model_outcome outcomes)
      (clock_and_output machine at later io) result
  pub refines_model : BatchRefinesModel (λ desk. HasCleanDisk (state g desk)) (λ desk. Represents g desk) (parse_by_first_field row_parsers) step_of_row
      ReturnsReading (option_map input_text io.input) old new (clock_and_output machine at later io) result
  pub crash_safe : IsBatchCrashSafe (λ desk. HasCleanDisk (state g desk)) (λ desk. Represents g desk) (CrashExposesOnlyOneOf g)
      (parse_by_first_field row_parsers) step_of_row ReturnsReading (option_map input_text io.input) old new (clock_and_output machine at later io) result

-- The job wrote the account's statement of the days `from` to `to`, or failed (`StatementPost`).
abbrev pub WritesStatementOfAccount : {S : Type 0} → Ghosts S → ℕ → ℕ → ℕ → Held S → Held S → InputAndOutput → Ending → Type 0
WritesStatementOfAccount g account from to old new io end =
    (result : Result (Unit {0}) ReportFault) × (end ≡ ending_of_statement result) × StatementPost g old new account from to io.before io.after result

-- The job wrote the statements of the accounts of `customer`, or of all accounts, of the days `from`
-- to `to`, or failed (`StatementsPost`).
abbrev pub WritesStatementsOfAccounts : {S : Type 0} → Ghosts S → Option ℕ → ℕ → ℕ → Held S → Held S → InputAndOutput → Ending → Type 0
WritesStatementsOfAccounts g customer from to old new io end =
    (result : Result (Unit {0}) ReportFault) × (end ≡ ending_of_statement result) × StatementsPost g old new customer from to io.before io.after result

-- Memory ran out before the desk was read: the desk is unchanged, and nothing was written.
abbrev pub FailsBeforeReading : {S : Type 0} → Held S → Held S → InputAndOutput → Ending → Type 0
FailsBeforeReading old new io end = (end ≡ ending.Open Memory) × (new ≡ old) × (io.after ≡ io.before)

-- The job wrote the view that `query` requests, in the format `form`, or failed (`PrintViewPost`).
-- Whether its writer's pipe was closed is not specified.
abbrev pub WritesView : {S : Type 0} → Ghosts S → Form → ReadResult Query → Held S → Held S → InputAndOutput → Ending → Type 0
WritesView g form query old new io end =
    FailsBeforeReading old new io end
    ⊎ ((result : Result (Unit {0}) ReportFault) × (closed : Bool) × (end ≡ ending_of_report closed result)
    × PrintViewPost g old new form query io.before io.after result)

-- The result of writing what `request` requests: of a request, the lines of its explanation
-- (`WriteLinesPost`); of a malformed one, its refusal, with the desk unchanged and nothing written.
abbrev pub ExplainsRequest : {S : Type 0} → Ghosts S → ReadResult ExplainRequest → Held S → Held S → InputAndOutput → Result (Unit {0}) ReportFault → Type 0
ExplainsRequest g (Ok request) old new io result = WriteLinesPost g old new (λ t. explanation t request) io.before io.after result
ExplainsRequest g (Err refusal) old new io result = (new ≡ old) × FailsWritingNothing io.before io.after result (Refused refusal)

-- The job wrote the explanation that `request` requests, or failed (`ExplainsRequest`). Whether its
-- writer's pipe was closed is not specified.
abbrev pub WritesExplanation : {S : Type 0} → Ghosts S → ReadResult ExplainRequest → Held S → Held S → InputAndOutput → Ending → Type 0
WritesExplanation g request old new io end =
    FailsBeforeReading old new io end
    ⊎ ((result : Result (Unit {0}) ReportFault) × (closed : Bool) × (end ≡ ending_of_report closed result) × ExplainsRequest g request old new io result)

-- `streams` streams of a listener were served in sequence, or serving them failed (`serve_on`).
-- `gives` is the relation of a reading of the clock, which is `clock` before and `later` after.
pub record ServesListener {S C : Type 0} (g : Ghosts S) (gives : C → ℕ → C → Type 0) (streams : ℕ) (clock later : C) (old new : Held S)
    (result : Result (Unit {0}) Ending) : Type 0 where
  pub listened : Result (Unit {0}) ListenFault
  pub ended : result ≡ result_of_serving listened
  pub served : IsSomeDeskRun g old new
  -- The listener and the peers are sockets, so nothing is said of them: no clause relates a listener to
  -- a port, and no contract says what a peer sends or receives.
  pub taken : ServeEachStreamPost {L = Unit {0}} {P = Unit {0}} (λ _ _ _. Unit {0}) (DeskServesPeer g gives (λ _. None) (λ _. None)) streams
      (record { listener = tt; clock = clock; desk = old }) listened (record { listener = tt; clock = later; desk = new })

-- The job served its streams with the readings of the program's clock (`ServesListener`), or its
-- port could not be opened, and the desk is unchanged.
abbrev pub ServesStreams : {S R : Type 0} → Ghosts S → Bor R → Option ℕ → ℕ → Held S → Held S → Ending → Type 0
ServesStreams {R = R} g machine at streams old new end =
    ((end ≡ ending.Net) × (new ≡ old))
    ⊎ ((result : Result (Unit {0}) Ending) × (later : ProgramClock R) × (end ≡ ending_of_serving result)
    × ServesListener g ReturnsReading streams (program_clock machine at) later old new result)

-- The bytes `ok` and a line feed were written, and the ending is `Done`; or a prefix of them,
-- perhaps empty or all of them, and the ending is `Output`.
abbrev pub WritesAuditOk : Option Text → Option Text → Ending → Type 0
WritesAuditOk before after end =
    ((end ≡ ending.Done) × Appends before after (codes "ok\n")) ⊎ ((end ≡ ending.Output) × ((k : ℕ) × Appends before after (take k (codes "ok\n"))))

-- What the job does on an open desk. An audit does nothing here: it passed when the desk was opened.
abbrev pub ExecutesJob : {S R : Type 0} → Ghosts S → Bor R → Job → Held S → Held S → InputAndOutput → Ending → Type 0
ExecutesJob g machine (job.Batch db existing at) old new io end = ExecutesBatch g machine at old new io end
ExecutesJob g machine (job.Statement db account from to) old new io end = WritesStatementOfAccount g account from to old new io end
ExecutesJob g machine (job.Statements db from to customer) old new io end = WritesStatementsOfAccounts g customer from to old new io end
ExecutesJob g machine (job.Audit db) old new io end = (end ≡ ending.Done) × (new ≡ old) × (io.after ≡ io.before)
ExecutesJob g machine (job.Ask db json heads view arguments) old new io end =
    WritesView g (record { json = json; heads = heads }) (parse_query (string_bytes view) (map string_bytes arguments.items)) old new io end
ExecutesJob g machine (job.Explain db words) old new io end = WritesExplanation g (read_explain_request (map string_bytes words.items)) old new io end
ExecutesJob g machine (job.Serve port db existing at streams) old new io end = ServesStreams g machine at streams old new end × (io.after ≡ io.before)
