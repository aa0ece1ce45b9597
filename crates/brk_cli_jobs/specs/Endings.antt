-- The ending of a job, by the result of the call that did its work.
use Rattle.std.specs.Prelude.{Bool, true, false, Result, Ok, Err}
use Rattle.brk_import_engine.specs.declared.counts.Counts.{Counts}
use Rattle.brk_cli_exit.specs.declared.ending.Ending.{Ending}
use Rattle.brk_cli_exit.specs.declared.ending.Ending.TheVariants as ending
use Rattle.brk_http_engine.specs.declared.listen_faults.ListenFault.{ListenFault}
use Rattle.brk_http_engine.specs.declared.listen_faults.ListenFault.TheVariants as listen
use Rattle.brk_io.specs.declared.batch_fault.BatchFault.{BatchFault}
use Rattle.brk_io.specs.declared.report_fault.ReportFault.{ReportFault}
use Rattle.brk_io.specs.declared.report_fault.ReportFault.TheVariants as report

-- The ending of a batch job: `Done` if the batch completed, otherwise `Batch` with its fault.
abbrev pub ending_of_batch : Result Counts BatchFault → Ending
ending_of_batch (Ok counts) = ending.Done
ending_of_batch (Err fault) = ending.Batch fault

-- The ending of a job that wrote a statement or several: `Done`, or `Statement` with the refusal or
-- the fault.
abbrev pub ending_of_statement : Result (Unit {0}) ReportFault → Ending
ending_of_statement (Ok u) = ending.Done
ending_of_statement (Err fault) = ending.Statement fault

-- The ending of a job that wrote a view or an explanation: `Done` if all was written, `ClosedPipe`
-- if the writer failed on a closed pipe (`closed`), otherwise `Statement` with the cause.
abbrev pub ending_of_report : Bool → Result (Unit {0}) ReportFault → Ending
ending_of_report closed (Ok u) = ending.Done
ending_of_report closed (Err (report.Refused refusal)) = ending.Statement (report.Refused refusal)
ending_of_report closed (Err (report.Desk fault)) = ending.Statement (report.Desk fault)
ending_of_report true (Err report.Write) = ending.ClosedPipe
ending_of_report false (Err report.Write) = ending.Statement report.Write

-- The result of serving streams: `Ok`, or the ending `Serve` with the fault of a stream, or `Net`.
abbrev pub result_of_serving : Result (Unit {0}) ListenFault → Result (Unit {0}) Ending
result_of_serving (Ok u) = Ok tt
result_of_serving (Err (listen.Stream fault)) = Err (ending.Serve fault)
result_of_serving (Err listen.Net) = Err ending.Net

-- The ending of a job that served streams: `Done` at `Ok`, otherwise the ending of the fault.
abbrev pub ending_of_serving : Result (Unit {0}) Ending → Ending
ending_of_serving (Ok u) = ending.Done
ending_of_serving (Err end) = end
