-- The exit status and the error line of each ending.
use Rattle.std.specs.Prelude.{ℕ, List, [], ◌∷◌, ◌++◌, Result, Err, codes, decimal, string_bytes}
use Rattle.brk_money.specs.declared.fault.Fault.{Fault}
use Rattle.brk_money.specs.declared.fault.Fault.TheVariants as fault
use Rattle.brk_money.specs.Kinds.{refusal_number}
use Rattle.brk_io.specs.declared.report_fault.ReportFault.{ReportFault}
use Rattle.brk_io.specs.declared.report_fault.ReportFault.TheVariants as report
use Rattle.brk_io.specs.declared.batch_fault.FaultKind.{FaultKind}
use Rattle.brk_io.specs.declared.batch_fault.FaultKind.TheVariants as kind
use Rattle.brk_io.specs.declared.stream_fault.FaultKind.{FaultKind as StreamFault}
use Rattle.brk_io.specs.declared.stream_fault.FaultKind.TheVariants as stream
use Rattle.brk_cli_exit.specs.declared.ending.Ending.{Ending}
use Rattle.brk_cli_exit.specs.declared.ending.Ending.TheVariants as ending
use Rattle.brk_io.specs.declared.usage_fault.UsageFault.{UsageFault}
use Rattle.brk_io.specs.declared.usage_fault.UsageFault.TheVariants as usage
use Rattle.brk_cli_exit.specs.Lines.{error_line_of_fault}

-- The exit status of a fault: 1 for `Damaged`, 3 for `Memory` and `Store`.
abbrev pub exit_status_of_fault : Fault → ℕ
exit_status_of_fault (fault.Damaged condition) = 1
exit_status_of_fault fault.Memory = 3
exit_status_of_fault fault.Store = 3

-- The exit status of a batch that ended early: 1 if its header or its end record is missing or
-- wrong, 3 if reading or writing failed, otherwise the exit status of the desk's fault.
abbrev pub exit_status_of_batch_fault : FaultKind → ℕ
exit_status_of_batch_fault kind.BadHeader = 1
exit_status_of_batch_fault kind.NoEnd = 1
exit_status_of_batch_fault kind.BadEnd = 1
exit_status_of_batch_fault kind.Read = 3
exit_status_of_batch_fault kind.Write = 3
exit_status_of_batch_fault (kind.Desk fault) = exit_status_of_fault fault

-- The exit status of a failed report: 1 if refused, 3 if writing failed, otherwise the fault's.
abbrev pub exit_status_of_report_fault : ReportFault → ℕ
exit_status_of_report_fault (report.Refused refusal) = 1
exit_status_of_report_fault (report.Desk fault) = exit_status_of_fault fault
exit_status_of_report_fault report.Write = 3

-- The exit status of an ending: 0 if the job is done or help or the version was requested; 2 for
-- wrong arguments; 3 if a stream ended early, the port could not be opened or a stream accepted,
-- the output could not be written, also to a closed pipe, or memory ran out while the arguments
-- were read or parsed; otherwise by the fault of `Open`, `Batch` or `Statement`.
abbrev pub exit_status : Ending → ℕ
exit_status ending.Done = 0
exit_status (ending.Open fault) = exit_status_of_fault fault
exit_status (ending.Batch fault) = exit_status_of_batch_fault fault.kind
exit_status (ending.Statement fault) = exit_status_of_report_fault fault
exit_status (ending.Serve fault) = 3
exit_status ending.Net = 3
exit_status ending.Output = 3
exit_status ending.ClosedPipe = 3
exit_status (ending.Usage (usage.Help text)) = 0
exit_status (ending.Usage (usage.Words text)) = 2
exit_status (ending.Usage usage.Day) = 2
exit_status (ending.Usage usage.Memory) = 3

-- The ending after the database was closed with the result `closed`: `Open` with the fault of the
-- close if the job was done and the close failed, otherwise the ending before.
abbrev pub ending_after_close : Ending → Result (Unit {0}) Fault → Ending
ending_after_close ending.Done (Err fault) = ending.Open fault
ending_after_close ending closed = ending

-- The error line, with its line feed, of a batch that ended early: `brk: batch: ` and what is wrong
-- with its header or end, `brk: fault: ` and `read` or `write`, or the desk's fault line.
abbrev pub error_line_of_batch : FaultKind → List ℕ
error_line_of_batch kind.BadHeader = codes "brk: batch: bad header\n"
error_line_of_batch kind.NoEnd = codes "brk: batch: no end\n"
error_line_of_batch kind.BadEnd = codes "brk: batch: bad end\n"
error_line_of_batch kind.Read = codes "brk: fault: read\n"
error_line_of_batch kind.Write = codes "brk: fault: write\n"
error_line_of_batch (kind.Desk fault) = error_line_of_fault fault

-- The error line of a stream's fault: `brk: fault: `, and `read`, `write` or `memory`, with its LF.
abbrev pub error_line_of_stream : StreamFault → List ℕ
error_line_of_stream stream.Read = codes "brk: fault: read\n"
error_line_of_stream stream.Write = codes "brk: fault: write\n"
error_line_of_stream stream.Memory = codes "brk: fault: memory\n"

-- The error line of a report that is refused or ended early, with its line feed: `brk: refused: `
-- and the refusal's number, the line of the desk's fault, or `brk: fault: write`.
abbrev pub error_line_of_report : ReportFault → List ℕ
error_line_of_report (report.Refused refusal) = codes "brk: refused: " ++ (decimal (refusal_number refusal) ++ (10 ∷ []))
error_line_of_report (report.Desk fault) = error_line_of_fault fault
error_line_of_report report.Write = codes "brk: fault: write\n"

-- The bytes for standard error if the arguments request no job: the text of wrong arguments,
-- perhaps empty, the line of a malformed day or of memory that ran out, or none (help, version).
abbrev pub error_line_of_usage : UsageFault → List ℕ
error_line_of_usage (usage.Words text) = string_bytes text
error_line_of_usage (usage.Help text) = []
error_line_of_usage usage.Day = codes "brk: usage: day\n"
error_line_of_usage usage.Memory = codes "brk: fault: memory\n"

-- The bytes that an ending sends to standard error: the error line or the error text of its fault,
-- `brk: fault: net` or `brk: fault: write` with a line feed for `Net` or `Output`, which have no
-- fault, or no byte for a job that is done, for help, for the version and for a closed pipe.
abbrev pub error_line : Ending → List ℕ
error_line ending.Done = []
error_line (ending.Open fault) = error_line_of_fault fault
error_line (ending.Batch fault) = error_line_of_batch fault.kind
error_line (ending.Statement fault) = error_line_of_report fault
error_line (ending.Serve fault) = error_line_of_stream fault.kind
error_line ending.Net = codes "brk: fault: net\n"
error_line ending.Output = codes "brk: fault: write\n"
error_line ending.ClosedPipe = []
error_line (ending.Usage fault) = error_line_of_usage fault
