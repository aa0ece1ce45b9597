-- The fault of a report whose lines could not be written.
use Rattle.brk_money.specs.Kinds.{fault_of_call}
use Rattle.brk_io.specs.declared.report_fault.LinesFault.{LinesFault}
use Rattle.brk_io.specs.declared.report_fault.LinesFault.TheVariants as lines
use Rattle.brk_io.specs.declared.report_fault.ReportFault.{ReportFault}
use Rattle.brk_io.specs.declared.report_fault.ReportFault.TheVariants.{Desk, Write}

-- The fault of a report whose lines could not be written: `Desk` with the desk's fault, or `Write`.
abbrev pub report_fault_of_lines_fault : LinesFault → ReportFault
report_fault_of_lines_fault (lines.Desk fault) = Desk (fault_of_call fault)
report_fault_of_lines_fault lines.Write = Write
