-- The fault of writing lines for a walk that failed.
use Rattle.brk_tables_views.specs.declared.walking.WalkError.{WalkError}
use Rattle.brk_tables_views.specs.declared.walking.WalkError.TheVariants.{Failed, Cause}
use Rattle.brk_io.specs.declared.report_fault.LinesFault.{LinesFault}
use Rattle.brk_io.specs.declared.report_fault.LinesFault.TheVariants.{Desk}

-- The fault of lines whose walk failed: the desk's fault for `Failed`, the visitor's for `Cause`.
abbrev pub fault_of_walk_error : WalkError LinesFault → LinesFault
fault_of_walk_error (Failed fault) = Desk fault
fault_of_walk_error (Cause fault) = fault
