-- A report fails with the fault with which writing its lines fails.
use Rattle.std.proofs.Common.{◌≡◌, Result, Ok, Err, IfErr, sym, subst}
use Rattle.std.specs.Prelude.{IsErrAnd}
use Rattle.brk_money.specs.Kinds.{fault_of_call}
use Rattle.brk_money.specs.declared.refusal.Refusal.{Refusal}
use Rattle.brk_io.specs.Faults.{report_fault_of_lines_fault}
use Rattle.brk_io.specs.declared.report_fault.LinesFault.{LinesFault}
use Rattle.brk_io.specs.declared.report_fault.LinesFault.TheVariants.{Desk, Write}
use Rattle.brk_io.specs.declared.report_fault.ReportFault.{ReportFault}
use Rattle.brk_io.specs.declared.report_fault.ReportFault.TheVariants as report
use Rattle.brk_report.specs.StatementOutput.{IsReportFaultOtherThanDamage}
use Rattle.brk_desk.proofs.Asked.{is_call_fault}

-- the result of a report that fails because writing its lines does
abbrev pub FailsAsLines : {Y : Type 0} → Result Y ReportFault → LinesFault → Type 0
FailsAsLines outer e = IsErrAnd outer (λ out. out ≡ report_fault_of_lines_fault e)

-- what holds of the fault holds of the result
pub reported : {Y : Type 0} (P : Result Y ReportFault → Type 0) (outer : Result Y ReportFault) (e : LinesFault) → FailsAsLines outer e → P (Err (report_fault_of_lines_fault e)) → P outer
reported P (Err out) e is h = subst (λ f. P (Err f)) (sym is) h
reported P (Ok y) e is h = absurd is

pub reported_fault : {Y : Type 0} (outer : Result Y ReportFault) (e : LinesFault) → FailsAsLines outer e → IfErr outer IsReportFaultOtherThanDamage
reported_fault outer e is = reported (λ r. IfErr r IsReportFaultOtherThanDamage) outer e is (same e)
  where
    same : (e : LinesFault) → IsReportFaultOtherThanDamage (report_fault_of_lines_fault e)
    same (Desk f) = is_call_fault f
    same Write = tt

-- it is no refusal
pub no_refusal : {Y : Type 0} (outer : Result Y ReportFault) (e : LinesFault) (refusal : Refusal) → FailsAsLines outer e → outer ≡ Err (report.Refused refusal) → ⊥
no_refusal (Err out) (Desk f) refusal is same = let desk : out ≡ report.Desk (fault_of_call f) = is in cc
no_refusal (Err out) Write refusal is same = let write : out ≡ report.Write = is in cc
no_refusal (Ok y) e refusal is same = absurd is
