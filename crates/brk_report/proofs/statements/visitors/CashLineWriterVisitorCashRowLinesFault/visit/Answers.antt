use Rattle.std.proofs.Common.{◌≡◌, ◌+◌, ◌∙◌, ℤ, true, false, ap, refl, rules, sym}
use Rattle.std.specs.Prelude.{nat_lt}
use Rattle.brk_ref.specs.Rows.{abstract_cash_row}
use Rattle.brk_money.specs.declared.fault.CallFault.TheVariants as call
use Rattle.brk_report_lines.specs.Written.{FailsWithinFirstLines}
use Rattle.brk_io.specs.declared.report_fault.LinesFault.TheVariants.{Desk}
use Rattle.brk_report_lines.proofs.Composed.{appends_none}
use Rattle.brk_report.specs.CashWalk.{lines_of_cash_row}
use Rattle.brk_report.specs.declared.statements.visitors.CashProgress.{CashProgress}
use Rattle.brk_report.proofs.CashWalked.{none_first}
use Rattle.brk_report.proofs.Handing.{on_err}
use Rattle.brk_report.proofs.Section.{weaker}
use Rattle.brk_report.proofs.statements.visitors.CashLineWriterVisitorCashRowLinesFault.visit.Goals as goal

pub returns-in_err-total-clause-stops : goal.returns-in_err-total-clause-stops
returns-in_err-total-clause-stops g c =
    let self = c.args.self.now in
    let item = c.args.item.now in
    let is : c.in_err-total.field-0.0 ≡ Desk call.Store = let same = c.in_err-total.ensures.fault in cc in
    on_err (FailsWithinFirstLines (lines_of_cash_row (nat_lt item.stamp self.first) self.moved (abstract_cash_row item)) _ _) _ _ c.from_residual.ensures.1 (none_first _ _ _ is)

pub returns-then-is_before_stamp-clause-takes : goal.returns-then-is_before_stamp-clause-takes
returns-then-is_before_stamp-clause-takes g c =
    let self = c.args.self.now in
    let item = c.args.item.now in
    let early : nat_lt item.stamp self.first ≡ true = sym c.is_before_stamp.ensures ∙ c.if-is_before_stamp.true in
    let added : (z : ℤ) → CashProgress = λ z. record { is_opened = self.moved.is_opened; count = self.moved.count; total = z } in
    rw early (refl, ap added c.in_ok-total.ensures.sum, appends_none _)

pub returns-in_default-clause-stops : goal.returns-in_default-clause-stops
returns-in_default-clause-stops g c = none_first _ _ _ refl

pub returns-in_err-write_cash_row-clause-stops : goal.returns-in_err-write_cash_row-clause-stops
returns-in_err-write_cash_row-clause-stops g c =
    let self = c.args.self.now in
    let item = c.args.item.now in
    let late : nat_lt item.stamp self.first ≡ false = sym c.is_before_stamp.ensures ∙ c.if-is_before_stamp.false in
    on_err (FailsWithinFirstLines (lines_of_cash_row (nat_lt item.stamp self.first) self.moved (abstract_cash_row item)) _ _) _ _ c.from_residual-in_err-write_cash_row.ensures.1
    (rw late (weaker _ _ _ _ c.in_err-write_cash_row.ensures))

pub returns-clause-takes : goal.returns-clause-takes
returns-clause-takes g c =
    let self = c.args.self.now in
    let item = c.args.item.now in
    let late : nat_lt item.stamp self.first ≡ false = sym c.is_before_stamp.ensures ∙ c.if-is_before_stamp.false in
    let counted : c.in-Some.count ≡ self.moved.count + 1 = search rules in
    rw late (refl, (λ i. record { is_opened = true; count = counted i; total = c.in_ok-total.ensures.sum i }), c.in_ok-write_cash_row.ensures)
