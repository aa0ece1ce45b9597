use Rattle.std.proofs.Common.{◌≡◌, ℤ, ◌+ℤ◌, [], ◌∷◌, refl, subst}
use Rattle.brk_ref.specs.Rows.{abstract_cash_row}
use Rattle.brk_model_explain.specs.AccountLines.{cash_posting_line}
use Rattle.brk_money.specs.declared.fault.CallFault.TheVariants as call
use Rattle.brk_report.proofs.Handing.{nothing_yet, on_err}
use Rattle.brk_report_lines.specs.Written.{FailsWithinLines}
use Rattle.brk_io.specs.declared.report_fault.LinesFault.TheVariants.{Desk}
use Rattle.brk_report_lines.proofs.Composed.{appends_none}
use Rattle.brk_explain.proofs.visitors.CashPostingWriterVisitorCashRowLinesFault.visit.Goals as goal

pub returns-in_err-balance-clause-stops : goal.returns-in_err-balance-clause-stops
returns-in_err-balance-clause-stops g c =
    let is : c.in_err-balance.field-0.0 ≡ Desk call.Store = let same = c.in_err-balance.ensures.fault in cc in
    on_err (FailsWithinLines (cash_posting_line (abstract_cash_row c.args.item.now) (c.args.self.now.balance +ℤ c.args.item.now.amount) ∷ []) _ _) _ _ c.from_residual.ensures.1 (nothing_yet _ _ _ is)

pub returns-in_default-clause-stops : goal.returns-in_default-clause-stops
returns-in_default-clause-stops g c =
    ([], cash_posting_line (abstract_cash_row c.args.item.now) (c.args.self.now.balance +ℤ c.args.item.now.amount), [], refl, appends_none _)

pub returns-in_err-write_line-clause-stops : goal.returns-in_err-write_line-clause-stops
returns-in_err-write_line-clause-stops g c =
    on_err (FailsWithinLines (cash_posting_line (abstract_cash_row c.args.item.now) (c.args.self.now.balance +ℤ c.args.item.now.amount) ∷ []) _ _) _ _ c.from_residual-in_err-write_line.ensures.1
    (subst (λ (z : ℤ). FailsWithinLines (cash_posting_line (abstract_cash_row c.args.item.now) z ∷ []) (g.W.Write.contents c.args.self.now.writer.now)
    (g.W.Write.contents c.write_line.new.writer) c.in_err-write_line.field-0.0) c.in_ok-balance.ensures.sum
    (c.in_err-write_line.ensures.written (cash_posting_line (abstract_cash_row c.args.item.now) c.in_ok-balance.balance) c.posting_text.ensures))
