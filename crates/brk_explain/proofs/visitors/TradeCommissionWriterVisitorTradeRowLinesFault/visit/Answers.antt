use Rattle.std.proofs.Common.{◌≡◌, ℤ, ◌+ℤ◌, [], ◌∷◌, pos, refl, subst}
use Rattle.brk_ref.specs.Rows.{abstract_trade_row}
use Rattle.brk_model_explain.specs.BrokerLines.{trade_commission_line}
use Rattle.brk_money.specs.declared.fault.CallFault.TheVariants as call
use Rattle.brk_report.proofs.Handing.{nothing_yet, on_err}
use Rattle.brk_report_lines.specs.Written.{FailsWithinLines}
use Rattle.brk_io.specs.declared.report_fault.LinesFault.TheVariants.{Desk}
use Rattle.brk_report_lines.proofs.Composed.{appends_none}
use Rattle.brk_explain.proofs.visitors.TradeCommissionWriterVisitorTradeRowLinesFault.visit.Goals as goal

pub returns-in_err-total-clause-stops : goal.returns-in_err-total-clause-stops
returns-in_err-total-clause-stops g c =
    let is : c.in_err-total.field-0.0 ≡ Desk call.Store = let same = c.in_err-total.ensures.fault in cc in
    on_err (FailsWithinLines (trade_commission_line (abstract_trade_row c.args.item.now) (c.args.self.now.total +ℤ pos c.args.item.now.commission) ∷ []) _ _) _
    _ c.from_residual.ensures.1 (nothing_yet _ _ _ is)

pub returns-in_default-clause-stops : goal.returns-in_default-clause-stops
returns-in_default-clause-stops g c =
    ([], trade_commission_line (abstract_trade_row c.args.item.now) (c.args.self.now.total +ℤ pos c.args.item.now.commission), [], refl, appends_none _)

pub returns-in_err-write_line-clause-stops : goal.returns-in_err-write_line-clause-stops
returns-in_err-write_line-clause-stops g c =
    on_err (FailsWithinLines (trade_commission_line (abstract_trade_row c.args.item.now) (c.args.self.now.total +ℤ pos c.args.item.now.commission) ∷ []) _ _) _
    _ c.from_residual-in_err-write_line.ensures.1
    (subst (λ (z : ℤ). FailsWithinLines (trade_commission_line (abstract_trade_row c.args.item.now) z ∷ []) (g.W.Write.contents c.args.self.now.writer.now)
    (g.W.Write.contents c.write_line.new.writer) c.in_err-write_line.field-0.0) c.in_ok-total.ensures.sum
    (c.in_err-write_line.ensures.written (trade_commission_line (abstract_trade_row c.args.item.now) c.in_ok-total.total) c.trade_commission_text.ensures))
