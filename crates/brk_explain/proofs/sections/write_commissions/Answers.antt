use Rattle.std.proofs.Common.{ℤ, pos, refl, rules, sym, subst}
use Rattle.std.specs.Io.KnownBytes.{Appends}
use Rattle.brk_ref.specs.Rows.{abstract_trade_row}
use Rattle.brk_model.specs.Statement.{text_of_lines}
use Rattle.brk_model.specs.Tables.{TradeRow}
use Rattle.brk_model_explain.specs.BrokerLines.{trade_commission_line, completed_trades_of_broker}
use Rattle.brk_model_explain.specs.Running.{lines_with_running_total}
use Rattle.brk_report_lines.specs.Written.{FailsWithinFirstLines}
use Rattle.brk_explain.specs.ExplanationParts.{broker_trade_lines}
use Rattle.brk_explain.specs.declared.visitors.TradeCommissionWriter.{TradeCommissionWriter}
use Rattle.brk_explain.proofs.RunningWalked.{rows_all, rows_first}
use Rattle.brk_explain.proofs.sections.write_commissions.Goals as goal

pub returns-in-Ok-clause-written : goal.returns-in-Ok-clause-written
returns-in-Ok-clause-written g c = λ clean t holds.
    let rows = rows_all g.S.Store _ _ abstract_trade_row (λ t. completed_trades_of_broker t c.args.broker) _ _ _ _ t clean holds
    c.visit_broker_trades.result c.visit_broker_trades.ensures.walked (λ (u : TradeRow). pos u.commission) trade_commission_line
    (λ (v : TradeCommissionWriter g.row.W.Denot). g.W.Write.contents v.writer.now) (λ v. v.count) (λ v. v.total)
    (λ p x q h. (h.2, h.1, h.0)) (λ p x e q h. h) c.in-Ok.field-0 c.in-Ok.is refl in
    let all = subst (λ (z : ℤ).
    Appends (g.W.Write.contents c.args.writer.now) (g.W.Write.contents c.visit_broker_trades.new.visitor.writer.now)
    (text_of_lines (lines_with_running_total (λ (u : TradeRow). pos u.commission) trade_commission_line z (completed_trades_of_broker t c.args.broker))))
    c.new.ensures rows.0 in
    (subst (λ v. Appends (g.W.Write.contents c.args.writer.now) (g.W.Write.contents v) (text_of_lines (broker_trade_lines t c.args.broker))) (search rules) all, rows.1)

pub returns-in-Err-clause-written : goal.returns-in-Err-clause-written
returns-in-Err-clause-written g c = λ clean t holds.
    let rows = rows_first g.S.Store _ _ abstract_trade_row (λ t. completed_trades_of_broker t c.args.broker) _ _ _ _ t clean holds
    c.visit_broker_trades.result c.visit_broker_trades.ensures.walked (λ (u : TradeRow). pos u.commission) trade_commission_line
    (λ (v : TradeCommissionWriter g.row.W.Denot). g.W.Write.contents v.writer.now) (λ v. v.count) (λ v. v.total)
    (λ p x q h. (h.2, h.1, h.0)) (λ p x e q h. h) c.in-Err.ended c.in-Err.is in
    let rows_from = λ (z : ℤ). lines_with_running_total (λ (u : TradeRow). pos u.commission) trade_commission_line z (completed_trades_of_broker t c.args.broker) in
    let told = subst (λ e. FailsWithinFirstLines (rows_from c.new.result) (g.W.Write.contents c.args.writer.now)
    (g.W.Write.contents c.visit_broker_trades.new.visitor.writer.now) e) (sym c.fault_from_walk_error.ensures) rows in
    let all = subst (λ (z : ℤ). FailsWithinFirstLines (rows_from z) (g.W.Write.contents c.args.writer.now)
    (g.W.Write.contents c.visit_broker_trades.new.visitor.writer.now) c.fault_from_walk_error.result) c.new.ensures told in
    subst (λ v. FailsWithinFirstLines (broker_trade_lines t c.args.broker) (g.W.Write.contents c.args.writer.now) (g.W.Write.contents v) c.fault_from_walk_error.result) (search rules) all
