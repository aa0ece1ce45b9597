use Rattle.std.proofs.Common.{ℕ, ◌++◌, Err, Ok, length, subst}
use Rattle.brk_ref.specs.Records.{abstract_broker_row}
use Rattle.brk_model_explain.specs.BrokerLines.{broker_total_lines, broker_header_lines, completed_trades_of_broker}
use Rattle.brk_report.proofs.Handing.{behind, breaks_as}
use Rattle.brk_report_lines.specs.Written.{WritesLines}
use Rattle.brk_report_lines.proofs.Composed.{breaks_before, breaks_behind}
use Rattle.brk_explain.specs.ExplanationParts.{broker_trade_lines}
use Rattle.brk_explain.proofs.FirstLines.{breaks_off_before, text_written}
use Rattle.brk_explain.proofs.Explained.{broker_end_first, broker_top_first}
use Rattle.brk_explain.proofs.explaining.write_broker_lines.Goals as goal

pub returns-in_err-write_lines-clause-written : goal.returns-in_err-write_lines-clause-written
returns-in_err-write_lines-clause-written g c = λ clean t holds.
    let b = abstract_broker_row c.args.details.now.broker in
    let end = broker_total_lines b c.args.details.now.accounts (length (completed_trades_of_broker t c.args.broker)) in
    let wrote = text_written {R = Unit {0}} (broker_header_lines b) c.broker_header_text.result (g.W.Write.contents c.args.writer.now)
    (g.W.Write.contents c.write_lines.new.writer) (Err c.in_err-write_lines.field-0.0) (broker_top_first b) c.in_err-write_lines.ensures.written
    c.broker_header_text.ensures in
    breaks_as _ _ _ _ _ c.from_residual.ensures.1 (breaks_before (broker_header_lines b) (broker_trade_lines t c.args.broker ++ end) _ _ _ wrote)

pub returns-in_err-trades-clause-written : goal.returns-in_err-trades-clause-written
returns-in_err-trades-clause-written g c = λ clean t holds.
    let b = abstract_broker_row c.args.details.now.broker in
    let n = length (completed_trades_of_broker t c.args.broker) in
    let end = broker_total_lines b c.args.details.now.accounts n in
    let top = text_written {R = Unit {0}} (broker_header_lines b) c.broker_header_text.result (g.W.Write.contents c.args.writer.now)
    (g.W.Write.contents c.write_lines.new.writer) (Ok c.in_ok-write_lines.field-0) (broker_top_first b) c.in_ok-write_lines.ensures.written
    c.broker_header_text.ensures in
    let rows = broker_trade_lines t c.args.broker in
    breaks_as _ _ _ _ _ c.from_residual-in_err-trades.ensures.1
    (breaks_behind (broker_header_lines b) (rows ++ end) _ _ _ _ top
    (breaks_off_before rows end _ _ _ (broker_end_first b c.args.details.now.accounts n) (c.in_err-trades.ensures.written clean t holds)))

pub returns-clause-written : goal.returns-clause-written
returns-clause-written g c = λ clean t holds.
    let b = abstract_broker_row c.args.details.now.broker in
    let accounts = c.args.details.now.accounts in
    let trades = c.in_ok-trades.trades in
    let n = length (completed_trades_of_broker t c.args.broker) in
    let top = text_written {R = Unit {0}} (broker_header_lines b) c.broker_header_text.result (g.W.Write.contents c.args.writer.now)
    (g.W.Write.contents c.write_lines.new.writer) (Ok c.in_ok-write_lines.field-0) (broker_top_first b) c.in_ok-write_lines.ensures.written
    c.broker_header_text.ensures in
    let rows = broker_trade_lines t c.args.broker in
    let done = c.in_ok-trades.ensures.written clean t holds in
    let end = text_written (broker_total_lines b accounts trades) c.broker_end_text.result (g.W.Write.contents c.write_commissions.new.writer)
    (g.W.Write.contents c.write_lines-2.new.writer) c.write_lines-2.result (broker_end_first b accounts trades) c.write_lines-2.ensures.written
    c.broker_end_text.ensures in
    behind (broker_header_lines b) (rows ++ broker_total_lines b accounts n) _ _ _ _ top
    (behind rows (broker_total_lines b accounts n) _ _ _ _ done.0
    (subst (λ (k : ℕ). WritesLines (broker_total_lines b accounts k) (g.W.Write.contents c.write_commissions.new.writer)
    (g.W.Write.contents c.write_lines-2.new.writer) c.write_lines-2.result) done.1 end))
