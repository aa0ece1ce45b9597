use Rattle.std.proofs.Common.{map, refl, rules, sym, subst}
use Rattle.std.specs.Io.KnownBytes.{Appends}
use Rattle.brk_ref.specs.Rows.{abstract_holding_row}
use Rattle.brk_model.specs.Statement.{text_of_lines, lot_line, holding_rows_of_account}
use Rattle.brk_report_lines.specs.Written.{FailsWithinFirstLines}
use Rattle.brk_report.specs.declared.statements.visitors.LineWriter.{LineWriter}
use Rattle.brk_report.proofs.Section.{written_all, written_first}
use Rattle.brk_report.proofs.statements.sections.write_lot_lines.Goals as goal

pub returns-in-Ok-clause-written : goal.returns-in-Ok-clause-written
returns-in-Ok-clause-written g c = λ clean t holds.
    let w = written_all g.S.Store _ _ abstract_holding_row (λ t. holding_rows_of_account t c.args.account) _ _ _ _ t clean holds c.visit_lots.result
    c.visit_lots.ensures.walked lot_line (λ (v : LineWriter g.row.W.Denot). g.W.Write.contents v.writer.now) (λ v. v.count)
    (λ p x q h. (h.1, h.0)) (λ p x e q h. h) c.in-Ok.field-0 c.in-Ok.is refl in
    (subst (λ w. Appends (g.W.Write.contents c.args.writer.now) (g.W.Write.contents w) (text_of_lines (map lot_line (holding_rows_of_account t c.args.account)))) (search rules) w.0, w.1)

pub returns-in-Err-clause-written : goal.returns-in-Err-clause-written
returns-in-Err-clause-written g c = λ clean t holds.
    let w = written_first g.S.Store _ _ abstract_holding_row (λ t. holding_rows_of_account t c.args.account) _ _ _ _ t clean holds c.visit_lots.result
    c.visit_lots.ensures.walked lot_line (λ (v : LineWriter g.row.W.Denot). g.W.Write.contents v.writer.now) (λ v. v.count)
    (λ p x q h. (h.1, h.0)) (λ p x e q h. h) c.in-Err.stop c.in-Err.is in
    subst (λ w. FailsWithinFirstLines (map lot_line (holding_rows_of_account t c.args.account)) (g.W.Write.contents c.args.writer.now) (g.W.Write.contents w)
    c.fault_from_walk_error.result) (search rules)
    (subst (λ e. FailsWithinFirstLines (map lot_line (holding_rows_of_account t c.args.account)) (g.W.Write.contents c.args.writer.now)
    (g.W.Write.contents c.visit_lots.new.visitor.writer.now) e) (sym c.fault_from_walk_error.ensures) w)
