use Rattle.std.proofs.Common.{◌≡◌, ℤ, List, length, refl, rules, sym, subst}
use Rattle.std.specs.Io.KnownBytes.{Appends}
use Rattle.brk_ref.specs.Rows.{abstract_cash_row}
use Rattle.brk_money.specs.Moments.{greatest_day}
use Rattle.brk_model.specs.Statement.{text_of_lines}
use Rattle.brk_model.specs.Tables as tables
use Rattle.brk_model_explain.specs.AccountLines.{account_cash_rows_by_stamp, cash_posting_line, cash_posting_lines}
use Rattle.brk_report_lines.specs.Written.{FailsWithinFirstLines}
use Rattle.brk_store.specs.Walked.{cash_rows_in_span}
use Rattle.brk_report.proofs.Days.{rows_within}
use Rattle.brk_explain.specs.ExplanationParts.{account_cash_lines}
use Rattle.brk_explain.specs.declared.visitors.CashPostingWriter.{CashPostingWriter}
use Rattle.brk_explain.proofs.RunningWalked.{rows_all, rows_first}
use Rattle.brk_explain.proofs.sections.write_postings.Goals as goal

pub returns-in-Ok-clause-written : goal.returns-in-Ok-clause-written
returns-in-Ok-clause-written g c = λ clean t holds.
    let list = cash_rows_in_span c.args.account c.nearest.result c.nearest-last.result in
    let days = rows_within t c.args.account 0 greatest_day c.nearest.result c.nearest-last.result (search rules) (search rules) in
    let w = rows_all g.S.Store _ _ abstract_cash_row list _ _ _ _ t clean holds c.visit_cash_rows.result c.visit_cash_rows.ensures.walked (λ row. row.amount)
    cash_posting_line (λ (v : CashPostingWriter g.row.W.Denot). g.W.Write.contents v.writer.now) (λ v. v.count) (λ v. v.balance)
    (λ p x q h. (h.2, h.1, h.0)) (λ p x e q h. h) c.in-Ok.field-0 c.in-Ok.is refl in
    let rows = subst (λ (rows : List tables.CashRow).
    Appends (g.W.Write.contents c.args.writer.now) (g.W.Write.contents c.visit_cash_rows.new.visitor.writer.now)
    (text_of_lines (cash_posting_lines c.from.result rows)) × (c.visit_cash_rows.new.visitor.count ≡ length rows)) days w in
    let all = subst (λ (z : ℤ). Appends (g.W.Write.contents c.args.writer.now) (g.W.Write.contents c.visit_cash_rows.new.visitor.writer.now)
    (text_of_lines (cash_posting_lines z (account_cash_rows_by_stamp t c.args.account)))) c.from.ensures rows.0 in
    (subst (λ v. Appends (g.W.Write.contents c.args.writer.now) (g.W.Write.contents v) (text_of_lines (account_cash_lines t c.args.account c.args.opening))) (search rules) all, rows.1)

pub returns-in-Err-clause-written : goal.returns-in-Err-clause-written
returns-in-Err-clause-written g c = λ clean t holds.
    let list = cash_rows_in_span c.args.account c.nearest.result c.nearest-last.result in
    let days = rows_within t c.args.account 0 greatest_day c.nearest.result c.nearest-last.result (search rules) (search rules) in
    let w = rows_first g.S.Store _ _ abstract_cash_row list _ _ _ _ t clean holds c.visit_cash_rows.result c.visit_cash_rows.ensures.walked (λ row. row.amount)
    cash_posting_line (λ (v : CashPostingWriter g.row.W.Denot). g.W.Write.contents v.writer.now) (λ v. v.count) (λ v. v.balance)
    (λ p x q h. (h.2, h.1, h.0)) (λ p x e q h. h) c.in-Err.stop c.in-Err.is in
    let rows = subst (λ (rows : List tables.CashRow). FailsWithinFirstLines (cash_posting_lines c.from.result rows) (g.W.Write.contents c.args.writer.now)
    (g.W.Write.contents c.visit_cash_rows.new.visitor.writer.now) c.fault_from_walk_error.result) days
    (subst (λ e. FailsWithinFirstLines (cash_posting_lines c.from.result (list t)) (g.W.Write.contents c.args.writer.now)
    (g.W.Write.contents c.visit_cash_rows.new.visitor.writer.now) e) (sym c.fault_from_walk_error.ensures) w) in
    let all = subst (λ (z : ℤ). FailsWithinFirstLines (cash_posting_lines z (account_cash_rows_by_stamp t c.args.account))
    (g.W.Write.contents c.args.writer.now) (g.W.Write.contents c.visit_cash_rows.new.visitor.writer.now) c.fault_from_walk_error.result) c.from.ensures rows
    in
    subst (λ v. FailsWithinFirstLines (account_cash_lines t c.args.account c.args.opening) (g.W.Write.contents c.args.writer.now) (g.W.Write.contents v)
    c.fault_from_walk_error.result) (search rules) all
