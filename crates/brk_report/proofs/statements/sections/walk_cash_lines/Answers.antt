use Rattle.std.proofs.Common.{◌∙◌, ℕ, ℤ, Err, Ok, arith, rules, sym, subst}
use Rattle.sqlite.specs.Held.{state}
use Rattle.sqlite.specs.State.{HasCleanDisk}
use Rattle.brk_model.specs.Tables.{Tables}
use Rattle.brk_io.specs.declared.report_fault.LinesFault.{LinesFault}
use Rattle.brk_store_transactions.specs.Holds.{HoldsRows}
use Rattle.brk_store.specs.Walked.{cash_rows_in_span}
use Rattle.brk_report.specs.CashWalk.{WritesLinesOfCashWalk}
use Rattle.brk_report.specs.declared.statements.visitors.CashLineWriter.{CashLineWriter}
use Rattle.brk_report.proofs.CashWalked.{walk_all, walk_first}
use Rattle.brk_report.proofs.statements.sections.walk_cash_lines.Goals as goal

pub returns-in-Ok-clause-written : goal.returns-in-Ok-clause-written
returns-in-Ok-clause-written g c =
    let before = g.W.Write.contents c.args.writer.now in
    let after = g.W.Write.contents c.visit_cash_rows.new.visitor.writer.now in
    subst
    (λ w. HasCleanDisk (state g.S.Store c.visit_cash_rows.new.self) → (t : Tables) → HoldsRows g.S.Store c.args.desk.now t
    → WritesLinesOfCashWalk (cash_rows_in_span c.args.account 0 c.args.last t) c.args.first c.args.opening before (g.W.Write.contents w) (Ok c.progress.result))
    (search rules)
    (λ clean t holds.
    let list = cash_rows_in_span c.args.account c.nearest.result c.args.last in
    let w = walk_all g.S.Store _ _ list _ _ _ _ t clean holds c.visit_cash_rows.result c.visit_cash_rows.ensures.walked
    (λ (v : CashLineWriter g.row.W.Denot). v.first) (λ v. v.moved) (λ v. g.W.Write.contents v.writer.now) (λ p x q h. h) (λ p x e q h. h) c.in-Ok.field-0 c.in-Ok.is in
    subst (λ (z : ℕ). WritesLinesOfCashWalk (cash_rows_in_span c.args.account z c.args.last t) c.args.first c.args.opening before after (Ok c.progress.result)) (c.nearest.ensures.below (omega arith))
    (subst (λ (x : ℤ). WritesLinesOfCashWalk (list t) c.args.first x before after (Ok c.progress.result)) c.from.ensures (w.0, c.progress.ensures ∙ w.1)))

pub returns-in-Err-clause-written : goal.returns-in-Err-clause-written
returns-in-Err-clause-written g c =
    let before = g.W.Write.contents c.args.writer.now in
    let after = g.W.Write.contents c.visit_cash_rows.new.visitor.writer.now in
    let fault = c.fault_from_walk_error.result in
    subst
    (λ w. HasCleanDisk (state g.S.Store c.visit_cash_rows.new.self) → (t : Tables) → HoldsRows g.S.Store c.args.desk.now t
    → WritesLinesOfCashWalk (cash_rows_in_span c.args.account 0 c.args.last t) c.args.first c.args.opening before (g.W.Write.contents w) (Err fault))
    (search rules)
    (λ clean t holds.
    let list = cash_rows_in_span c.args.account c.nearest.result c.args.last in
    let w = walk_first g.S.Store _ _ list _ _ _ _ t clean holds c.visit_cash_rows.result c.visit_cash_rows.ensures.walked
    (λ (v : CashLineWriter g.row.W.Denot). v.first) (λ v. v.moved) (λ v. g.W.Write.contents v.writer.now) (λ p x q h. h) (λ p x e q h. h) c.in-Err.stop c.in-Err.is in
    subst (λ (z : ℕ). WritesLinesOfCashWalk (cash_rows_in_span c.args.account z c.args.last t) c.args.first c.args.opening before after (Err fault)) (c.nearest.ensures.below (omega arith))
    (subst (λ (x : ℤ). WritesLinesOfCashWalk (list t) c.args.first x before after (Err fault)) c.from.ensures
    (subst (λ (e : LinesFault). WritesLinesOfCashWalk (list t) c.args.first c.from.result before after (Err e)) (sym c.fault_from_walk_error.ensures) w)))
