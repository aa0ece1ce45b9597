use Rattle.std.proofs.Common.{ℕ, ◌++◌, length, subst}
use Rattle.brk_model.specs.Statement.{sorted_cash_rows_of_account, cash_move_rows_within_days}
use Rattle.brk_report_lines.specs.Written.{WritesLines}
use Rattle.brk_report_lines.proofs.Composed.{breaks_before, breaks_behind}
use Rattle.brk_report.specs.StatementParts.{cash_and_closing_lines, lot_and_total_lines, statement_header_lines}
use Rattle.brk_report.proofs.Handing.{behind, breaks_as}
use Rattle.brk_report.proofs.Keeping.{clean_then}
use Rattle.brk_report.proofs.statements.writing.write_statement_lines.Goals as goal

pub returns-in_err-write_header-clause-written : goal.returns-in_err-write_header-clause-written
returns-in_err-write_header-clause-written g c = λ clean t holds.
    let a = c.args in
    let days = cash_and_closing_lines t a.account a.from a.to a.head.now.opening in
    let rest = lot_and_total_lines t a.account a.head.now.holdings (length (cash_move_rows_within_days a.from a.to (sorted_cash_rows_of_account t a.account))) in
    breaks_as _ _ _ _ _ c.from_residual.ensures.1
    (breaks_before (statement_header_lines a.account a.head.now.name a.from a.to) (days ++ rest) _ _ _ c.in_err-write_header.ensures)

pub returns-in_err-cash-clause-written : goal.returns-in_err-cash-clause-written
returns-in_err-cash-clause-written g c = λ clean t holds.
    let a = c.args in
    let days = cash_and_closing_lines t a.account a.from a.to a.head.now.opening in
    let rest = lot_and_total_lines t a.account a.head.now.holdings (length (cash_move_rows_within_days a.from a.to (sorted_cash_rows_of_account t a.account))) in
    breaks_as _ _ _ _ _ c.from_residual-in_err-cash.ensures.1
    (breaks_behind (statement_header_lines a.account a.head.now.name a.from a.to) (days ++ rest) _ _ _ _ c.in_ok-write_header.ensures
    (breaks_before days rest _ _ _ (c.in_err-cash.ensures.written clean t holds)))

pub returns-clause-written : goal.returns-clause-written
returns-clause-written g c = λ clean t holds.
    let a = c.args in
    let mid = clean_then g.S.Store c.write_cash_part.new.desk c.write_lot_part.new.desk c.write_lot_part.ensures.keeps clean in
    let second = c.write_cash_part.ensures.keeps.same_rows t holds in
    let done = c.in_ok-cash.ensures.written mid t holds in
    let days = cash_and_closing_lines t a.account a.from a.to a.head.now.opening in
    let rest = lot_and_total_lines t a.account a.head.now.holdings (length (cash_move_rows_within_days a.from a.to (sorted_cash_rows_of_account t a.account))) in
    behind (statement_header_lines a.account a.head.now.name a.from a.to) (days ++ rest) _ _ _ _ c.in_ok-write_header.ensures
    (behind days rest _ _ _ _ done.0
    (subst (λ (n : ℕ). WritesLines (lot_and_total_lines t a.account a.head.now.holdings n) (g.W.Write.contents c.write_cash_part.new.writer)
    (g.W.Write.contents c.write_lot_part.new.writer) c.write_lot_part.result) done.1
    (c.write_lot_part.ensures.written clean t second)))
