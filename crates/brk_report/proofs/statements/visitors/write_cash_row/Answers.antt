use Rattle.std.proofs.Common.{[], ◌∷◌}
use Rattle.brk_ref.specs.Rows.{abstract_cash_row}
use Rattle.brk_model.specs.Statement.{cash_row_line}
use Rattle.brk_report.specs.CashWalk.{opening_line_unless_written}
use Rattle.brk_report_lines.proofs.Composed.{breaks_before}
use Rattle.brk_report.proofs.Handing.{behind, breaks_as}
use Rattle.brk_report.proofs.statements.visitors.write_cash_row.Goals as goal

pub returns-in_err-write_opening_once : goal.returns-in_err-write_opening_once
returns-in_err-write_opening_once g c =
    breaks_as _ _ _ _ _ c.from_residual.ensures.1
    (breaks_before (opening_line_unless_written c.args.moved.is_opened c.args.moved.total) (cash_row_line (abstract_cash_row c.args.item.now) ∷ []) _ _ _
    c.in_err-write_opening_once.ensures)

pub returns : goal.returns
returns g c =
    let line = cash_row_line (abstract_cash_row c.args.item.now) in
    behind (opening_line_unless_written c.args.moved.is_opened c.args.moved.total) (line ∷ []) _ _ _ _ c.in_ok-write_opening_once.ensures
    (c.write_line.ensures.written line c.line.ensures.line)
