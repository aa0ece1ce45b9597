use Rattle.std.proofs.Common.{codes}
use Rattle.brk_model.specs.Statement.{amount_line}
use Rattle.brk_report_lines.proofs.Composed.{appends_none}
use Rattle.brk_report.proofs.statements.visitors.write_opening_once.Goals as goal

pub returns-then-is_written : goal.returns-then-is_written
returns-then-is_written g c = rw c.if-is_written.true (appends_none _)

pub returns : goal.returns
returns g c = rw c.if-is_written.false (c.write_line.ensures.written (amount_line (codes "Opening") c.args.opening) c.amount_line.ensures)
