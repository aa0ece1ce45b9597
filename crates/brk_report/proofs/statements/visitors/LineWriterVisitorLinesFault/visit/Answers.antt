use Rattle.std.proofs.Common.{[], ◌∷◌, refl}
use Rattle.brk_report_lines.specs.Written.{FailsWithinLines}
use Rattle.brk_report_lines.proofs.Composed.{appends_none}
use Rattle.brk_report.proofs.Handing.{on_err}
use Rattle.brk_report.proofs.statements.visitors.LineWriterVisitorLinesFault.visit.Goals as goal

pub returns-in_default-clause-stops : goal.returns-in_default-clause-stops
returns-in_default-clause-stops g c = ([], g.R.Line.line c.args.item.now, [], refl, appends_none _)

pub returns-in_err-write_line-clause-stops : goal.returns-in_err-write_line-clause-stops
returns-in_err-write_line-clause-stops g c =
    on_err (FailsWithinLines (g.R.Line.line c.args.item.now ∷ []) _ _) _ _ c.from_residual.ensures.1
    (c.in_err-write_line.ensures.written (g.R.Line.line c.args.item.now) c.line.ensures.line)
