use Rattle.std.proofs.Common.{[], ◌∷◌, refl}
use Rattle.brk_ref.specs.Rows.{abstract_holding_row}
use Rattle.brk_model_explain.specs.AccountLines.{open_lot_line}
use Rattle.brk_report.proofs.Handing.{on_err}
use Rattle.brk_report_lines.specs.Written.{FailsWithinLines}
use Rattle.brk_report_lines.proofs.Composed.{appends_none}
use Rattle.brk_explain.proofs.visitors.OpenLotWriterVisitorHoldingRowLinesFault.visit.Goals as goal

pub returns-in_default-clause-stops : goal.returns-in_default-clause-stops
returns-in_default-clause-stops g c = ([], open_lot_line (abstract_holding_row c.args.item.now), [], refl, appends_none _)

pub returns-in_err-write_line-clause-stops : goal.returns-in_err-write_line-clause-stops
returns-in_err-write_line-clause-stops g c =
    on_err (FailsWithinLines (open_lot_line (abstract_holding_row c.args.item.now) ∷ []) _ _) _ _ c.from_residual.ensures.1
    (c.in_err-write_line.ensures.written (open_lot_line (abstract_holding_row c.args.item.now)) c.open_lot_text.ensures)
