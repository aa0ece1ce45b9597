use Rattle.std.proofs.Common.{ℕ, [], ◌∷◌, ◌++◌, codes, decimal, length, map, subst}
use Rattle.brk_model.specs.Statement.{amount_line, lot_line, holding_rows_of_account}
use Rattle.brk_report_lines.specs.Written.{WritesLines}
use Rattle.brk_report_lines.proofs.Composed.{breaks_behind, breaks_off}
use Rattle.brk_report.proofs.Handing.{behind, breaks_as, line_first}
use Rattle.brk_report.proofs.statements.parts.write_lot_part.Goals as goal

pub returns-in_err-lots-clause-written : goal.returns-in_err-lots-clause-written
returns-in_err-lots-clause-written g c = λ clean t holds.
    breaks_as _ _ _ _ _ c.from_residual.ensures.1
    (breaks_off (map lot_line (holding_rows_of_account t c.args.account)) (amount_line (codes "Holdings") c.args.holdings)
    ((codes "Cash rows " ++ decimal c.args.cash ++ codes ", lots " ++ decimal (length (holding_rows_of_account t c.args.account))) ∷ []) _ _ _
    (c.in_err-lots.ensures.written clean t holds))

pub returns-in_err-write_line-clause-written : goal.returns-in_err-write_line-clause-written
returns-in_err-write_line-clause-written g c = λ clean t holds.
    breaks_as _ _ _ _ _ c.from_residual-in_err-write_line.ensures.1
    (breaks_behind (map lot_line (holding_rows_of_account t c.args.account))
    (amount_line (codes "Holdings") c.args.holdings
    ∷ (codes "Cash rows " ++ decimal c.args.cash ++ codes ", lots " ++ decimal (length (holding_rows_of_account t c.args.account))) ∷ []) _ _ _ _
    (c.in_ok-lots.ensures.written clean t holds).0
    (line_first _ _ _ _ _ (c.in_err-write_line.ensures.written (amount_line (codes "Holdings") c.args.holdings) c.amount_line.ensures)))

pub returns-clause-written : goal.returns-clause-written
returns-clause-written g c = λ clean t holds.
    let lots = c.in_ok-lots.ensures.written clean t holds in
    behind (map lot_line (holding_rows_of_account t c.args.account))
    (amount_line (codes "Holdings") c.args.holdings
    ∷ (codes "Cash rows " ++ decimal c.args.cash ++ codes ", lots " ++ decimal (length (holding_rows_of_account t c.args.account))) ∷ []) _ _ _ _ lots.0
    (behind (amount_line (codes "Holdings") c.args.holdings ∷ [])
    ((codes "Cash rows " ++ decimal c.args.cash ++ codes ", lots " ++ decimal (length (holding_rows_of_account t c.args.account))) ∷ []) _ _ _ _
    (c.in_ok-write_line.ensures.written (amount_line (codes "Holdings") c.args.holdings) c.amount_line.ensures)
    (subst (λ (n : ℕ). WritesLines ((codes "Cash rows " ++ decimal c.args.cash ++ codes ", lots " ++ decimal n) ∷ [])
    (g.W.Write.contents c.write_line.new.writer) (g.W.Write.contents c.write_line-2.new.writer) c.write_line-2.result) lots.1
    (c.write_line-2.ensures.written (codes "Cash rows " ++ decimal c.args.cash ++ codes ", lots " ++ decimal c.in_ok-lots.lots) c.row_counts_line.ensures)))
