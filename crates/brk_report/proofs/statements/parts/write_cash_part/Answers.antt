use Rattle.std.proofs.Common.{ℤ, ◌+ℤ◌, [], ◌∷◌, codes, subst}
use Rattle.std.specs.Io.KnownBytes.{Appends}
use Rattle.brk_model.specs.Statement.{amount_line, cash_move_rows_before_day, sorted_cash_rows_of_account, cash_move_rows_within_days, cash_row_total, text_of_lines}
use Rattle.brk_report_lines.specs.Written.{FailsWithinLines}
use Rattle.brk_report_lines.proofs.Composed.{breaks_behind, breaks_off, then_all}
use Rattle.brk_report.specs.CashWalk.{opening_and_cash_lines}
use Rattle.brk_report.proofs.Handing.{days_broke}
use Rattle.brk_report.proofs.statements.parts.write_cash_part.Goals as goal

pub returns-in_err-moved-clause-written : goal.returns-in_err-moved-clause-written
returns-in_err-moved-clause-written g c = λ clean t holds.
    let rows = sorted_cash_rows_of_account t c.args.account in
    let closing = c.args.opening +ℤ cash_row_total (cash_move_rows_before_day c.args.from rows) +ℤ cash_row_total (cash_move_rows_within_days c.args.from c.args.to rows) in
    days_broke t _ _ _ _ _ _ _ _ c.from_residual.ensures.1
    (breaks_off (opening_and_cash_lines t c.args.account c.args.from c.args.to c.args.opening) (amount_line (codes "Closing") closing) [] _ _ _ (c.in_err-moved.ensures.written clean t holds))

pub returns-in_err-write_line-clause-written : goal.returns-in_err-write_line-clause-written
returns-in_err-write_line-clause-written g c = λ clean t holds.
    let rows = sorted_cash_rows_of_account t c.args.account in
    let closing = c.args.opening +ℤ cash_row_total (cash_move_rows_before_day c.args.from rows) +ℤ cash_row_total (cash_move_rows_within_days c.args.from c.args.to rows) in
    let done = c.in_ok-moved.ensures.written clean t holds in
    days_broke t _ _ _ _ _ _ _ _ c.from_residual-in_err-write_line.ensures.1
    (breaks_behind (opening_and_cash_lines t c.args.account c.args.from c.args.to c.args.opening) (amount_line (codes "Closing") closing ∷ []) _ _ _ _ done.0
    (subst (λ (z : ℤ). FailsWithinLines (amount_line (codes "Closing") z ∷ []) (g.W.Write.contents c.write_cash_lines.new.writer)
    (g.W.Write.contents c.write_line.new.writer) c.in_err-write_line.field-0.0) done.2
    (c.in_err-write_line.ensures.written (amount_line (codes "Closing") c.in_ok-moved.moved.total) c.amount_line.ensures)))

pub returns-clause-written : goal.returns-clause-written
returns-clause-written g c = λ clean t holds.
    let rows = sorted_cash_rows_of_account t c.args.account in
    let closing = c.args.opening +ℤ cash_row_total (cash_move_rows_before_day c.args.from rows) +ℤ cash_row_total (cash_move_rows_within_days c.args.from c.args.to rows) in
    let done = c.in_ok-moved.ensures.written clean t holds in (
      then_all (opening_and_cash_lines t c.args.account c.args.from c.args.to c.args.opening) (amount_line (codes "Closing") closing ∷ []) _ _ _ done.0
          (subst (λ (z : ℤ). Appends (g.W.Write.contents c.write_cash_lines.new.writer) (g.W.Write.contents c.write_line.new.writer)
          (text_of_lines (amount_line (codes "Closing") z ∷ []))) done.2
          (c.in_ok-write_line.ensures.written (amount_line (codes "Closing") c.in_ok-moved.moved.total) c.amount_line.ensures)),
      done.1,
    )
