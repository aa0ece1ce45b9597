use Rattle.std.proofs.Common.{◌∙◌, List, ap, subst}
use Rattle.std.specs.Io.KnownBytes.{Appends}
use Rattle.brk_model.specs.Statement.{text_of_lines}
use Rattle.brk_money.specs.Spelling.{Text}
use Rattle.brk_report_lines.specs.Written.{FailsWithinFirstLines, FailsWithinLines}
use Rattle.brk_report_lines.proofs.Composed.{then_all}
use Rattle.brk_store.specs.Walked.{cash_rows_in_span}
use Rattle.brk_report.specs.CashWalk.{lines_of_cash_rows, opening_line_unless_written, progress_before_cash_rows}
use Rattle.brk_report.specs.declared.statements.visitors.CashProgress.{CashProgress}
use Rattle.brk_report.proofs.CashWalked.{first_before, first_behind}
use Rattle.brk_report.proofs.Handing.{opening_broke}
use Rattle.brk_report.proofs.Opened.{end_of_walk, walk_count, walk_lines, walk_total}
use Rattle.brk_report.proofs.Section.{weaker}
use Rattle.brk_report.proofs.statements.sections.write_cash_lines.Goals as goal

pub returns-in_err-moved-clause-written : goal.returns-in_err-moved-clause-written
returns-in_err-moved-clause-written g c = λ clean t holds.
    let a = c.args in
    let first = c.start_of_day.result in
    let last = c.end_of_day.result in
    let lines = lines_of_cash_rows first (progress_before_cash_rows a.opening) (cash_rows_in_span a.account 0 last t) in
    let end = end_of_walk t a.account a.from a.to first last a.opening c.requires c.start_of_day.ensures c.end_of_day.ensures in
    opening_broke t _ _ _ _ _ _ _ _ c.from_residual.ensures.1
    (subst (λ (ls : List Text). FailsWithinFirstLines ls (g.W.Write.contents a.writer.now) (g.W.Write.contents c.walk_cash_lines.new.writer) c.in_err-moved.field-0.0)
    (walk_lines t a.account a.from a.to first last a.opening c.requires c.start_of_day.ensures c.end_of_day.ensures)
    (first_before lines (opening_line_unless_written end.is_opened end.total) _ _ _ (c.in_err-moved.ensures.written clean t holds)))

pub returns-in_err-write_opening_once-clause-written : goal.returns-in_err-write_opening_once-clause-written
returns-in_err-write_opening_once-clause-written g c = λ clean t holds.
    let a = c.args in
    let first = c.start_of_day.result in
    let last = c.end_of_day.result in
    let lines = lines_of_cash_rows first (progress_before_cash_rows a.opening) (cash_rows_in_span a.account 0 last t) in
    let end = end_of_walk t a.account a.from a.to first last a.opening c.requires c.start_of_day.ensures c.end_of_day.ensures in
    let rows = c.in_ok-moved.ensures.written clean t holds in
    let mid = g.W.Write.contents c.walk_cash_lines.new.writer in
    let after = g.W.Write.contents c.write_opening_once.new.writer in
    let e = c.in_err-write_opening_once.field-0.0 in
    opening_broke t _ _ _ _ _ _ _ _ c.from_residual-in_err-write_opening_once.ensures.1
    (subst (λ (ls : List Text). FailsWithinFirstLines ls (g.W.Write.contents a.writer.now) after e)
    (walk_lines t a.account a.from a.to first last a.opening c.requires c.start_of_day.ensures c.end_of_day.ensures)
    (first_behind lines (opening_line_unless_written end.is_opened end.total) _ _ _ _ rows.0
    (weaker _ _ _ _ (subst (λ (p : CashProgress). FailsWithinLines (opening_line_unless_written p.is_opened p.total) mid after e) rows.1 c.in_err-write_opening_once.ensures))))

pub returns-clause-written : goal.returns-clause-written
returns-clause-written g c = λ clean t holds.
    let a = c.args in
    let first = c.start_of_day.result in
    let last = c.end_of_day.result in
    let lines = lines_of_cash_rows first (progress_before_cash_rows a.opening) (cash_rows_in_span a.account 0 last t) in
    let end = end_of_walk t a.account a.from a.to first last a.opening c.requires c.start_of_day.ensures c.end_of_day.ensures in
    let rows = c.in_ok-moved.ensures.written clean t holds in
    let mid = g.W.Write.contents c.walk_cash_lines.new.writer in
    let after = g.W.Write.contents c.write_opening_once.new.writer in (
      subst (λ (ls : List Text). Appends (g.W.Write.contents a.writer.now) after (text_of_lines ls))
          (walk_lines t a.account a.from a.to first last a.opening c.requires c.start_of_day.ensures c.end_of_day.ensures)
          (then_all lines (opening_line_unless_written end.is_opened end.total) _ _ _ rows.0
          (subst (λ (p : CashProgress). Appends mid after (text_of_lines (opening_line_unless_written p.is_opened p.total))) rows.1 c.in_ok-write_opening_once.ensures)),
      ap (λ (p : CashProgress). p.count) rows.1 ∙ walk_count t a.account a.from a.to first last a.opening c.requires c.start_of_day.ensures c.end_of_day.ensures,
      ap (λ (p : CashProgress). p.total) rows.1 ∙ walk_total t a.account a.from a.to first last a.opening c.requires c.start_of_day.ensures c.end_of_day.ensures,
    )
