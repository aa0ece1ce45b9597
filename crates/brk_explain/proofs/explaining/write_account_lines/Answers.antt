use Rattle.std.proofs.Common.{ℕ, ◌++◌, Err, Ok, length, map, subst}
use Rattle.brk_model.specs.Statement.{holding_rows_of_account}
use Rattle.brk_ref.specs.Records.{abstract_account_row}
use Rattle.brk_model_explain.specs.AccountLines.{holding_and_total_lines, account_header_lines, balance_and_lot_header_lines, account_cash_rows_by_stamp}
use Rattle.brk_explain_rows.specs.Details.{abstract_priced_holding}
use Rattle.brk_report.proofs.Handing.{behind, breaks_as}
use Rattle.brk_report.proofs.Keeping.{clean_then}
use Rattle.brk_report_lines.specs.Written.{WritesLines}
use Rattle.brk_report_lines.proofs.Composed.{breaks_before, breaks_behind}
use Rattle.brk_explain.specs.ExplanationParts.{account_cash_lines, account_lot_lines}
use Rattle.brk_explain.proofs.FirstLines.{breaks_off_before, first_before, text_written}
use Rattle.brk_explain.proofs.Explained.{balance_first, bottom_first, top_first}
use Rattle.brk_explain.proofs.explaining.write_account_lines.Goals as goal

pub returns-in_err-write_lines-clause-written : goal.returns-in_err-write_lines-clause-written
returns-in_err-write_lines-clause-written g c = λ clean t holds.
    let a = abstract_account_row c.args.details.now.account in
    let bottom = holding_and_total_lines a (map abstract_priced_holding c.args.details.now.held.items) (length (account_cash_rows_by_stamp t c.args.account))
    (length (holding_rows_of_account t c.args.account)) in
    let wrote = text_written {R = Unit {0}} (account_header_lines a) c.account_header_text.result (g.W.Write.contents c.args.writer.now)
    (g.W.Write.contents c.write_lines.new.writer) (Err c.in_err-write_lines.field-0.0) (top_first a) c.in_err-write_lines.ensures.written
    c.account_header_text.ensures in
    breaks_as _ _ _ _ _ c.from_residual.ensures.1
    (breaks_before (account_header_lines a) (account_cash_lines t c.args.account a.opening ++ (balance_and_lot_header_lines a ++ (account_lot_lines t c.args.account ++ bottom))) _ _ _ wrote)

pub returns-in_err-cash-clause-written : goal.returns-in_err-cash-clause-written
returns-in_err-cash-clause-written g c = λ clean t holds.
    let a = abstract_account_row c.args.details.now.account in
    let bottom = holding_and_total_lines a (map abstract_priced_holding c.args.details.now.held.items) (length (account_cash_rows_by_stamp t c.args.account))
    (length (holding_rows_of_account t c.args.account)) in
    let top = text_written {R = Unit {0}} (account_header_lines a) c.account_header_text.result (g.W.Write.contents c.args.writer.now)
    (g.W.Write.contents c.write_lines.new.writer) (Ok c.in_ok-write_lines.field-0) (top_first a) c.in_ok-write_lines.ensures.written
    c.account_header_text.ensures in
    let cash = account_cash_lines t c.args.account a.opening in
    let rest = balance_and_lot_header_lines a ++ (account_lot_lines t c.args.account ++ bottom) in
    breaks_as _ _ _ _ _ c.from_residual-in_err-cash.ensures.1
    (breaks_behind (account_header_lines a) (cash ++ rest) _ _ _ _ top
    (breaks_off_before cash rest _ _ _ (first_before (balance_and_lot_header_lines a) (account_lot_lines t c.args.account ++ bottom) (balance_first a)) (c.in_err-cash.ensures.written clean t holds)))

pub returns-in_err-write_lines-2-clause-written : goal.returns-in_err-write_lines-2-clause-written
returns-in_err-write_lines-2-clause-written g c = λ clean t holds.
    let a = abstract_account_row c.args.details.now.account in
    let bottom = holding_and_total_lines a (map abstract_priced_holding c.args.details.now.held.items) (length (account_cash_rows_by_stamp t c.args.account))
    (length (holding_rows_of_account t c.args.account)) in
    let top = text_written {R = Unit {0}} (account_header_lines a) c.account_header_text.result (g.W.Write.contents c.args.writer.now)
    (g.W.Write.contents c.write_lines.new.writer) (Ok c.in_ok-write_lines.field-0) (top_first a) c.in_ok-write_lines.ensures.written
    c.account_header_text.ensures in
    let balance = text_written {R = Unit {0}} (balance_and_lot_header_lines a) c.lots_head_text.result (g.W.Write.contents c.write_postings.new.writer)
    (g.W.Write.contents c.write_lines-2.new.writer) (Err c.in_err-write_lines-2.field-0.0) (balance_first a) c.in_err-write_lines-2.ensures.written
    c.lots_head_text.ensures in
    let cash = account_cash_lines t c.args.account a.opening in
    let rest = account_lot_lines t c.args.account ++ bottom in
    breaks_as _ _ _ _ _ c.from_residual-in_err-write_lines-2.ensures.1
    (breaks_behind (account_header_lines a) (cash ++ (balance_and_lot_header_lines a ++ rest)) _ _ _ _ top
    (breaks_behind cash (balance_and_lot_header_lines a ++ rest) _ _ _ _ (c.in_ok-cash.ensures.written clean t holds).0 (breaks_before (balance_and_lot_header_lines a) rest _ _ _ balance)))

pub returns-in_err-lots-clause-written : goal.returns-in_err-lots-clause-written
returns-in_err-lots-clause-written g c = λ clean t holds.
    let a = abstract_account_row c.args.details.now.account in
    let held = map abstract_priced_holding c.args.details.now.held.items in
    let bottom = holding_and_total_lines a held (length (account_cash_rows_by_stamp t c.args.account)) (length (holding_rows_of_account t c.args.account)) in
    let mid = clean_then g.S.Store c.write_postings.new.desk c.write_open_lots.new.desk c.write_open_lots.ensures.keeps clean in
    let still = c.write_postings.ensures.keeps.same_rows t holds in
    let top = text_written {R = Unit {0}} (account_header_lines a) c.account_header_text.result (g.W.Write.contents c.args.writer.now)
    (g.W.Write.contents c.write_lines.new.writer) (Ok c.in_ok-write_lines.field-0) (top_first a) c.in_ok-write_lines.ensures.written
    c.account_header_text.ensures in
    let balance = text_written {R = Unit {0}} (balance_and_lot_header_lines a) c.lots_head_text.result (g.W.Write.contents c.write_postings.new.writer)
    (g.W.Write.contents c.write_lines-2.new.writer) (Ok c.in_ok-write_lines-2.field-0) (balance_first a) c.in_ok-write_lines-2.ensures.written
    c.lots_head_text.ensures in
    let cash = account_cash_lines t c.args.account a.opening in
    let lots = account_lot_lines t c.args.account in
    breaks_as _ _ _ _ _ c.from_residual-in_err-lots.ensures.1
    (breaks_behind (account_header_lines a) (cash ++ (balance_and_lot_header_lines a ++ (lots ++ bottom))) _ _ _ _ top
    (breaks_behind cash (balance_and_lot_header_lines a ++ (lots ++ bottom)) _ _ _ _ (c.in_ok-cash.ensures.written mid t holds).0
    (breaks_behind (balance_and_lot_header_lines a) (lots ++ bottom) _ _ _ _ balance
    (breaks_off_before lots bottom _ _ _
    (bottom_first a held (length (account_cash_rows_by_stamp t c.args.account)) (length (holding_rows_of_account t c.args.account)))
    (c.in_err-lots.ensures.written clean t still)))))

pub returns-clause-written : goal.returns-clause-written
returns-clause-written g c = λ clean t holds.
    let a = abstract_account_row c.args.details.now.account in
    let held = map abstract_priced_holding c.args.details.now.held.items in
    let bottom = holding_and_total_lines a held (length (account_cash_rows_by_stamp t c.args.account)) (length (holding_rows_of_account t c.args.account)) in
    let mid = clean_then g.S.Store c.write_postings.new.desk c.write_open_lots.new.desk c.write_open_lots.ensures.keeps clean in
    let still = c.write_postings.ensures.keeps.same_rows t holds in
    let top = text_written {R = Unit {0}} (account_header_lines a) c.account_header_text.result (g.W.Write.contents c.args.writer.now)
    (g.W.Write.contents c.write_lines.new.writer) (Ok c.in_ok-write_lines.field-0) (top_first a) c.in_ok-write_lines.ensures.written
    c.account_header_text.ensures in
    let balance = text_written {R = Unit {0}} (balance_and_lot_header_lines a) c.lots_head_text.result (g.W.Write.contents c.write_postings.new.writer)
    (g.W.Write.contents c.write_lines-2.new.writer) (Ok c.in_ok-write_lines-2.field-0) (balance_first a) c.in_ok-write_lines-2.ensures.written
    c.lots_head_text.ensures in
    let posted = c.in_ok-cash.ensures.written mid t holds in
    let kept = c.in_ok-lots.ensures.written clean t still in
    let shown = map abstract_priced_holding c.deref.result.now in
    let written = text_written (holding_and_total_lines a shown c.in_ok-cash.cash c.in_ok-lots.lots) c.account_end_text.result
    (g.W.Write.contents c.write_open_lots.new.writer) (g.W.Write.contents c.write_lines-3.new.writer) c.write_lines-3.result
    (bottom_first a shown c.in_ok-cash.cash c.in_ok-lots.lots) c.write_lines-3.ensures.written c.account_end_text.ensures in
    let end = subst (λ all. WritesLines (holding_and_total_lines a (map abstract_priced_holding all) c.in_ok-cash.cash c.in_ok-lots.lots)
    (g.W.Write.contents c.write_open_lots.new.writer) (g.W.Write.contents c.write_lines-3.new.writer) c.write_lines-3.result) c.deref.ensures.value
    written in
    let cash = account_cash_lines t c.args.account a.opening in
    let lots = account_lot_lines t c.args.account in
    behind (account_header_lines a) (cash ++ (balance_and_lot_header_lines a ++ (lots ++ bottom))) _ _ _ _ top
    (behind cash (balance_and_lot_header_lines a ++ (lots ++ bottom)) _ _ _ _ posted.0
    (behind (balance_and_lot_header_lines a) (lots ++ bottom) _ _ _ _ balance
    (behind lots bottom _ _ _ _ kept.0
    (subst (λ (n : ℕ). WritesLines (holding_and_total_lines a held n (length (holding_rows_of_account t c.args.account)))
    (g.W.Write.contents c.write_open_lots.new.writer) (g.W.Write.contents c.write_lines-3.new.writer) c.write_lines-3.result) posted.1
    (subst (λ (n : ℕ). WritesLines (holding_and_total_lines a held c.in_ok-cash.cash n) (g.W.Write.contents c.write_open_lots.new.writer)
    (g.W.Write.contents c.write_lines-3.new.writer) c.write_lines-3.result) kept.1 end)))))
