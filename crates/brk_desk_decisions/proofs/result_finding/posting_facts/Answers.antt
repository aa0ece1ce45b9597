use Rattle.std.proofs.Common.{◌≡◌, ◌+◌}
use Rattle.brk_money.specs.declared.fault.CallFault.{CallFault}
use Rattle.brk_model.specs.Tables.{Tables}
use Rattle.brk_trade_books.specs.TradeReads.{last_cash_row_number_or_zero}
use Rattle.brk_desk_decisions.specs.ResultFactReads.{PostingFactsMatchTables}
use Rattle.brk_trade.specs.declared.result_found.Posting.{Posting}
use Rattle.brk_store_reads.proofs.Sequences.{failed_after, read_with}
use Rattle.std.proofs.lemmas.Result.{err_from_is_err_and}
use Rattle.brk_store_reads.specs.ReadSequences.{single_read_changes_nothing}
use Rattle.brk_desk_decisions.proofs.result_finding.posting_facts.Goals as goal

pub returns : goal.returns
returns g c =
    let rule = c.in_ok-rule.rule in
    let next = c.in_ok-next.next in
    let posting : Posting = record { rule = rule; next = next } in
    read_with g.S.Store c.args.store.now c.one_day_start.new.self c.next_cash_row_number.new.self {H = CallFault} rule next posting
    (λ rule (t : Tables). rule ≡ t.rule) (λ next (t : Tables). next ≡ last_cash_row_number_or_zero t + 1) (λ posting (t : Tables). PostingFactsMatchTables t posting)
    (λ t r n. record { rule = r; next = n })
    c.in_ok-rule.ensures.read c.in_ok-next.ensures.read

pub returns-in_err-next : goal.returns-in_err-next
returns-in_err-next g c =
    let old = c.args.store.now in
    let p = err_from_is_err_and c.from_residual-in_err-next.result c.from_residual-in_err-next.ensures.1 in
    rw p.1 (failed_after g.S.Store old c.one_day_start.new.self c.next_cash_row_number.new.self _ p.0 _ _
    (single_read_changes_nothing old c.one_day_start.new.self _ _ c.in_ok-rule.ensures.read) c.in_err-next.ensures.read)
