use Rattle.std.proofs.Common.{◌≡◌, ◌==◌, Some, ap, find, option_map, sym}
use Rattle.std.specs.Prelude.{unwrap_or}
use Rattle.brk_money.specs.declared.fault.CallFault.{CallFault}
use Rattle.brk_ref.specs.Rows.{abstract_cash_row, abstract_settlement_row}
use Rattle.brk_model.specs.LookupView.{is_cash_row_of_trade}
use Rattle.brk_model.specs.Tables.{SettlementRow, Tables}
use Rattle.brk_model_explain.specs.Trades.{zero_settlement_row}
use Rattle.brk_explain_reads.specs.Found.{IsSettlementAndCashOfTrade}
use Rattle.brk_explain_reads.specs.declared.settled.SettlementAndCash.{SettlementAndCash}
use Rattle.brk_store_reads.proofs.Sequences.{read_with, none_read}
use Rattle.brk_explain_reads.proofs.Reading.{both_change_nothing}
use Rattle.std.proofs.lemmas.Result.{err_from_is_err_and}
use Rattle.brk_store_reads.specs.ReadSequences.{joined_reads_change_nothing, single_read_changes_nothing}
use Rattle.brk_explain_reads.proofs.settled.read_settlement.Goals as goal

pub returns : goal.returns
returns g c =
    let old = c.args.store.now in
    let trade = c.args.trade in
    let settlement = c.in_ok-settlement.settlement in
    let cash = c.in_ok-cash.cash in
    let rule = c.in_ok-rule.rule in
    let settled : SettlementAndCash = record { settlement = settlement; cash = cash; rule = rule } in
    read_with g.S.Store old c.cash_row.new.self c.one_day_start.new.self {H = CallFault} cash rule settled
    (λ cash (t : Tables). (find (λ (s : SettlementRow). s.trade == trade) t.settlements ≡ Some (abstract_settlement_row settlement))
    × (option_map abstract_cash_row cash ≡ find (is_cash_row_of_trade trade) t.moves))
    (λ rule (t : Tables). rule ≡ t.rule)
    (λ settled (t : Tables). IsSettlementAndCashOfTrade t trade settled)
    (λ t k e. (sym (ap (λ o. unwrap_or o zero_settlement_row) k.0), k.1, e))
    (read_with g.S.Store old c.require_settlement.new.store c.cash_row.new.self {H = CallFault} settlement cash cash
    (λ settlement (t : Tables). find (λ (s : SettlementRow). s.trade == trade) t.settlements ≡ Some (abstract_settlement_row settlement))
    (λ cash (t : Tables). option_map abstract_cash_row cash ≡ find (is_cash_row_of_trade trade) t.moves)
    (λ cash (t : Tables). (find (λ (s : SettlementRow). s.trade == trade) t.settlements ≡ Some (abstract_settlement_row settlement))
    × (option_map abstract_cash_row cash ≡ find (is_cash_row_of_trade trade) t.moves))
    (λ t a b. (a, b)) c.in_ok-settlement.ensures.read c.in_ok-cash.ensures.read)
    c.in_ok-rule.ensures.read

pub returns-in_err-cash : goal.returns-in_err-cash
returns-in_err-cash g c =
    let old = c.args.store.now in
    let mid = c.require_settlement.new.store in
    let end = c.cash_row.new.self in
    let p = err_from_is_err_and c.from_residual-in_err-cash.result c.from_residual-in_err-cash.ensures.1 in
    rw p.1 (none_read g.S.Store old end p.0 _ (both_change_nothing g.S.Store old mid end _ _ _ _ c.in_ok-settlement.ensures.read c.in_err-cash.ensures.read))

pub returns-in_err-rule : goal.returns-in_err-rule
returns-in_err-rule g c =
    let old = c.args.store.now in
    let mid = c.require_settlement.new.store in
    let late = c.cash_row.new.self in
    let end = c.one_day_start.new.self in
    let p = err_from_is_err_and c.from_residual-in_err-rule.result c.from_residual-in_err-rule.ensures.1 in
    rw p.1
    (none_read g.S.Store old end p.0 _
    (joined_reads_change_nothing old late end (both_change_nothing g.S.Store old mid late _ _ _ _ c.in_ok-settlement.ensures.read c.in_ok-cash.ensures.read)
    (single_read_changes_nothing late end _ _ c.in_err-rule.ensures.read)))
