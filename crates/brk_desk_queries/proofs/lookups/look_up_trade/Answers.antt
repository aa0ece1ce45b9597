use Rattle.std.proofs.Common.{◌≡◌, ◌==◌, Ok, filter, find, map, option_map}
use Rattle.std.proofs.lemmas.Result.{err_from_is_err_and}
use Rattle.brk_money.specs.declared.fault.CallFault.{CallFault}
use Rattle.brk_ref.specs.Rows.{abstract_history_row, abstract_cash_row, abstract_settlement_row, abstract_trade_row}
use Rattle.brk_model.specs.LookupView.{is_cash_row_of_trade}
use Rattle.brk_model.specs.Tables.{HistoryRow, SettlementRow, Tables}
use Rattle.brk_store_reads.proofs.ReadResults.{decided}
use Rattle.brk_store_reads.proofs.Sequences.{failed_after, none_read, read_with, unchanged_after}
use Rattle.brk_desk_queries.specs.LookedUp.{HasAllRowsOfTrade}
use Rattle.brk_desk_queries.proofs.LookupViews.{AreRelatedRowsOfTrade, follows}
use Rattle.brk_store_reads.specs.ReadSequences.{single_read_changes_nothing}
use Rattle.brk_desk_queries.proofs.lookups.look_up_trade.Goals as goal

pub returns : goal.returns
returns g c =
    let old = c.args.store.now in
    let trade = c.args.trade in
    let settled = c.in_ok-settlement.settlement in
    let moved = c.in_ok-cash.cash in
    let came = c.in_ok-history.history in
    decided g.S.Store old c.history_of_trade.new.self came (λ rows. AreRelatedRowsOfTrade trade.id settled moved rows.items)
    (HasAllRowsOfTrade (abstract_trade_row trade)) (Ok c.in_ok-found.found)
    (read_with g.S.Store old c.cash_row.new.self c.history_of_trade.new.self {H = CallFault} moved came came
    (λ moved (t : Tables). (option_map abstract_settlement_row settled ≡ find (λ (s : SettlementRow). s.trade == trade.id) t.settlements)
    × (option_map abstract_cash_row moved ≡ find (is_cash_row_of_trade trade.id) t.moves))
    (λ rows (t : Tables). map abstract_history_row rows.items ≡ filter (λ (h : HistoryRow). h.trade == trade.id) t.history)
    (λ rows. AreRelatedRowsOfTrade trade.id settled moved rows.items)
    (λ t k e. (k.0, k.1, e))
    (read_with g.S.Store old c.settlement.new.self c.cash_row.new.self {H = CallFault} settled moved moved
    (λ o (t : Tables). option_map abstract_settlement_row o ≡ find (λ (s : SettlementRow). s.trade == trade.id) t.settlements)
    (λ o (t : Tables). option_map abstract_cash_row o ≡ find (is_cash_row_of_trade trade.id) t.moves)
    (λ moved (t : Tables). (option_map abstract_settlement_row settled ≡ find (λ (s : SettlementRow). s.trade == trade.id) t.settlements)
    × (option_map abstract_cash_row moved ≡ find (is_cash_row_of_trade trade.id) t.moves))
    (λ t a b. (a, b)) c.in_ok-settlement.ensures.read c.in_ok-cash.ensures.read)
    c.in_ok-history.ensures.read)
    (λ t k base books sound s. (rw c.deref.ensures.value at c.in_ok-found.ensures.rows) t (follows trade settled moved came.items t k base books sound s))

pub returns-in_err-cash : goal.returns-in_err-cash
returns-in_err-cash g c =
    let old = c.args.store.now in
    let p = err_from_is_err_and c.from_residual-in_err-cash.result c.from_residual-in_err-cash.ensures.1 in
    rw p.1 (failed_after g.S.Store old c.settlement.new.self c.cash_row.new.self _ p.0 _ _
    (single_read_changes_nothing old c.settlement.new.self _ _ c.in_ok-settlement.ensures.read) c.in_err-cash.ensures.read)

pub returns-in_err-history : goal.returns-in_err-history
returns-in_err-history g c =
    let old = c.args.store.now in
    let p = err_from_is_err_and c.from_residual-in_err-history.result c.from_residual-in_err-history.ensures.1 in
    rw p.1 (failed_after g.S.Store old c.cash_row.new.self c.history_of_trade.new.self _ p.0 _ _
    (unchanged_after g.S.Store old c.settlement.new.self c.cash_row.new.self _ _
    (single_read_changes_nothing old c.settlement.new.self _ _ c.in_ok-settlement.ensures.read) c.in_ok-cash.ensures.read) c.in_err-history.ensures.read)

pub returns-in_err-found : goal.returns-in_err-found
returns-in_err-found g c =
    let old = c.args.store.now in
    let p = err_from_is_err_and c.from_residual-in_err-found.result c.from_residual-in_err-found.ensures.1 in
    rw p.1 (none_read g.S.Store old c.history_of_trade.new.self p.0 _
    (unchanged_after g.S.Store old c.cash_row.new.self c.history_of_trade.new.self _ _
    (unchanged_after g.S.Store old c.settlement.new.self c.cash_row.new.self _ _
    (single_read_changes_nothing old c.settlement.new.self _ _ c.in_ok-settlement.ensures.read) c.in_ok-cash.ensures.read) c.in_ok-history.ensures.read))
