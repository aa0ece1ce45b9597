use Rattle.std.proofs.Common.{◌≡◌, ◌∙◌, ◌++◌, ◌∷◌, [], Some, ap, find, map, option_map, sym, take}
use Rattle.std.specs.Prelude.{bytes_eq}
use Rattle.brk_money.specs.declared.fault.CallFault.{CallFault}
use Rattle.brk_ref.specs.Rows.{abstract_trade_row}
use Rattle.brk_model.specs.Joins.{trade_rows_recent_first, trade_rows_of_account}
use Rattle.brk_model.specs.Tables.{Tables}
use Rattle.brk_store_reads.proofs.Retelling.{retold}
use Rattle.brk_store_reads.proofs.Sequences.{read_with}
use Rattle.brk_view_rows.specs.Status.{rows_of_trade_status, trade_row_with_security}
use Rattle.brk_view_rows.specs.declared.statuses.TradeStatus.{TradeStatus}
use Rattle.brk_desk_queries.proofs.Each.{all_made, map_map, none_made}
use Rattle.brk_desk_queries.proofs.StatusViews.{AreStatusesReadSoFar, carried_in, empty_have_own_securities, same_security, status_more}
use Rattle.brk_desk_queries.proofs.statuses.fifty_trades_with_securities.Goals as goal

pub loop-trade-init : goal.loop-trade-init
loop-trade-init g c =
    let rest = c.in_ok-rest.rest in
    retold g.S.Store c.args.store.now c.last_fifty_trades.new.self rest tt
    (λ all (t : Tables). map abstract_trade_row all.items ≡ take 50 (trade_rows_recent_first (trade_rows_of_account t c.args.account)))
    (λ _. AreStatusesReadSoFar c.args.account rest.items c.new-statuses.result.items)
    (λ t e. (
      none_made (λ r. trade_row_with_security t (abstract_trade_row r)) rows_of_trade_status rest.items c.new-statuses.result.items c.new-statuses.ensures.items
          ∙ sym (map_map (trade_row_with_security t) abstract_trade_row rest.items) ∙ ap (map (trade_row_with_security t)) e,
      empty_have_own_securities c.new-statuses.result.items t c.new-statuses.ensures.items,
    ))
    c.in_ok-rest.ensures.read

-- the security of an earlier trade
pub loop-trade-preserved-in-Continue-branch-4 : goal.loop-trade-preserved-in-Continue-branch-4
loop-trade-preserved-in-Continue-branch-4 g c =
    let account = c.args.account in
    let before = c.loop-trade.rest.items in
    let rest = c.pop.new.self.items in
    let trade = c.in-Some.trade in
    let all = c.loop-trade.statuses.items in
    let security = c.in-Some-2.security in
    let status : TradeStatus = record { trade = trade; security = security } in
    let same : Some security ≡ option_map (λ (s : TradeStatus). s.security) (find (λ (s : TradeStatus). bytes_eq s.trade.symbol trade.symbol) all) =
    sym c.in-Some-2.is ∙ c.in_ok-security.ensures
    ∙ ap (λ ss. option_map (λ (s : TradeStatus). s.security) (find (λ (s : TradeStatus). bytes_eq s.trade.symbol trade.symbol) ss)) c.deref.ensures.value in
    rw c.in_ok-push.ensures.items
    (retold g.S.Store c.args.store.now c.loop-trade.store {X = Unit {0}} {H = CallFault} tt tt
    (λ _. AreStatusesReadSoFar account before all)
    (λ _. AreStatusesReadSoFar account rest (all ++ status ∷ []))
    (λ t p. status_more account before rest trade all status t c.in-Some.ensures.items p (carried_in trade security t (same_security trade.symbol security all t p.1 same)))
    c.loop-trade.invariant)

-- a security that is read
pub loop-trade-preserved : goal.loop-trade-preserved
loop-trade-preserved g c =
    let account = c.args.account in
    let before = c.loop-trade.rest.items in
    let rest = c.pop.new.self.items in
    let trade = c.in-Some.trade in
    let all = c.loop-trade.statuses.items in
    let status = c.in_ok-status.status in
    rw c.in_ok-push-2.ensures.items
    (read_with g.S.Store c.args.store.now c.loop-trade.store c.trade_with_security.new.store {H = CallFault} tt status tt
    (λ _. AreStatusesReadSoFar account before all)
    (λ status (t : Tables). rows_of_trade_status status ≡ trade_row_with_security t (abstract_trade_row trade))
    (λ _. AreStatusesReadSoFar account rest (all ++ status ∷ []))
    (λ t p e. status_more account before rest trade all status t c.in-Some.ensures.items p e)
    c.loop-trade.invariant c.in_ok-status.ensures)

pub returns : goal.returns
returns g c =
    let rest = c.loop-trade.rest in
    let statuses = c.loop-trade.statuses.items in
    retold g.S.Store c.args.store.now c.loop-trade.store tt c.reverse.new.self
    (λ _. AreStatusesReadSoFar c.args.account rest.items statuses)
    (λ statuses (t : Tables). map rows_of_trade_status statuses.items ≡ map (trade_row_with_security t) (take 50 (trade_rows_recent_first (trade_rows_of_account t c.args.account))))
    (λ t p. ap (map rows_of_trade_status) c.reverse.ensures.items
    ∙ all_made (λ r. trade_row_with_security t (abstract_trade_row r)) rows_of_trade_status rest.items statuses _
    (sym rest.ok.0 ∙ c.in_default.ensures.cases.0) p.0)
    c.loop-trade.invariant
