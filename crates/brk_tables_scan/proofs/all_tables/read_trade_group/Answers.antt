use Rattle.sqlite.specs.Held.{state}
use Rattle.brk_tables_schema.specs.Desk.{Trades, TradeHistory, Requests, Holdings}
use Rattle.brk_tables_scan.proofs.Failing.{both, fails}
use Rattle.brk_tables_scan.proofs.Four.{shows_four}
use Rattle.brk_tables_scan.proofs.all_tables.read_trade_group.Goals as goal

pub returns-in_err-trades-clause-step : goal.returns-in_err-trades-clause-step
returns-in_err-trades-clause-step g c = fails c.from_residual.result _ c.from_residual.ensures.0 c.trade_rows.ensures.step

pub returns-in_err-history-clause-step : goal.returns-in_err-history-clause-step
returns-in_err-history-clause-step g c = fails c.from_residual-in_err-history.result _ c.from_residual-in_err-history.ensures.0 (both c.trade_rows.ensures.step c.trade_history_rows.ensures.step)

pub returns-in_err-requests-clause-step : goal.returns-in_err-requests-clause-step
returns-in_err-requests-clause-step g c = fails c.from_residual-in_err-requests.result _ c.from_residual-in_err-requests.ensures.0 (both (both c.trade_rows.ensures.step c.trade_history_rows.ensures.step) c.trade_request_rows.ensures.step)

pub returns-in_err-holdings-clause-step : goal.returns-in_err-holdings-clause-step
returns-in_err-holdings-clause-step g c = fails c.from_residual-in_err-holdings.result _ c.from_residual-in_err-holdings.ensures.0 (both (both (both c.trade_rows.ensures.step c.trade_history_rows.ensures.step) c.trade_request_rows.ensures.step) c.holding_rows.ensures.step)

pub returns-clause-step : goal.returns-clause-step
returns-clause-step g c =
    shows_four Trades TradeHistory Requests Holdings (state g.S.Store c.args.tx.now.conn.now)
    (state g.S.Store c.trade_rows.new.tx.conn.now)
    (state g.S.Store c.trade_history_rows.new.tx.conn.now)
    (state g.S.Store c.trade_request_rows.new.tx.conn.now)
    (state g.S.Store c.holding_rows.new.tx.conn.now)
    c.in_ok-trades.trades c.in_ok-history.history c.in_ok-requests.requests c.in_ok-holdings.holdings
    c.in_ok-trades.ensures.step c.in_ok-history.ensures.step c.in_ok-requests.ensures.step c.in_ok-holdings.ensures.step _ _
    (λ s. s)
