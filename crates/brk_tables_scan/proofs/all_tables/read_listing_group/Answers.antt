use Rattle.sqlite.specs.Held.{state}
use Rattle.brk_tables_schema.specs.Desk.{Accounts, Permissions, Securities, LastTrades}
use Rattle.brk_tables_scan.proofs.Failing.{both, fails}
use Rattle.brk_tables_scan.proofs.Four.{shows_four}
use Rattle.brk_tables_scan.proofs.all_tables.read_listing_group.Goals as goal

pub returns-in_err-accounts-clause-step : goal.returns-in_err-accounts-clause-step
returns-in_err-accounts-clause-step g c = fails c.from_residual.result _ c.from_residual.ensures.0 c.account_rows.ensures.step

pub returns-in_err-permissions-clause-step : goal.returns-in_err-permissions-clause-step
returns-in_err-permissions-clause-step g c = fails c.from_residual-in_err-permissions.result _ c.from_residual-in_err-permissions.ensures.0 (both c.account_rows.ensures.step c.permission_rows.ensures.step)

pub returns-in_err-securities-clause-step : goal.returns-in_err-securities-clause-step
returns-in_err-securities-clause-step g c = fails c.from_residual-in_err-securities.result _ c.from_residual-in_err-securities.ensures.0 (both (both c.account_rows.ensures.step c.permission_rows.ensures.step) c.security_rows.ensures.step)

pub returns-in_err-last_trades-clause-step : goal.returns-in_err-last_trades-clause-step
returns-in_err-last_trades-clause-step g c = fails c.from_residual-in_err-last_trades.result _ c.from_residual-in_err-last_trades.ensures.0 (both (both (both c.account_rows.ensures.step c.permission_rows.ensures.step) c.security_rows.ensures.step) c.last_trade_rows.ensures.step)

pub returns-clause-step : goal.returns-clause-step
returns-clause-step g c =
    shows_four Accounts Permissions Securities LastTrades (state g.S.Store c.args.tx.now.conn.now)
    (state g.S.Store c.account_rows.new.tx.conn.now)
    (state g.S.Store c.permission_rows.new.tx.conn.now)
    (state g.S.Store c.security_rows.new.tx.conn.now)
    (state g.S.Store c.last_trade_rows.new.tx.conn.now)
    c.in_ok-accounts.accounts c.in_ok-permissions.permissions c.in_ok-securities.securities c.in_ok-last_trades.last_trades
    c.in_ok-accounts.ensures.step c.in_ok-permissions.ensures.step c.in_ok-securities.ensures.step c.in_ok-last_trades.ensures.step _ _
    (λ s. s)
