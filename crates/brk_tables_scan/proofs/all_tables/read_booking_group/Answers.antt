use Rattle.sqlite.specs.Held.{state}
use Rattle.brk_tables_schema.specs.Desk.{Summaries, HoldingHistory, Settlements, CashRows}
use Rattle.brk_tables_scan.proofs.Failing.{both, fails}
use Rattle.brk_tables_scan.proofs.Four.{shows_four}
use Rattle.brk_tables_scan.proofs.all_tables.read_booking_group.Goals as goal

pub returns-in_err-summaries-clause-step : goal.returns-in_err-summaries-clause-step
returns-in_err-summaries-clause-step g c = fails c.from_residual.result _ c.from_residual.ensures.0 c.holding_summary_rows.ensures.step

pub returns-in_err-holding_history-clause-step : goal.returns-in_err-holding_history-clause-step
returns-in_err-holding_history-clause-step g c = fails c.from_residual-in_err-holding_history.result _ c.from_residual-in_err-holding_history.ensures.0 (both c.holding_summary_rows.ensures.step c.holding_history_rows.ensures.step)

pub returns-in_err-settlements-clause-step : goal.returns-in_err-settlements-clause-step
returns-in_err-settlements-clause-step g c = fails c.from_residual-in_err-settlements.result _ c.from_residual-in_err-settlements.ensures.0 (both (both c.holding_summary_rows.ensures.step c.holding_history_rows.ensures.step) c.settlement_rows.ensures.step)

pub returns-in_err-cash-clause-step : goal.returns-in_err-cash-clause-step
returns-in_err-cash-clause-step g c = fails c.from_residual-in_err-cash.result _ c.from_residual-in_err-cash.ensures.0 (both (both (both c.holding_summary_rows.ensures.step c.holding_history_rows.ensures.step) c.settlement_rows.ensures.step) c.cash_transaction_rows.ensures.step)

pub returns-clause-step : goal.returns-clause-step
returns-clause-step g c =
    shows_four Summaries HoldingHistory Settlements CashRows (state g.S.Store c.args.tx.now.conn.now)
    (state g.S.Store c.holding_summary_rows.new.tx.conn.now)
    (state g.S.Store c.holding_history_rows.new.tx.conn.now)
    (state g.S.Store c.settlement_rows.new.tx.conn.now)
    (state g.S.Store c.cash_transaction_rows.new.tx.conn.now)
    c.in_ok-summaries.summaries c.in_ok-holding_history.holding_history c.in_ok-settlements.settlements c.in_ok-cash.cash
    c.in_ok-summaries.ensures.step c.in_ok-holding_history.ensures.step c.in_ok-settlements.ensures.step c.in_ok-cash.ensures.step _ _
    (λ s. s)
