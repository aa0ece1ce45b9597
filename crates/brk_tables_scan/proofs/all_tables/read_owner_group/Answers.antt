use Rattle.sqlite.specs.Held.{state}
use Rattle.brk_tables_schema.specs.Desk.{TheDesk, KeptRows, Brokers, Customers}
use Rattle.brk_tables_scan.proofs.Failing.{both, fails}
use Rattle.brk_tables_scan.proofs.Four.{shows_four}
use Rattle.brk_tables_scan.proofs.all_tables.read_owner_group.Goals as goal

pub returns-in_err-desk-clause-step : goal.returns-in_err-desk-clause-step
returns-in_err-desk-clause-step g c = fails c.from_residual.result _ c.from_residual.ensures.0 c.desk_rows.ensures.step

pub returns-in_err-kept_rows-clause-step : goal.returns-in_err-kept_rows-clause-step
returns-in_err-kept_rows-clause-step g c = fails c.from_residual-in_err-kept_rows.result _ c.from_residual-in_err-kept_rows.ensures.0 (both c.desk_rows.ensures.step c.kept_rows.ensures.step)

pub returns-in_err-kept-clause-step : goal.returns-in_err-kept-clause-step
returns-in_err-kept-clause-step g c = fails c.from_residual-in_err-kept.result _ c.from_residual-in_err-kept.ensures.0 (both c.desk_rows.ensures.step c.kept_rows.ensures.step)

pub returns-in_err-brokers-clause-step : goal.returns-in_err-brokers-clause-step
returns-in_err-brokers-clause-step g c =
    fails c.from_residual-in_err-brokers.result _ c.from_residual-in_err-brokers.ensures.0
    (both (both c.desk_rows.ensures.step c.kept_rows.ensures.step) c.broker_rows.ensures.step)

pub returns-in_err-customers-clause-step : goal.returns-in_err-customers-clause-step
returns-in_err-customers-clause-step g c =
    fails c.from_residual-in_err-customers.result _ c.from_residual-in_err-customers.ensures.0
    (both (both (both c.desk_rows.ensures.step c.kept_rows.ensures.step) c.broker_rows.ensures.step) c.customer_rows.ensures.step)

pub returns-clause-step : goal.returns-clause-step
returns-clause-step g c =
    shows_four TheDesk KeptRows Brokers Customers (state g.S.Store c.args.tx.now.conn.now)
    (state g.S.Store c.desk_rows.new.tx.conn.now)
    (state g.S.Store c.kept_rows.new.tx.conn.now)
    (state g.S.Store c.broker_rows.new.tx.conn.now)
    (state g.S.Store c.customer_rows.new.tx.conn.now)
    c.in_ok-desk.desk c.in_ok-kept_rows.field-0 c.in_ok-brokers.brokers c.in_ok-customers.customers
    c.in_ok-desk.ensures.step c.in_ok-kept_rows.ensures.step c.in_ok-brokers.ensures.step c.in_ok-customers.ensures.step _ _
    (λ s. record { kept = c.in_ok-kept_rows.field-0.items; shown = s; keys = c.in_ok-kept.ensures.decoding })
