use Rattle.sqlite.specs.Held.{state}
use Rattle.brk_tables_schema.specs.Desk.{Charges, Bands, TaxRates, CustomerTaxes}
use Rattle.brk_tables_scan.proofs.Failing.{both, fails}
use Rattle.brk_tables_scan.proofs.Four.{shows_four}
use Rattle.brk_tables_scan.proofs.all_tables.read_terms_group.Goals as goal

pub returns-in_err-charges-clause-step : goal.returns-in_err-charges-clause-step
returns-in_err-charges-clause-step g c = fails c.from_residual.result _ c.from_residual.ensures.0 c.charge_rows.ensures.step

pub returns-in_err-bands-clause-step : goal.returns-in_err-bands-clause-step
returns-in_err-bands-clause-step g c = fails c.from_residual-in_err-bands.result _ c.from_residual-in_err-bands.ensures.0 (both c.charge_rows.ensures.step c.commission_rate_rows.ensures.step)

pub returns-in_err-tax_rates-clause-step : goal.returns-in_err-tax_rates-clause-step
returns-in_err-tax_rates-clause-step g c = fails c.from_residual-in_err-tax_rates.result _ c.from_residual-in_err-tax_rates.ensures.0 (both (both c.charge_rows.ensures.step c.commission_rate_rows.ensures.step) c.tax_rate_rows.ensures.step)

pub returns-in_err-customer_taxes-clause-step : goal.returns-in_err-customer_taxes-clause-step
returns-in_err-customer_taxes-clause-step g c = fails c.from_residual-in_err-customer_taxes.result _ c.from_residual-in_err-customer_taxes.ensures.0 (both (both (both c.charge_rows.ensures.step c.commission_rate_rows.ensures.step) c.tax_rate_rows.ensures.step) c.customer_tax_rows.ensures.step)

pub returns-clause-step : goal.returns-clause-step
returns-clause-step g c =
    shows_four Charges Bands TaxRates CustomerTaxes (state g.S.Store c.args.tx.now.conn.now)
    (state g.S.Store c.charge_rows.new.tx.conn.now)
    (state g.S.Store c.commission_rate_rows.new.tx.conn.now)
    (state g.S.Store c.tax_rate_rows.new.tx.conn.now)
    (state g.S.Store c.customer_tax_rows.new.tx.conn.now)
    c.in_ok-charges.charges c.in_ok-bands.bands c.in_ok-tax_rates.tax_rates c.in_ok-customer_taxes.customer_taxes
    c.in_ok-charges.ensures.step c.in_ok-bands.ensures.step c.in_ok-tax_rates.ensures.step c.in_ok-customer_taxes.ensures.step _ _
    (λ s. s)
