use Rattle.brk_trade_books.proofs.Steps.{step_broker, step_customer, step_account, step_permission, step_security, step_charge, step_band, step_tax_rate, step_customer_tax}
use Rattle.brk_trade_books.proofs.changes.reference_records_add_only_their_rows.Goals as goal

pub returns-clause-broker : goal.returns-clause-broker
returns-clause-broker c = step_broker

pub returns-clause-customer : goal.returns-clause-customer
returns-clause-customer c = step_customer

pub returns-clause-account : goal.returns-clause-account
returns-clause-account c = step_account

pub returns-clause-permission : goal.returns-clause-permission
returns-clause-permission c = step_permission

pub returns-clause-security : goal.returns-clause-security
returns-clause-security c = step_security

pub returns-clause-charge : goal.returns-clause-charge
returns-clause-charge c = step_charge

pub returns-clause-band : goal.returns-clause-band
returns-clause-band c = step_band

pub returns-clause-tax_rate : goal.returns-clause-tax_rate
returns-clause-tax_rate c = step_tax_rate

pub returns-clause-customer_tax : goal.returns-clause-customer_tax
returns-clause-customer_tax c = step_customer_tax
