use Rattle.brk_trade_books.proofs.Keepers.{books_broker, books_customer, books_account, books_permission, books_security, books_charge, books_band, books_tax_rate, books_customer_tax}
use Rattle.brk_trade_books.proofs.books.reference_records_preserve_books_invariant.Goals as goal

pub returns-clause-broker : goal.returns-clause-broker
returns-clause-broker c = books_broker

pub returns-clause-customer : goal.returns-clause-customer
returns-clause-customer c = books_customer

pub returns-clause-account : goal.returns-clause-account
returns-clause-account c = books_account

pub returns-clause-permission : goal.returns-clause-permission
returns-clause-permission c = books_permission

pub returns-clause-security : goal.returns-clause-security
returns-clause-security c = books_security

pub returns-clause-charge : goal.returns-clause-charge
returns-clause-charge c = books_charge

pub returns-clause-band : goal.returns-clause-band
returns-clause-band c = books_band

pub returns-clause-tax_rate : goal.returns-clause-tax_rate
returns-clause-tax_rate c = books_tax_rate

pub returns-clause-customer_tax : goal.returns-clause-customer_tax
returns-clause-customer_tax c = books_customer_tax
