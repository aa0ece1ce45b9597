use Rattle.brk_trade_books.proofs.Reading.{reads_broker, reads_customer, reads_account}
use Rattle.brk_trade_books.proofs.TermReading.{reads_tax_rate}
use Rattle.brk_trade_books.proofs.reads.rows_by_id_match_records.Goals as goal

pub returns-clause-broker : goal.returns-clause-broker
returns-clause-broker c = reads_broker

pub returns-clause-customer : goal.returns-clause-customer
returns-clause-customer c = reads_customer

pub returns-clause-account : goal.returns-clause-account
returns-clause-account c = reads_account

pub returns-clause-tax_rate : goal.returns-clause-tax_rate
returns-clause-tax_rate c = reads_tax_rate
