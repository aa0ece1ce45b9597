use Rattle.brk_trade_books.proofs.TermReading.{reads_permission, reads_security, reads_last_trade, reads_charge, reads_customer_tax}
use Rattle.brk_trade_books.proofs.reads.rows_by_key_match_records.Goals as goal

pub returns-clause-permission : goal.returns-clause-permission
returns-clause-permission c = reads_permission

pub returns-clause-security : goal.returns-clause-security
returns-clause-security c = reads_security

pub returns-clause-last_trade : goal.returns-clause-last_trade
returns-clause-last_trade c = reads_last_trade

pub returns-clause-charge : goal.returns-clause-charge
returns-clause-charge c = reads_charge

pub returns-clause-customer_tax : goal.returns-clause-customer_tax
returns-clause-customer_tax c = reads_customer_tax
