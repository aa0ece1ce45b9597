use Rattle.brk_trade_books.proofs.TermReading.{taxes_found}
use Rattle.brk_trade_books.proofs.reads.tax_rates_sum_to_customer_rates.Goals as goal

pub returns : goal.returns
returns c = taxes_found
