use Rattle.brk_trade_books.proofs.TermReading.{reads_rates}
use Rattle.brk_trade_books.proofs.reads.customer_tax_rate_sums_match_the_base.Goals as goal

pub returns : goal.returns
returns c = reads_rates
