use Rattle.brk_trade_books.proofs.SumReading.{broker_counts, broker_sums}
use Rattle.brk_trade_books.proofs.reads.broker_totals_equal_trade_sums.Goals as goal

pub returns : goal.returns
returns c = record {
  trades = broker_counts;
  commissions = broker_sums;
}
