use Rattle.brk_trade_books.proofs.TradeReading.{triggered_found, triggered_rise}
use Rattle.brk_trade_books.proofs.reads.triggered_requests_match_trades.Goals as goal

pub returns-clause-trades : goal.returns-clause-trades
returns-clause-trades c = triggered_found

pub returns-clause-ascending : goal.returns-clause-ascending
returns-clause-ascending c = triggered_rise
