use Rattle.brk_trade_theorems.proofs.TradePlanning.{feed_refusal, feed_done}
use Rattle.brk_trade_theorems.proofs.table_changes.feeds_change_tables_as_specified.Goals as goal

pub returns-clause-first : goal.returns-clause-first
returns-clause-first c = feed_refusal

pub returns-clause-done : goal.returns-clause-done
returns-clause-done c = feed_done
