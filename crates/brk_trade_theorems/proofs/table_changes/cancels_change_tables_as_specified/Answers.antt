use Rattle.brk_trade_theorems.proofs.TradePlanning.{cancel_refusal, cancel_done}
use Rattle.brk_trade_theorems.proofs.table_changes.cancels_change_tables_as_specified.Goals as goal

pub returns-clause-first : goal.returns-clause-first
returns-clause-first c = cancel_refusal

pub returns-clause-done : goal.returns-clause-done
returns-clause-done c = cancel_done
