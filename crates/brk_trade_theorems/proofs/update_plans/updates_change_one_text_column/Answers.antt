use Rattle.brk_trade_theorems.proofs.Staying.{names_alone, texts_alone, words_alone}
use Rattle.brk_trade_theorems.proofs.update_plans.updates_change_one_text_column.Goals as goal

pub returns-clause-executors : goal.returns-clause-executors
returns-clause-executors c = names_alone

pub returns-clause-cash_types : goal.returns-clause-cash_types
returns-clause-cash_types c = words_alone

pub returns-clause-cash_names : goal.returns-clause-cash_names
returns-clause-cash_names c = texts_alone
