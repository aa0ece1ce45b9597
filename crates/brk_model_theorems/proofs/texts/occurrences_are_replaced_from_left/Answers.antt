use Rattle.brk_model_theorems.proofs.Replaced.{replaces_first, replaces_nothing}
use Rattle.brk_model_theorems.proofs.texts.occurrences_are_replaced_from_left.Goals as goal

pub returns-clause-first_occurrence : goal.returns-clause-first_occurrence
returns-clause-first_occurrence c = replaces_first

pub returns-clause-no_occurrence : goal.returns-clause-no_occurrence
returns-clause-no_occurrence c = replaces_nothing
