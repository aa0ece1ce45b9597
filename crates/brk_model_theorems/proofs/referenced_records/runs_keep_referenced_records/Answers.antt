use Rattle.brk_model_theorems.proofs.NameLaws.{is_named, still-named}
use Rattle.brk_model_theorems.proofs.referenced_records.runs_keep_referenced_records.Goals as goal

pub returns-clause-run : goal.returns-clause-run
returns-clause-run c = still-named

pub returns-clause-from_empty_base : goal.returns-clause-from_empty_base
returns-clause-from_empty_base c = is_named
