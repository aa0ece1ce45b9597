use Rattle.brk_model_theorems.proofs.FormParts.{keys_rise, keys_whole}
use Rattle.brk_model_theorems.proofs.forms.tables_are_sorted_iff_each_table_is_sorted.Goals as goal

pub returns-clause-parts : goal.returns-clause-parts
returns-clause-parts c = keys_rise

pub returns-clause-whole : goal.returns-clause-whole
returns-clause-whole c = keys_whole
