use Rattle.brk_model_theorems.proofs.FormParts.{form_parts, form_whole}
use Rattle.brk_model_theorems.proofs.forms.form_condition_holds_iff_all_parts_hold.Goals as goal

pub returns-clause-parts : goal.returns-clause-parts
returns-clause-parts c = form_parts

pub returns-clause-whole : goal.returns-clause-whole
returns-clause-whole c = form_whole
