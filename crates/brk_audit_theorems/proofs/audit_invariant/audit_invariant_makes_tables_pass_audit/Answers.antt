use Rattle.brk_audit_theorems.proofs.Adopted.{sound_exactly, sound_passes}
use Rattle.brk_audit_theorems.proofs.FormRows.{form_of, sound_told}
use Rattle.brk_audit_theorems.proofs.audit_invariant.audit_invariant_makes_tables_pass_audit.Goals as goal

pub returns : goal.returns
returns c = record { form = form_of; histories = sound_told; passes = sound_passes; exact = sound_exactly }
