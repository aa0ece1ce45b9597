use Rattle.brk_audit_theorems.proofs.SoundSteps.{keyed_sound, step_sound}
use Rattle.brk_audit_theorems.proofs.audit_invariant.commands_preserve_audit_invariant.Goals as goal

pub returns : goal.returns
returns c = record { step = step_sound; keyed = keyed_sound }
