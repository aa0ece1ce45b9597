use Rattle.brk_audit_theorems.proofs.SoundSteps.{empty_sound}
use Rattle.brk_audit_theorems.proofs.audit_invariant.empty_base_satisfies_audit_invariant.Goals as goal

pub returns : goal.returns
returns c = empty_sound
