use Rattle.brk_audit_theorems.proofs.Adopted.{passing_sound}
use Rattle.brk_audit_theorems.proofs.audit_invariant.passing_rows_satisfy_audit_invariant.Goals as goal

pub returns : goal.returns
returns c = passing_sound
