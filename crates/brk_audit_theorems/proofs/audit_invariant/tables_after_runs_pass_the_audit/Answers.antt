use Rattle.brk_audit_theorems.proofs.Adopted.{adopted_passes, first_passes, run_sound}
use Rattle.brk_audit_theorems.proofs.SoundBatches.{formed_calls}
use Rattle.brk_audit_theorems.proofs.audit_invariant.tables_after_runs_pass_the_audit.Goals as goal

pub returns : goal.returns
returns c = record {
  preserved = run_sound;
  first = first_passes;
  adopted = adopted_passes;
  formed = λ calls outcomes after f r. first_passes calls outcomes after (formed_calls calls f) r;
}
