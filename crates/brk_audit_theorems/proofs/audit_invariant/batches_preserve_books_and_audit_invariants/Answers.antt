use Rattle.brk_audit_theorems.proofs.SoundBatches.{batch_both}
use Rattle.brk_audit_theorems.proofs.audit_invariant.batches_preserve_books_and_audit_invariants.Goals as goal

pub returns : goal.returns
returns c = batch_both
