use Rattle.brk_audit_theorems.proofs.Parsed.{parsed_in_form}
use Rattle.brk_audit_theorems.proofs.SoundBatches.{formed_in_form}
use Rattle.brk_audit_theorems.proofs.audit_invariant.parsed_rows_meet_audit_formats.Goals as goal

pub returns : goal.returns
returns c = record { read = parsed_in_form; formed = formed_in_form }
