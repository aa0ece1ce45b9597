use Rattle.brk_audit_theorems.proofs.Again.{base_again}
use Rattle.brk_audit_theorems.proofs.AgainStatus.{status_again}
use Rattle.brk_audit_theorems.proofs.Passed.{tables_again, tables_pass}
use Rattle.brk_audit_theorems.proofs.adoption.well_formed_tables_pass_the_audit.Goals as goal

pub returns : goal.returns
returns c = record { base = base_again; tables = tables_again; passes = tables_pass; status = status_again }
