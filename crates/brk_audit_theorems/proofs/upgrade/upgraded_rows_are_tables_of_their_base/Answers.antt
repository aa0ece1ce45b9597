use Rattle.brk_audit_theorems.proofs.UpgradedRows.{first_narrower, upgraded_rows, second_narrower}
use Rattle.brk_audit_theorems.proofs.upgrade.upgraded_rows_are_tables_of_their_base.Goals as goal

pub returns : goal.returns
returns c = record {
  first = λ rows p. upgraded_rows _ rows first_narrower p;
  second = λ rows p. upgraded_rows _ rows second_narrower p;
  narrower = λ schema rows n p. upgraded_rows schema rows n p;
}
