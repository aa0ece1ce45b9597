use Rattle.std.proofs.Common.{◌∙◌}
use Rattle.brk_audit_theorems.proofs.UpgradedRows.{rows_upgraded_from}
use Rattle.brk_audit_theorems.proofs.upgrade.upgrade_merges_cash_rows.Goals as goal

pub returns : goal.returns
returns c = record {
  same = λ schema rows p. (rows_upgraded_from schema rows p).0;
  tables = λ schema rows p. let h = rows_upgraded_from schema rows p in h.0 ∙ h.1;
}
