-- Rows of an older schema, upgraded to the third.
use Rattle.std.specs.Prelude.{◌≡◌, ◌≤◌}
use Rattle.brk_model.specs.Schemas.{Schema, third_schema}
use Rattle.brk_model.specs.Tables.{Tables}
use Rattle.brk_model.specs.Sheets.{sheets}
use Rattle.brk_model.specs.Adopted.{base_of_tables}
use Rattle.brk_model.specs.Upgraded.{tables_with_merged_cash_rows}
use Rattle.brk_audit_theorems.specs.Passing.{PassesAudit}

-- The greatest quantity and the greatest summary of the schema are at most those of the third one.
pub record HasLimitsWithinThirdSchema (schema : Schema) : Type 0 where
  pub qty : schema.greatest_qty ≤ third_schema.greatest_qty
  pub summary : schema.greatest_summary_quantity ≤ third_schema.greatest_summary_quantity

-- The upgrade of the rows (`tables_with_merged_cash_rows`) equals the sheets of the base that the
-- rows describe, describes this base too, and passes the audit of the third schema.
pub record UpgradedRowsMatchTheirBase (rows : Tables) : Type 0 where
  pub tables : tables_with_merged_cash_rows rows ≡ sheets (base_of_tables rows)
  pub base : base_of_tables (tables_with_merged_cash_rows rows) ≡ base_of_tables rows
  pub passes : PassesAudit third_schema (tables_with_merged_cash_rows rows)
