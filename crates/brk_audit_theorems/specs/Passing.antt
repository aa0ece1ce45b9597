-- Rows that pass an audit.
use Rattle.std.specs.Prelude.{None}
use Rattle.brk_model.specs.Schemas.{Schema}
use Rattle.brk_model.specs.Tables.{Tables}
use Rattle.brk_model.specs.Audit.{IsAuditResult}

-- The rows pass the audit of the schema: they satisfy each of its `row_conditions`.
abbrev pub PassesAudit : Schema → Tables → Type 0
PassesAudit schema rows = IsAuditResult schema rows None
