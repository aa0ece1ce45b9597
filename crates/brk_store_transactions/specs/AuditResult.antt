-- The meaning of an `AuditResult` for the database that was audited.
use Rattle.std.specs.Prelude.{Some, None}
use Rattle.sqlite.specs.Effect.{Database}
use Rattle.brk_model.specs.Tables.{Tables}
use Rattle.brk_trade_rows.specs.Schemas.{abstract_schema}
use Rattle.brk_store_transactions.specs.Audited.{StoresRowsWithAuditResult, IsDatabaseAuditResult}
use Rattle.brk_store_transactions.specs.declared.examining.AuditResult.{AuditResult}
use Rattle.brk_store_transactions.specs.declared.examining.AuditResult.TheVariants.{Passes, Fails}

-- The audit result is true of the database `db`. `Passes schema`: it contains the tables of
-- `schema` with rows, or none, whose texts are UTF-8 and which pass the audit of `schema`. `Fails
-- failing`: an audit of it returns `failing` (`IsDatabaseAuditResult`).
abbrev pub IsTrueAuditResult : AuditResult → Database → Type 0
IsTrueAuditResult (Passes schema) db = (t : Tables) × StoresRowsWithAuditResult (abstract_schema schema) t db None
IsTrueAuditResult (Fails failing) db = IsDatabaseAuditResult db (Some failing)
