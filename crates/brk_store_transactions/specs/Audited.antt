-- The result of an audit of a database, and the postconditions of an audit and of an adoption, from
-- `old` to `new`. A database has a schema (`DatabaseHasSchema`) if it has each table of the schema,
-- by name and with exactly its column names, no table that a later schema adds, and one row of
-- DESK, with the schema's number. `brk_store_transactions/specs/Holds.antt` explains the other
-- terms. A clause with the premise `HasCleanDisk` for the new state, and the promise on crashes in
-- `survives`, are vacuous if the disk assumption fails by the return of the call.
use Rattle.std.specs.Prelude.{◌≡◌, ◌≢◌, ◌⊎◌, ⊤, Option, Some, None, Result, Ok, Err, OnOk, OnErr, IsTrue}
use Rattle.sqlite_trees.specs.declared.store.Store.{Ghosts}
use Rattle.sqlite_trees.specs.Tree.{Trees}
use Rattle.sqlite.specs.Effect.{Database}
use Rattle.sqlite.specs.Held.{Held, state}
use Rattle.sqlite.specs.State.{HasCleanDisk, Survives}
use Rattle.brk_money.specs.declared.fault.Condition.{Condition}
use Rattle.brk_money.specs.declared.fault.Condition.TheVariants as condition
use Rattle.brk_money.specs.declared.fault.Fault.{Fault}
use Rattle.brk_money.specs.declared.fault.Fault.TheVariants.{Memory, Store, Damaged}
use Rattle.brk_model.specs.Adopted.{base_of_tables}
use Rattle.brk_model.specs.Audit.{IsAuditResult}
use Rattle.brk_model.specs.Base.{Base}
use Rattle.brk_model.specs.Form.{has_utf8_texts}
use Rattle.brk_model.specs.Schemas.{Schema, third_schema}
use Rattle.brk_model.specs.Sheets.{sheets}
use Rattle.brk_model.specs.Tables.{Tables}
use Rattle.brk_trade_rows.specs.declared.schema.Schema as typed_schema
use Rattle.brk_trade_rows.specs.declared.schema.Schema.TheVariants.{Third}
use Rattle.brk_trade_rows.specs.Schemas.{abstract_schema}
use Rattle.brk_tables_schema.specs.Made.{HasDeskTables, HasDeskTablesInSchema, IsTableOfSchema}
use Rattle.brk_tables_cash.specs.Upgrade.{PreservesTablesOutside}
use Rattle.brk_tables_scan.specs.Schemas.{DatabaseHasSchema, TablesWithDeskNamesAreDeskTables, TablesWithSchemaNamesAreDeskTables}
use Rattle.brk_trade_books.specs.Books.{BooksInvariant}
use Rattle.brk_audit_theorems.specs.Passing.{PassesAudit}
use Rattle.brk_audit_theorems.specs.Sound.{AuditInvariant}
use Rattle.brk_store_transactions.specs.Holds.{IsDiskContentOfRows, HoldsRows, WasOpenAndIsUnchanged}

-- ---- results of an audit

-- `answer` is the result of the audit of the rows `t` of the tables of `schema` in `db`, with texts
-- in UTF-8: the first condition that they fail, or `None` if they pass.
abbrev pub StoresRowsWithAuditResult : Schema → Tables → Database → Option Condition → Type 0
StoresRowsWithAuditResult schema t db answer = HasDeskTablesInSchema schema t db × IsTrue (has_utf8_texts t) × IsAuditResult schema t answer

-- `answer` is the audit result of `db` by `schema`: the first condition that fails, or `None`.
abbrev pub IsDatabaseAuditResultBySchema : Schema → Database → Option Condition → Type 0
-- An audit never returns `NotEmpty`, which only the creation of the tables returns.
IsDatabaseAuditResultBySchema schema db (Some condition.NotEmpty) = ⊥
-- `Schema`: the database does not have the schema (`DatabaseHasSchema`).
IsDatabaseAuditResultBySchema schema db (Some condition.Schema) = ¬ DatabaseHasSchema schema db
-- `Form`: the database has the schema, and either not all of its rows can be read as rows of the
-- schema with texts in UTF-8, or the audit of its rows returns `Form`.
IsDatabaseAuditResultBySchema schema db (Some condition.Form) =
    DatabaseHasSchema schema db × ((t : Tables) → HasDeskTablesInSchema schema t db → IsTrue (has_utf8_texts t) → IsAuditResult schema t (Some condition.Form))
-- Any other result, `None` included, is the audit result of the rows in the database.
IsDatabaseAuditResultBySchema schema db answer = (t : Tables) × StoresRowsWithAuditResult schema t db answer

-- `Some schema`: `db` has this schema (`DatabaseHasSchema`). `None`: it has none of the three.
abbrev pub IsSchemaOfDatabase : Option typed_schema.Schema → Database → Type 0
IsSchemaOfDatabase (Some schema) db = DatabaseHasSchema (abstract_schema schema) db
IsSchemaOfDatabase None db = (schema : typed_schema.Schema) → ¬ DatabaseHasSchema (abstract_schema schema) db

-- `answer` is the result of an audit of `db` by its own schema: the first condition that fails, or
-- `None`. Never `NotEmpty`; `Schema` if and only if the database has none of the three schemas.
abbrev pub IsDatabaseAuditResult : Database → Option Condition → Type 0
IsDatabaseAuditResult db (Some condition.NotEmpty) = ⊥
IsDatabaseAuditResult db (Some condition.Schema) = IsSchemaOfDatabase None db
IsDatabaseAuditResult db answer = (schema : typed_schema.Schema) × IsDatabaseAuditResultBySchema (abstract_schema schema) db answer

-- `P` holds of the audit's answer: of `None` at `Ok`, and of the condition at `Damaged`. Vacuous at
-- `Memory` and `Store`, which say nothing about the database.
abbrev pub AuditAnswerSatisfies : Result (Unit {0}) Fault → (Option Condition → Type 0) → Type 0
AuditAnswerSatisfies (Ok x) P = P None
AuditAnswerSatisfies (Err (Damaged failing)) P = P (Some failing)
AuditAnswerSatisfies (Err Memory) P = ⊤
AuditAnswerSatisfies (Err Store) P = ⊤

-- ---- premises on the database

-- For each schema: if the current database of `held` has all its tables, by name and with exactly
-- their column names, they satisfy `HasDeskDefinitions`: a desk's types, keys and foreign keys. A
-- database without these tables, such as an empty one, satisfies this premise. Vacuous if the disk
-- assumption fails, or once the database is closed.
abbrev pub ConnectionTablesWithDeskNamesAreDeskTables : {S : Type 0} → Ghosts S → Held S → Type 0
ConnectionTablesWithDeskNamesAreDeskTables g held =
    HasCleanDisk (state g held) → IsTrue (state g held).is_open → TablesWithDeskNamesAreDeskTables (state g held).now

-- The same for the tables of schema 3 alone (`TablesWithSchemaNamesAreDeskTables`).
abbrev pub ConnectionTablesWithThirdSchemaNamesAreDeskTables : {S : Type 0} → Ghosts S → Held S → Type 0
ConnectionTablesWithThirdSchemaNamesAreDeskTables g held =
    HasCleanDisk (state g held) → IsTrue (state g held).is_open → TablesWithSchemaNamesAreDeskTables third_schema (state g held).now

-- The current database of the connection `held` has schema 3 (`DatabaseHasSchema`). Vacuous if the
-- disk assumption fails, or once the database is closed.
abbrev pub ConnectionHasThirdSchema : {S : Type 0} → Ghosts S → Held S → Type 0
ConnectionHasThirdSchema g held = HasCleanDisk (state g held) → IsTrue (state g held).is_open → DatabaseHasSchema third_schema (state g held).now

-- ---- an audit

-- The postcondition of an audit by the conditions of schema 3, which writes nothing.
pub record AuditPost {S : Type 0} (g : Ghosts S) (old new : Held S) (result : Result (Unit {0}) Fault) : Type 0 where
  -- `Ok` only if the rows pass the audit, `Damaged` only with the first condition that fails.
  pub answered : HasCleanDisk (state g new) → ConnectionTablesWithThirdSchemaNamesAreDeskTables g old
      → AuditAnswerSatisfies result (IsDatabaseAuditResultBySchema third_schema (state g old).now)
  -- `Ok` and `Damaged` are returned only if the database was open before the call.
  pub was_open : HasCleanDisk (state g new) → AuditAnswerSatisfies result (λ _. IsTrue (state g old).is_open)
  -- The store holds the rows that it held before, whatever the result. Vacuous once it is closed.
  pub same_rows : (t : Tables) → HoldsRows g old t → HoldsRows g new t
  -- If the database is open after the call, it was open before and is unchanged.
  pub unchanged_if_open : HasCleanDisk (state g new) → IsTrue (state g new).is_open → WasOpenAndIsUnchanged (state g old) (state g new)
  -- A crash after the call exposes only states that a crash before the call could expose.
  pub survives : Survives (state g old) (state g new) (λ _. ⊥)

-- ---- an adoption

-- `db` contains the tables of some schema with rows that pass its audit, in UTF-8; `after` contains
-- the tables of schema 3 with the rows of the base that they determine. Every other table of `db`
-- is in `after`, its rows unchanged unless its own foreign key may change or delete them by
-- CASCADE, SET NULL or SET DEFAULT.
abbrev pub UpgradesAuditedRows : Database → Database → Type 0
UpgradesAuditedRows db after =
    (schema : typed_schema.Schema) × (t : Tables) × (passed : StoresRowsWithAuditResult (abstract_schema schema) t db None)
    × HasDeskTables (sheets (base_of_tables t)) after × PreservesTablesOutside (IsTableOfSchema (abstract_schema schema)) passed.0.0 db after

-- `trees` are what the upgrade of `db` from an older schema writes (`UpgradesAuditedRows`).
abbrev pub IsUpgradedDiskContent : Database → Trees → Type 0
IsUpgradedDiskContent db trees =
    (schema : typed_schema.Schema) × (t : Tables) × (schema ≢ Third) × StoresRowsWithAuditResult (abstract_schema schema) t db None
    × IsDiskContentOfRows (sheets (base_of_tables t)) trees

-- The postcondition of an adoption: an audit by the schema that the database has and, at `Ok`, a
-- store that holds the rows, converted to schema 3 (`new`). Clauses with the premise
-- `ConnectionTablesWithDeskNamesAreDeskTables` promise nothing of a database whose tables have a
-- desk's names and column names, but not `HasDeskDefinitions`.
pub record AdoptPost {S : Type 0} (g : Ghosts S) (old new : Held S) (result : Result (Unit {0}) Fault) : Type 0 where
  -- `Ok` only if the rows pass the audit, `Damaged` only with the first condition that fails.
  pub answered : HasCleanDisk (state g new) → ConnectionTablesWithDeskNamesAreDeskTables g old
      → AuditAnswerSatisfies result (IsDatabaseAuditResult (state g old).now)
  -- `Ok` and `Damaged` are returned only if the database was open before the call.
  pub was_open : HasCleanDisk (state g new) → AuditAnswerSatisfies result (λ _. IsTrue (state g old).is_open)
  -- At `Ok` the store holds rows that pass the audit of schema 3, with texts in UTF-8.
  pub adopted : ConnectionTablesWithDeskNamesAreDeskTables g old
      → OnOk result ((t : Tables) × HoldsRows g new t × PassesAudit third_schema t × IsTrue (has_utf8_texts t))
  -- At `Ok`, if the store is open, the old rows passed their audit, and the database contains the
  -- tables of the base that they determine, next to its others (`UpgradesAuditedRows`), committed.
  pub upgraded : HasCleanDisk (state g new) → IsTrue (state g new).is_open → ConnectionTablesWithDeskNamesAreDeskTables g old
      → OnOk result (UpgradesAuditedRows (state g old).now (state g new).now × ((state g new).committed ≡ (state g new).now))
  -- At `Ok` the store is open.
  pub open_after_adoption : HasCleanDisk (state g new) → OnOk result (IsTrue (state g new).is_open)
  -- At an error: if the database is open after the call, it was open before and is unchanged.
  pub unchanged_if_open : HasCleanDisk (state g new) → IsTrue (state g new).is_open → OnErr result (WasOpenAndIsUnchanged (state g old) (state g new))
  -- A crash exposes a prior crash state or, if an older schema's rows pass, the upgraded tables.
  pub survives : ConnectionTablesWithDeskNamesAreDeskTables g old → Survives (state g old) (state g new) (IsUpgradedDiskContent (state g old).now)
  -- At schema 3 the adoption satisfies the postcondition of an audit, which writes nothing.
  pub audited : ConnectionTablesWithDeskNamesAreDeskTables g old → ConnectionHasThirdSchema g old → AuditPost g old new result

-- The base satisfies the books and the audit invariant, and its tables' texts are UTF-8.
pub record IsConsistent (base : Base) : Type 0 where
  pub books : BooksInvariant base
  pub sound : AuditInvariant base
  pub texts : IsTrue (has_utf8_texts (sheets base))

-- The abstraction relation: the store holds the tables of `base`, and `base` is consistent. If the
-- disk assumption fails, or the store is closed, it represents every consistent base.
pub record Represents {S : Type 0} (g : Ghosts S) (store : Held S) (base : Base) : Type 0 where
  pub rows : HoldsRows g store (sheets base)
  pub consistent : IsConsistent base
  pub open consistent use *
