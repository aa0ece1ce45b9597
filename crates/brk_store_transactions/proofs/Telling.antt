-- The result of the examination of a database over all schemas.
use Rattle.std.proofs.Common.{◌≡◌, ◌↔◌, ◌∙◌, true, false, Bool, Option, Some, None, Ok, sym, subst}
use Rattle.std.specs.Prelude.{IsTrue}
use Rattle.sqlite.specs.Effect.{Database}
use Rattle.sqlite.specs.State.{State}
use Rattle.brk_money.specs.declared.fault.CallFault.{CallFault}
use Rattle.brk_money.specs.declared.fault.StoreFailed.{StoreFailed}
use Rattle.brk_money.specs.declared.fault.Condition.{Condition}
use Rattle.brk_money.specs.declared.fault.Condition.TheVariants as condition
use Rattle.brk_trade_rows.specs.declared.schema.Schema as known
use Rattle.brk_trade_rows.specs.declared.schema.Schema.TheVariants.{First, Second, Third}
use Rattle.brk_trade_rows.specs.Schemas.{abstract_schema}
use Rattle.brk_tables_sql.specs.Model.{IsTransactionStep}
use Rattle.brk_tables_sql.proofs.Inside.{step_then, step_read}
use Rattle.brk_tables_scan.specs.Schemas.{DatabaseHasSchema, TablesWithDeskNamesAreDeskTables}
use Rattle.brk_store_transactions.specs.Audited.{IsDatabaseAuditResult, IsDatabaseAuditResultBySchema, IsSchemaOfDatabase}
use Rattle.brk_store_transactions.specs.AuditResult.{IsTrueAuditResult}
use Rattle.brk_store_transactions.specs.declared.examining.AuditResult.{AuditResult}
use Rattle.brk_store_transactions.specs.declared.examining.AuditResult.TheVariants.{Passes, Fails}
use Rattle.brk_store_transactions.proofs.Answering.{ShowsIfHasDesk, AuditsDeskOfSchema}

-- The database has no desk of `schema`.
abbrev pub HasNoDeskOfSchema : known.Schema → Database → Type 0
HasNoDeskOfSchema schema db = DatabaseHasSchema (abstract_schema schema) db → ⊥

not_of : (schema : known.Schema) (db : Database) (has : Bool) → (IsTrue has ↔ DatabaseHasSchema (abstract_schema schema) db) → has ≡ false → HasNoDeskOfSchema schema db
not_of schema db has told off = λ there. absurd (let sure : has ≡ true = told.1 there in let f = sym off ∙ sure in cc)

none_of : (db : Database) → HasNoDeskOfSchema Third db → HasNoDeskOfSchema Second db → HasNoDeskOfSchema First db → IsSchemaOfDatabase None db
none_of db a b c First there = c there
none_of db a b c Second there = b there
none_of db a b c Third there = a there

-- the condition that fails by the schema of the database is the one that fails of the database
audited_of : (schema : known.Schema) (db : Database) (failing : Condition) → DatabaseHasSchema (abstract_schema schema) db
    → IsDatabaseAuditResultBySchema (abstract_schema schema) db (Some failing) → IsDatabaseAuditResult db (Some failing)
audited_of schema db condition.NotEmpty there h = h
audited_of schema db condition.Schema there h = absurd (h there)
audited_of schema db c there h = (schema, h)

-- ---- the schema that is there

-- A read of an open database left it unchanged and returned `found`, the schema whose desk it has,
-- or `None`. The result is specified only if tables with the names of a desk's tables have their
-- definitions.
abbrev pub FindsSchemaOfDatabase : Option known.Schema → State → State → Type 0
FindsSchemaOfDatabase found a b = IsTrue a.is_open × (b.now ≡ a.now) × (TablesWithDeskNamesAreDeskTables a.now → IsSchemaOfDatabase found a.now)

-- A read of an open database left it unchanged and showed that it satisfies `before_first_trade`.
-- This is specified only if tables with the names of a desk's tables have their definitions.
abbrev ShowsDatabaseSatisfies : (Database → Type 0) → Unit {0} → State → State → Type 0
ShowsDatabaseSatisfies none _ a b = IsTrue a.is_open × (b.now ≡ a.now) × (TablesWithDeskNamesAreDeskTables a.now → none a.now)

sure : (schema : known.Schema) (a b : State) (has : Bool) → has ≡ true → IsTransactionStep {V = Bool} {E = StoreFailed} a b (Ok has) (ShowsIfHasDesk schema)
    → IsTransactionStep {V = Option known.Schema} {E = StoreFailed} a b (Ok (Some schema)) FindsSchemaOfDatabase
sure schema a b has is step =
    step_read a b has (Ok (Some schema)) (ShowsIfHasDesk schema) FindsSchemaOfDatabase
    (λ found e p. let same : Some schema ≡ found = cc in subst (λ f. FindsSchemaOfDatabase f a b) same (p.0, p.1, λ defined. (p.2 (defined schema)).0 is)) step

denied : (schema : known.Schema) (a b : State) (has : Bool) → has ≡ false → IsTransactionStep {V = Bool} {E = StoreFailed} a b (Ok has) (ShowsIfHasDesk schema)
    → IsTransactionStep {V = Unit {0}} {E = StoreFailed} a b (Ok tt) (ShowsDatabaseSatisfies (HasNoDeskOfSchema schema))
denied schema a b has is step =
    step_read a b has (Ok tt) (ShowsIfHasDesk schema) (ShowsDatabaseSatisfies (HasNoDeskOfSchema schema))
    (λ _ e p. (p.0, p.1, λ defined. not_of schema a.now has (p.2 (defined schema)) is)) step

also : (P Q : Database → Type 0) (a b c : State) → IsTransactionStep {V = Unit {0}} {E = StoreFailed} a b (Ok tt) (ShowsDatabaseSatisfies P)
    → IsTransactionStep {V = Unit {0}} {E = StoreFailed} b c (Ok tt) (ShowsDatabaseSatisfies Q)
    → IsTransactionStep {V = Unit {0}} {E = StoreFailed} a c (Ok tt) (ShowsDatabaseSatisfies (λ db. P db × Q db))
also P Q a b c one two =
    step_then a b c tt (Ok tt) (ShowsDatabaseSatisfies P) (ShowsDatabaseSatisfies Q) (ShowsDatabaseSatisfies (λ db. P db × Q db))
    (λ _ p q. (p.0, q.1 ∙ p.1, λ defined. (p.2 defined, (subst (λ d. TablesWithDeskNamesAreDeskTables d → Q d) p.1 q.2) defined))) one two

later : (P : Database → Type 0) (a b c : State) (found : Option known.Schema)
    → IsTransactionStep {V = Unit {0}} {E = StoreFailed} a b (Ok tt) (ShowsDatabaseSatisfies P)
    → IsTransactionStep {V = Option known.Schema} {E = StoreFailed} b c (Ok found) FindsSchemaOfDatabase
    → IsTransactionStep {V = Option known.Schema} {E = StoreFailed} a c (Ok found) FindsSchemaOfDatabase
later P a b c found one two =
    step_then a b c tt (Ok found) (ShowsDatabaseSatisfies P) FindsSchemaOfDatabase FindsSchemaOfDatabase
    (λ f p q. (p.0, q.1 ∙ p.1, subst (λ d. TablesWithDeskNamesAreDeskTables d → IsSchemaOfDatabase f d) p.1 q.2)) one two

module _ (a b c d : State) (third second first : Bool) (one : IsTransactionStep {V = Bool} {E = StoreFailed} a b (Ok third) (ShowsIfHasDesk Third)) where
  pub found_third : third ≡ true → IsTransactionStep {V = Option known.Schema} {E = StoreFailed} a b (Ok (Some Third)) FindsSchemaOfDatabase
  found_third is = sure Third a b third is one

  module _ (not_third : third ≡ false) (two : IsTransactionStep {V = Bool} {E = StoreFailed} b c (Ok second) (ShowsIfHasDesk Second)) where
    pub found_second : second ≡ true → IsTransactionStep {V = Option known.Schema} {E = StoreFailed} a c (Ok (Some Second)) FindsSchemaOfDatabase
    found_second is = later (HasNoDeskOfSchema Third) a b c (Some Second) (denied Third a b third not_third one) (sure Second b c second is two)

    module _ (not_second : second ≡ false) (three : IsTransactionStep {V = Bool} {E = StoreFailed} c d (Ok first) (ShowsIfHasDesk First)) where
      two_denied : IsTransactionStep {V = Unit {0}} {E = StoreFailed} a c (Ok tt) (ShowsDatabaseSatisfies (λ db. HasNoDeskOfSchema Third db × HasNoDeskOfSchema Second db))
      two_denied = also (HasNoDeskOfSchema Third) (HasNoDeskOfSchema Second) a b c (denied Third a b third not_third one) (denied Second b c second not_second two)

      pub found_first : first ≡ true → IsTransactionStep {V = Option known.Schema} {E = StoreFailed} a d (Ok (Some First)) FindsSchemaOfDatabase
      found_first is = later (λ db. HasNoDeskOfSchema Third db × HasNoDeskOfSchema Second db) a c d (Some First) two_denied (sure First c d first is three)

      pub found_none : first ≡ false → IsTransactionStep {V = Option known.Schema} {E = StoreFailed} a d (Ok None) FindsSchemaOfDatabase
      found_none is =
          let all = also (λ db. HasNoDeskOfSchema Third db × HasNoDeskOfSchema Second db) (HasNoDeskOfSchema First) a c d two_denied (denied First c d first is three) in
          step_read a d tt (Ok None) (ShowsDatabaseSatisfies (λ db. (HasNoDeskOfSchema Third db × HasNoDeskOfSchema Second db) × HasNoDeskOfSchema First db)) FindsSchemaOfDatabase
          (λ found e p. let same : None ≡ found = cc in subst (λ f. FindsSchemaOfDatabase f a d) same (p.0, p.1, λ defined. let n = p.2 defined in none_of a.now n.0.0 n.0.1 n.1)) all

-- ---- the rows

-- An audit of an open database left it unchanged and returned `answered`, whose statement about the
-- database is true. The result is specified only if tables with the names of a desk's tables have
-- their definitions.
abbrev pub ReturnsTrueAuditResult : AuditResult → State → State → Type 0
ReturnsTrueAuditResult told a b = IsTrue a.is_open × (b.now ≡ a.now) × (TablesWithDeskNamesAreDeskTables a.now → IsTrueAuditResult told a.now)

module _ (a b c : State) (schema : known.Schema) (there : IsTransactionStep {V = Option known.Schema} {E = StoreFailed} a b (Ok (Some schema)) FindsSchemaOfDatabase) where
  -- the desk that is there, and the result of its conditions
  examined : (answer : Option Condition) (told : AuditResult)
      → ((db : Database) → DatabaseHasSchema (abstract_schema schema) db → IsDatabaseAuditResultBySchema (abstract_schema schema) db answer
      → IsTrueAuditResult told db)
      → IsTransactionStep {V = Option Condition} {E = CallFault} b c (Ok answer) (AuditsDeskOfSchema schema) → IsTransactionStep {V = AuditResult} {E = CallFault} a c (Ok told) ReturnsTrueAuditResult
  examined answer told tells step =
      step_then a b c (Some schema) (Ok told) FindsSchemaOfDatabase (λ seen x y. (told ≡ seen) × AuditsDeskOfSchema schema answer x y) ReturnsTrueAuditResult
      (λ seen p q. subst (λ t. ReturnsTrueAuditResult t a c) q.0 (
        p.0,
        q.1.1 ∙ p.1,
        λ defined.
            let desk = p.2 defined in
            tells a.now desk ((subst
            (λ d. TablesWithDeskNamesAreDeskTables d → DatabaseHasSchema (abstract_schema schema) d
            → IsDatabaseAuditResultBySchema (abstract_schema schema) d answer) p.1 (λ all. q.1.2 (all schema))) defined desk),
      ))
      there
      (step_read b c answer (Ok told) (AuditsDeskOfSchema schema) (λ seen x y. (told ≡ seen) × AuditsDeskOfSchema schema answer x y) (λ seen e p. (let same : told ≡ seen = cc in same, p)) step)

  pub tells_passes : IsTransactionStep {V = Option Condition} {E = CallFault} b c (Ok None) (AuditsDeskOfSchema schema)
      → IsTransactionStep {V = AuditResult} {E = CallFault} a c (Ok (Passes schema)) ReturnsTrueAuditResult
  tells_passes = examined None (Passes schema) (λ db desk h. h)

  pub tells_fails : (failing : Condition) → IsTransactionStep {V = Option Condition} {E = CallFault} b c (Ok (Some failing)) (AuditsDeskOfSchema schema)
      → IsTransactionStep {V = AuditResult} {E = CallFault} a c (Ok (Fails failing)) ReturnsTrueAuditResult
  tells_fails failing = examined (Some failing) (Fails failing) (λ db desk h. audited_of schema db failing desk h)
