-- The result of an audit by one schema, from the rows that were read.
use Rattle.std.proofs.Common.{◌≡◌, ◌∙◌, ◌&&◌, IfOk, true, false, Bool, List, [], ◌∷◌, map, Option, Some, None, Result, Ok, IsTrue, refl, sym, subst, inl, inr}
use Rattle.std.specs.Prelude.{◌↔◌, ⊤}
use Rattle.std.specs.List.{AllByRecursion}
use Rattle.sqlite.specs.Effect.{Database}
use Rattle.sqlite.specs.State.{State}
use Rattle.brk_money.specs.declared.fault.Condition.{Condition}
use Rattle.brk_money.specs.declared.fault.Condition.TheVariants as condition
use Rattle.brk_money.specs.declared.fault.CallFault.{CallFault}
use Rattle.brk_money.specs.declared.fault.StoreFailed.{StoreFailed}
use Rattle.brk_model.specs.Audit.{ConditionHolds, IsAuditResult, IsFirstFailingCondition, row_conditions}
use Rattle.brk_model.specs.Form.{satisfies_form_condition, has_utf8_texts}
use Rattle.brk_model.specs.Schemas.{Schema, third_schema}
use Rattle.brk_model.specs.Tables.{Tables}
use Rattle.brk_trade_rows.specs.declared.schema.Schema as known
use Rattle.brk_trade_rows.specs.declared.schema.Schema.TheVariants.{Third}
use Rattle.brk_trade_rows.specs.Schemas.{abstract_schema}
use Rattle.brk_trade_rows.specs.Sheets.{abstract_sheets}
use Rattle.brk_trade_rows.specs.declared.sheets.Sheets.{Sheets}
use Rattle.brk_ref.specs.declared.key.Kept as typed
use Rattle.brk_ref.specs.Records.{abstract_key, abstract_kept_row, kept_row_with_empty_texts}
use Rattle.brk_tables_sql.specs.Model.{IsTransactionStep}
use Rattle.brk_tables_sql.proofs.Inside.{step_read, step_then}
use Rattle.brk_tables_sql.proofs.Order.{map_twice}
use Rattle.brk_tables.proofs.OneTables.{one_schema}
use Rattle.brk_tables_schema.specs.Made.{HasDeskTablesInSchema}
use Rattle.brk_tables_scan.specs.Schemas.{DatabaseHasSchema, TablesWithSchemaNamesAreDeskTables}
use Rattle.brk_tables_scan.specs.KeptKeys.{keys_of_kept_rows, tables_with_whole_kept_rows}
use Rattle.brk_tables_scan.specs.Whole.{AreSheetsOfDatabase}
use Rattle.brk_store_transactions.specs.Audited.{IsDatabaseAuditResultBySchema}
use Rattle.brk_store_transactions.proofs.KeptTexts.{answer_alike}
use Rattle.brk_store_transactions.proofs.Texts.{typed_texts}

-- ---- conditions of rows

-- The condition is one of rows: any condition but `NotEmpty` and `Schema`.
abbrev pub IsConditionOfRows : Condition → Type 0
IsConditionOfRows condition.NotEmpty = ⊥
IsConditionOfRows condition.Schema = ⊥
IsConditionOfRows c = ⊤

failing_is_of_rows : (schema : Schema) (cs : List Condition) (t : Tables) (c : Condition) → AllByRecursion IsConditionOfRows cs → IsFirstFailingCondition schema cs t (Some c) → IsConditionOfRows c
failing_is_of_rows schema [] t c all h = absurd (let e : Some c ≡ None = h in cc)
failing_is_of_rows schema (d ∷ cs) t c all (inl h) = failing_is_of_rows schema cs t c all.1 h.1
failing_is_of_rows schema (d ∷ cs) t c all (inr h) = let e : d ≡ c = (let f : Some c ≡ Some d = h.1 in cc) in subst IsConditionOfRows e all.0

audit_is_of_rows : (schema : Schema) (t : Tables) (c : Condition) → IsAuditResult schema t (Some c) → IsConditionOfRows c
audit_is_of_rows schema t c h = failing_is_of_rows schema row_conditions t c
    (tt, (tt, (tt, (tt, (tt, (tt, (tt, (tt, (tt, (tt, (tt, tt))))))))))) h

-- rows have one answer
pub one_failing : (schema : Schema) (cs : List Condition) (t : Tables) (a b : Option Condition) → IsFirstFailingCondition schema cs t a → IsFirstFailingCondition schema cs t b → a ≡ b
one_failing schema [] t a b h k = h ∙ sym k
one_failing schema (c ∷ cs) t a b (inl h) (inl k) = one_failing schema cs t a b h.1 k.1
one_failing schema (c ∷ cs) t a b (inl h) (inr k) = absurd (k.0 h.0)
one_failing schema (c ∷ cs) t a b (inr h) (inl k) = absurd (h.0 k.0)
one_failing schema (c ∷ cs) t a b (inr h) (inr k) = h.1 ∙ sym k.1

-- ---- the result of an audit of a database

-- rows that have not their form fail it
form_fails : (schema : Schema) (t : Tables) → satisfies_form_condition schema t && has_utf8_texts t ≡ false → IsTrue (has_utf8_texts t) → IsAuditResult schema t (Some condition.Form)
unfolding ConditionHolds
form_fails schema t h texts =
    inr (
      (λ (form : IsTrue (satisfies_form_condition schema t)). let e : satisfies_form_condition schema t && has_utf8_texts t ≡ true = rw (form, texts) refl in
          let f : true ≡ false = sym e ∙ h in absurd (cc)),
      refl,
    )

-- the answer of the rows is that of the database
pub rows_are_audited : (schema : known.Schema) (db : Database) (t : Tables) (answer : Option Condition) → DatabaseHasSchema (abstract_schema schema) db
    → HasDeskTablesInSchema (abstract_schema schema) t db → IsTrue (has_utf8_texts t) → IsAuditResult (abstract_schema schema) t answer
    → IsDatabaseAuditResultBySchema (abstract_schema schema) db answer
rows_are_audited schema db t None there rows texts h = (t, (rows, texts, h))
rows_are_audited schema db t (Some condition.NotEmpty) there rows texts h = audit_is_of_rows (abstract_schema schema) t condition.NotEmpty h
rows_are_audited schema db t (Some condition.Schema) there rows texts h = absurd (audit_is_of_rows (abstract_schema schema) t condition.Schema h)
rows_are_audited schema db t (Some condition.Form) there rows texts h =
    (there, λ u others _. subst (λ v. IsAuditResult (abstract_schema schema) v (Some condition.Form)) (one_schema schema schema t u db rows others).1 h)
rows_are_audited schema db t (Some c) there rows texts h = (t, (rows, texts, h))

-- ---- the steps of an audit

-- A read of an open database left it unchanged, and `has` is true if and only if it has a desk of
-- `schema`. The result is specified only if tables with the names of the schema's tables have their
-- definitions.
abbrev pub ShowsIfHasDesk : known.Schema → Bool → State → State → Type 0
ShowsIfHasDesk schema has a b = IsTrue a.is_open × (b.now ≡ a.now) × (TablesWithSchemaNamesAreDeskTables (abstract_schema schema) a.now → IsTrue has ↔ DatabaseHasSchema (abstract_schema schema) a.now)

-- A read of an open database left it unchanged and returned `read`, the typed rows of its tables of
-- `schema` (`AreSheetsOfDatabase`). The result is specified only if the database has a desk of
-- `schema` with the definitions of its tables.
abbrev pub ReadsSheetsOfSchema : known.Schema → Option Sheets → State → State → Type 0
ReadsSheetsOfSchema schema read a b = IsTrue a.is_open × (b.now ≡ a.now)
    × (TablesWithSchemaNamesAreDeskTables (abstract_schema schema) a.now → DatabaseHasSchema (abstract_schema schema) a.now
    → AreSheetsOfDatabase (abstract_schema schema) a.now read)

-- An audit of an open database left it unchanged and returned `answer`, the result of its audit by
-- `schema`. The result is specified only if the database has a desk of `schema` with the
-- definitions of its tables.
abbrev pub AuditsDeskOfSchema : known.Schema → Option Condition → State → State → Type 0
AuditsDeskOfSchema schema answer a b = IsTrue a.is_open × (b.now ≡ a.now)
    × (TablesWithSchemaNamesAreDeskTables (abstract_schema schema) a.now → DatabaseHasSchema (abstract_schema schema) a.now
    → IsDatabaseAuditResultBySchema (abstract_schema schema) a.now answer)

-- An audit of an open database left it unchanged and returned `answer`, the result of its audit by
-- schema 3. The result is specified only if tables with the names of the schema's tables have their
-- definitions.
abbrev pub AuditsByThirdSchema : Option Condition → State → State → Type 0
AuditsByThirdSchema answer a b = IsTrue a.is_open × (b.now ≡ a.now) × (TablesWithSchemaNamesAreDeskTables third_schema a.now → IsDatabaseAuditResultBySchema third_schema a.now answer)

module _ (schema : known.Schema) (a b : State) where
  pub no_form : IsTransactionStep {V = Option Sheets} {E = CallFault} a b (Ok None) (ReadsSheetsOfSchema schema)
      → IsTransactionStep {V = Option Condition} {E = CallFault} a b (Ok (Some condition.Form)) (AuditsDeskOfSchema schema)
  no_form step =
      step_read a b None (Ok (Some condition.Form)) (ReadsSheetsOfSchema schema) (AuditsDeskOfSchema schema)
      (λ answer is p.
      let e : Some condition.Form ≡ answer = cc in
      subst (λ told. AuditsDeskOfSchema schema told a b) e (p.0, p.1, λ defined there. (there, λ t rows texts. form_fails (abstract_schema schema) t (p.2 defined there t rows) texts))) step

  -- the answer for rows of KEPT without their texts is that for the whole rows
  whole_answer : (sheets : Sheets) (whole : List typed.Kept) → keys_of_kept_rows whole ≡ map abstract_key sheets.kept.items → (answer : Option Condition)
      → IsAuditResult (abstract_schema schema) (abstract_sheets sheets) answer
      → IsAuditResult (abstract_schema schema) (tables_with_whole_kept_rows whole sheets) answer
  whole_answer sheets whole keys answer h =
      let here = map_twice (λ k. k.key) kept_row_with_empty_texts sheets.kept.items in
      let there = map_twice (λ k. k.key) abstract_kept_row whole in
      answer_alike (abstract_schema schema) (abstract_sheets sheets) (map kept_row_with_empty_texts sheets.kept.items) (map abstract_kept_row whole)
      (here ∙ sym keys ∙ sym there) row_conditions answer h

  -- the sheets have the schema whose rows were read, and are audited by it
  pub rows_told : (sheets : Sheets) (r : Result (Option Condition) CallFault) → sheets.schema ≡ schema
      → IsTransactionStep {V = Option Sheets} {E = CallFault} a b (Ok (Some sheets)) (ReadsSheetsOfSchema schema)
      → IfOk r (λ answer. IsAuditResult (abstract_schema sheets.schema) (abstract_sheets sheets) answer)
      → IsTransactionStep {V = Option Condition} {E = CallFault} a b r (AuditsDeskOfSchema schema)
  rows_told sheets r of_schema step own =
      let audit = subst (λ (s : known.Schema). IfOk r (λ answer. IsAuditResult (abstract_schema s) (abstract_sheets sheets) answer)) of_schema own in
      step_read a b (Some sheets) r (ReadsSheetsOfSchema schema) (AuditsDeskOfSchema schema)
      (λ answer is p. (
        p.0,
        p.1,
        λ defined there.
            let read = p.2 defined there in
            rows_are_audited schema a.now (tables_with_whole_kept_rows read.whole sheets) answer there read.stored (typed_texts sheets read.whole)
            (whole_answer sheets read.whole read.keys answer (subst (λ o. IfOk o (λ answer. IsAuditResult (abstract_schema schema) (abstract_sheets sheets) answer)) is audit)),
      )) step

-- the desk of the third schema was asked for, and is there
pub desk_told : (a b c : State) (r : Result (Option Condition) CallFault) → IsTransactionStep {V = Bool} {E = StoreFailed} a b (Ok true) (ShowsIfHasDesk Third)
    → IsTransactionStep {V = Option Condition} {E = CallFault} b c r (AuditsDeskOfSchema Third)
    → IsTransactionStep {V = Option Condition} {E = CallFault} a c r AuditsByThirdSchema
desk_told a b c r asked tried =
    step_then a b c true r (ShowsIfHasDesk Third) (AuditsDeskOfSchema Third) AuditsByThirdSchema
    (λ answer p q. (
      p.0,
      q.1 ∙ p.1,
      λ defined. (subst (λ d. TablesWithSchemaNamesAreDeskTables third_schema d → DatabaseHasSchema third_schema d
          → IsDatabaseAuditResultBySchema third_schema d answer) p.1 q.2) defined ((p.2 defined).0 refl),
    ))
    asked tried
