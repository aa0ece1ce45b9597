-- The result of an audit of a store's rows, and the rows of an adopted store.
use Rattle.std.proofs.Common.{◌≡◌, ◌∙◌, true, Option, Some, None, Result, Ok, Err, IsTrue, refl, sym, ap, subst, inl, inr}
use Rattle.std.specs.Prelude.{◌⊎◌}
use Rattle.sqlite_trees.specs.declared.store.Store.{Ghosts}
use Rattle.sqlite.specs.Effect.{Database}
use Rattle.sqlite.specs.Held.{Held, state}
use Rattle.sqlite.specs.State.{HasCleanDisk}
use Rattle.brk_money.specs.declared.fault.Condition.{Condition}
use Rattle.brk_money.specs.declared.fault.Condition.TheVariants.{NotEmpty, Schema, Form}
use Rattle.brk_money.specs.declared.fault.Fault.{Fault}
use Rattle.brk_money.specs.declared.fault.Fault.TheVariants.{Memory, Store, Damaged}
use Rattle.brk_model.specs.Adopted.{base_of_tables}
use Rattle.brk_model.specs.Audit.{IsAuditResult, row_conditions}
use Rattle.brk_model.specs.Base.{Base}
use Rattle.brk_model.specs.Form.{has_utf8_texts}
use Rattle.brk_model.specs.Schemas.{third_schema}
use Rattle.brk_model.specs.Sheets.{sheets}
use Rattle.brk_model.specs.Tables.{Tables}
use Rattle.brk_trade_rows.specs.declared.schema.Schema as known
use Rattle.brk_trade_rows.specs.declared.schema.Schema.TheVariants.{First, Second, Third}
use Rattle.brk_trade_rows.specs.Schemas.{abstract_schema}
use Rattle.brk_audit_theorems.specs.Passing.{PassesAudit}
use Rattle.brk_audit_theorems.proofs.UpgradedRows.{first_narrower, upgraded_rows, second_narrower}
use Rattle.brk_audit_theorems.proofs.Passing.{passing_books, passing_tables}
use Rattle.brk_audit_theorems.proofs.Adopted.{passing_sound, sound_passes}
use Rattle.brk_tables.proofs.OneTables.{one_schema}
use Rattle.brk_tables_sql.proofs.Inside.{clean_before}
use Rattle.brk_tables_schema.specs.Made.{HasDeskTablesInSchema}
use Rattle.brk_tables_scan.specs.Schemas.{DatabaseHasSchema}
use Rattle.brk_tables_scan.proofs.Defined.{desk_is_there}
use Rattle.brk_store_transactions.specs.Audited.{StoresRowsWithAuditResult, IsDatabaseAuditResult, IsDatabaseAuditResultBySchema, IsSchemaOfDatabase, UpgradesAuditedRows}
use Rattle.brk_store_transactions.specs.Audited.{ConnectionHasThirdSchema, Represents, AdoptPost, AuditPost, ConnectionTablesWithDeskNamesAreDeskTables}
use Rattle.brk_store_transactions.specs.Audited.{ConnectionTablesWithThirdSchemaNamesAreDeskTables, AuditAnswerSatisfies}
use Rattle.brk_store_transactions.specs.Holds.{HoldsRows}
use Rattle.brk_store_transactions.proofs.Adoption.{upgraded_pass, upgraded_read}
use Rattle.brk_store_transactions.proofs.Answering.{one_failing}
use Rattle.brk_store_transactions.proofs.Closing.{answer_with}
use Rattle.brk_store_transactions.proofs.Schemas.{desk_of_rows, one_desk, rows_defined, rows_third}

-- ---- the answer of a database is that of its rows, and one alone

-- by one schema
pub rows_answer : (schema : known.Schema) (db : Database) (t : Tables) (answer : Option Condition) → HasDeskTablesInSchema (abstract_schema schema) t db
    → IsTrue (has_utf8_texts t) → IsDatabaseAuditResultBySchema (abstract_schema schema) db answer → IsAuditResult (abstract_schema schema) t answer
rows_answer schema db t None rows texts h = subst (λ u. IsAuditResult (abstract_schema schema) u None) (one_schema schema schema h.0 t db h.1.0 rows).1 h.1.2
rows_answer schema db t (Some NotEmpty) rows texts h = absurd h
rows_answer schema db t (Some Schema) rows texts h = absurd (h (desk_is_there (abstract_schema schema) t db rows))
rows_answer schema db t (Some Form) rows texts h = h.1 t rows texts
rows_answer schema db t (Some c) rows texts h = subst (λ u. IsAuditResult (abstract_schema schema) u (Some c)) (one_schema schema schema h.0 t db h.1.0 rows).1 h.1.2

-- The database has rows of `schema` with texts in UTF-8; or it has a desk of `schema` and `answer`
-- is `Form`; or it has none and `answer` is `Schema`.
abbrev HasReadableRowsOrFails : known.Schema → Database → Option Condition → Type 0
HasReadableRowsOrFails schema db answer =
    ((t : Tables) × HasDeskTablesInSchema (abstract_schema schema) t db × IsTrue (has_utf8_texts t))
    ⊎ (((answer ≡ Some Form) × DatabaseHasSchema (abstract_schema schema) db)
    ⊎ ((answer ≡ Some Schema) × (¬ DatabaseHasSchema (abstract_schema schema) db)))

kind_of : (schema : known.Schema) (db : Database) (answer : Option Condition) → IsDatabaseAuditResultBySchema (abstract_schema schema) db answer → HasReadableRowsOrFails schema db answer
kind_of schema db None h = inl (h.0, h.1.0, h.1.1)
kind_of schema db (Some NotEmpty) h = absurd h
kind_of schema db (Some Schema) h = inr (inr (refl, h))
kind_of schema db (Some Form) h = inr (inl (refl, h.0))
kind_of schema db (Some c) h = inl (h.0, h.1.0, h.1.1)

one_by_rows : (schema : known.Schema) (db : Database) (a b : Option Condition) → (t : Tables) × HasDeskTablesInSchema (abstract_schema schema) t db
    × IsTrue (has_utf8_texts t) → IsDatabaseAuditResultBySchema (abstract_schema schema) db a → IsDatabaseAuditResultBySchema (abstract_schema schema) db b
    → a ≡ b
one_by_rows schema db a b r h k = one_failing (abstract_schema schema) row_conditions r.0 a b (rows_answer schema db r.0 a r.1 r.2 h) (rows_answer schema db r.0 b r.1 r.2 k)

one_of_kinds : (schema : known.Schema) (db : Database) (a b : Option Condition) → IsDatabaseAuditResultBySchema (abstract_schema schema) db a
    → IsDatabaseAuditResultBySchema (abstract_schema schema) db b → HasReadableRowsOrFails schema db a → HasReadableRowsOrFails schema db b → a ≡ b
one_of_kinds schema db a b h k (inl r) l = one_by_rows schema db a b r h k
one_of_kinds schema db a b h k (inr p) (inl r) = one_by_rows schema db a b r h k
one_of_kinds schema db a b h k (inr (inl p)) (inr (inl q)) = p.0 ∙ sym q.0
one_of_kinds schema db a b h k (inr (inl p)) (inr (inr q)) = absurd (q.1 p.1)
one_of_kinds schema db a b h k (inr (inr p)) (inr (inl q)) = absurd (p.1 q.1)
one_of_kinds schema db a b h k (inr (inr p)) (inr (inr q)) = p.0 ∙ sym q.0

pub one_answer_by : (schema : known.Schema) (db : Database) (a b : Option Condition) → IsDatabaseAuditResultBySchema (abstract_schema schema) db a
    → IsDatabaseAuditResultBySchema (abstract_schema schema) db b → a ≡ b
one_answer_by schema db a b h k = one_of_kinds schema db a b h k (kind_of schema db a h) (kind_of schema db b k)

-- `answer` is `Schema` and the database has a desk of no schema; or the database has a desk of some
-- schema, and `answer` is the result of its audit by this schema.
abbrev IsAuditOfSomeDeskOrNone : Database → Option Condition → Type 0
IsAuditOfSomeDeskOrNone db answer = ((answer ≡ Some Schema) × IsSchemaOfDatabase None db)
    ⊎ ((schema : known.Schema) × DatabaseHasSchema (abstract_schema schema) db × IsDatabaseAuditResultBySchema (abstract_schema schema) db answer)

answer_of : (db : Database) (answer : Option Condition) → IsDatabaseAuditResult db answer → IsAuditOfSomeDeskOrNone db answer
answer_of db None h = inr (h.0, desk_is_there (abstract_schema h.0) h.1.0 db h.1.1.0, h.1)
answer_of db (Some NotEmpty) h = absurd h
answer_of db (Some Schema) h = inl (refl, h)
answer_of db (Some Form) h = inr (h.0, h.1.0, h.1)
answer_of db (Some c) h = inr (h.0, desk_is_there (abstract_schema h.0) h.1.0 db h.1.1.0, h.1)

-- rows of one schema, and what was answered by one of which a desk is there
one_by_desk : (db : Database) (a b : Option Condition) (s r : known.Schema) (t : Tables) → HasDeskTablesInSchema (abstract_schema s) t db
    → IsDatabaseAuditResultBySchema (abstract_schema s) db a → DatabaseHasSchema (abstract_schema r) db → IsDatabaseAuditResultBySchema (abstract_schema r) db b
    → a ≡ b
one_by_desk db a b s r t rows h there k = one_answer_by s db a b h (subst (λ (q : known.Schema). IsDatabaseAuditResultBySchema (abstract_schema q) db b) (one_desk r s t db there rows) k)

one_of_answers : (db : Database) (a b : Option Condition) → IsAuditOfSomeDeskOrNone db a → IsAuditOfSomeDeskOrNone db b → a ≡ b
one_of_answers db a b (inl p) (inl q) = p.0 ∙ sym q.0
one_of_answers db a b (inl p) (inr q) = absurd (p.1 q.0 q.1)
one_of_answers db a b (inr p) (inl q) = absurd (q.1 p.0 p.1)
one_of_answers db a b (inr p) (inr q) = go (kind_of p.0 db a p.2) (kind_of q.0 db b q.2)
  where
    go : HasReadableRowsOrFails p.0 db a → HasReadableRowsOrFails q.0 db b → a ≡ b
    go (inl r) l = one_by_desk db a b p.0 q.0 r.0 r.1 p.2 q.1 q.2
    go (inr l) (inl r) = sym (one_by_desk db b a q.0 p.0 r.0 r.1 q.2 p.1 p.2)
    go (inr (inr n)) l = absurd (n.1 p.1)
    go (inr l) (inr (inr n)) = absurd (n.1 q.1)
    go (inr (inl l)) (inr (inl r)) = l.0 ∙ sym r.0

pub one_answer : (db : Database) (a b : Option Condition) → IsDatabaseAuditResult db a → IsDatabaseAuditResult db b → a ≡ b
one_answer db a b h k = one_of_answers db a b (answer_of db a h) (answer_of db b k)

-- ---- a store

pub defined_in : {S : Type 0} (g : Ghosts S) (held : Held S) (t : Tables) → HoldsRows g held t → ConnectionTablesWithDeskNamesAreDeskTables g held
defined_in g held t holds clean on = rows_defined t (state g held).now (holds clean on)

third_defined_in : {S : Type 0} (g : Ghosts S) (held : Held S) (t : Tables) → HoldsRows g held t → ConnectionTablesWithThirdSchemaNamesAreDeskTables g held
third_defined_in g held t holds clean on = rows_defined t (state g held).now (holds clean on) Third

pub third_in : {S : Type 0} (g : Ghosts S) (held : Held S) (t : Tables) → HoldsRows g held t → ConnectionHasThirdSchema g held
third_in g held t holds clean on = desk_of_rows t (state g held).now (holds clean on)

module _ {S : Type 0} (g : Ghosts S) (old new : Held S) (result : Result (Unit {0}) Fault) where
  module _ (audited : AuditPost g old new result) where
    pub tells_of_rows : (t : Tables) → HoldsRows g old t → IsTrue (has_utf8_texts t) → HasCleanDisk (state g new) → AuditAnswerSatisfies result (IsAuditResult third_schema t)
    tells_of_rows t holds texts clean =
        answer_with result (IsDatabaseAuditResultBySchema third_schema (state g old).now) (λ _. IsTrue (state g old).is_open) (IsAuditResult third_schema t)
        (λ answer h on. rows_answer Third (state g old).now t answer (rows_third t (state g old).now (holds (clean_before (state g old) (state g new) (λ _. ⊥) audited.survives clean) on)) texts h)
        (audited.answered clean (third_defined_in g old t holds)) (audited.was_open clean)

    pub sound_books_pass : (base : Base) → Represents g old base → HasCleanDisk (state g new) → AuditAnswerSatisfies result (λ answer. answer ≡ None)
    sound_books_pass base holds clean =
        answer_with result (IsAuditResult third_schema (sheets base)) (λ _. IsTrue true) (λ answer. answer ≡ None)
        (λ answer h _. one_failing third_schema row_conditions (sheets base) answer None h (sound_passes base holds.books holds.sound))
        (tells_of_rows (sheets base) holds.rows holds.texts clean)
        (everything result)
      where
        everything : (r : Result (Unit {0}) Fault) → AuditAnswerSatisfies r (λ _. IsTrue true)
        everything (Ok x) = refl
        everything (Err (Damaged c)) = refl
        everything (Err Memory) = tt
        everything (Err Store) = tt

  -- the adoption of what holds rows of the third schema is an audit
  pub third_audited : AdoptPost g old new result → (t : Tables) → HoldsRows g old t → AuditPost g old new result
  third_audited adopted t holds = adopted.audited (defined_in g old t holds) (third_in g old t holds)

-- ---- adopted

pub passing_books_held : {S : Type 0} (g : Ghosts S) (store : Held S) (t : Tables) → HoldsRows g store t → PassesAudit third_schema t
    → IsTrue (has_utf8_texts t) → Represents g store (base_of_tables t)
passing_books_held g store t holds passes texts =
    let e = passing_tables third_schema t passes in
    record {
      rows = subst (HoldsRows g store) (sym e) holds;
      consistent = record { books = passing_books third_schema t passes; sound = passing_sound t passes; texts = subst (λ u. IsTrue (has_utf8_texts u)) (sym e) texts };
    }

pub adopted_books : {S : Type 0} (g : Ghosts S) (old new : Held S) → AdoptPost g old new (Ok tt) → ConnectionTablesWithDeskNamesAreDeskTables g old → (base : Base) × Represents g new base
adopted_books g old new is defined = let a = is.adopted defined in (base_of_tables a.0, passing_books_held g new a.0 a.1 a.2 a.3)

-- a move leaves the books of the rows that passed
upgraded_base : (schema : known.Schema) (t : Tables) → PassesAudit (abstract_schema schema) t → base_of_tables (sheets (base_of_tables t)) ≡ base_of_tables t
upgraded_base First t p = let m = upgraded_rows (abstract_schema First) t first_narrower p in sym (ap base_of_tables m.tables) ∙ m.base
upgraded_base Second t p = let m = upgraded_rows (abstract_schema Second) t second_narrower p in sym (ap base_of_tables m.tables) ∙ m.base
upgraded_base Third t p = ap base_of_tables (passing_tables third_schema t p)

pub upgraded_books : {S : Type 0} (g : Ghosts S) (new : Held S) (db : Database) → (m : UpgradesAuditedRows db (state g new).now) → Represents g new (base_of_tables m.1)
upgraded_books g new db m =
    subst (Represents g new) (upgraded_base m.0 m.1 m.2.2)
    (passing_books_held g new (sheets (base_of_tables m.1)) (λ _ _. m.3) (upgraded_pass m.0 m.1 m.2.2) (upgraded_read m.0 m.1 m.2.2 m.2.1))

pub held_after : {S : Type 0} (g : Ghosts S) (old new : Held S) → AdoptPost g old new (Ok tt) → ConnectionTablesWithDeskNamesAreDeskTables g old
    → HasCleanDisk (state g new) → IsTrue (state g new).is_open
    → (schema : known.Schema) × (rows : Tables) × StoresRowsWithAuditResult (abstract_schema schema) rows (state g old).now None × Represents g new (base_of_tables rows)
held_after g old new is defined clean on = let m = (is.upgraded clean on defined).0 in (m.0, m.1, m.2, upgraded_books g new (state g old).now m)
