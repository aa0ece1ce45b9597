-- The test that a table exists, by preparing a DELETE that is never executed.
use Rattle.std.proofs.Common.{◌≡◌, ◌↔◌, inl, inr, ℕ, List, [], ◌∷◌, is_some, slice_get, Bool, true, false, None, Some, Option, Ok, Err, Result, refl, sym, ◌∙◌, arith, subst, IsErr, IsTrue}
use Rattle.sqlite_schema.specs.declared.schema.Schema.{Schema}
use Rattle.sqlite_schema.specs.declared.schema.Table.{Table}
use Rattle.sqlite_schema.specs.Names.{table_named}
use Rattle.sqlite_rules.proofs.RowLemmas.{position_within}
use Rattle.sqlite_sql.specs.Term.{col}
use Rattle.sqlite_draft.specs.declared.join.Step.TheVariants.{Inner}
use Rattle.sqlite_resolve.specs.declared.error.CompileError.{CompileError}
use Rattle.sqlite_resolve.specs.declared.error.CompileError.TheVariants.{NoSuchTable}
use Rattle.sqlite_resolve.specs.declared.compiled.Compiled.{Compiled}
use Rattle.sqlite_resolve.specs.Write.{deleted, picked, simple}
use Rattle.sqlite_resolve.specs.Body.{tests}
use Rattle.sqlite_resolve.specs.Scope.{Name}
use Rattle.sqlite_resolve.specs.Compile.{compiled, first, planned, timed, meaning, command, returning, shows, delete}
use Rattle.sqlite_syntax.specs.declared.statement.Parsed.{Parsed}
use Rattle.sqlite_ast.specs.declared.Statement.TheVariants as written
use Rattle.sqlite.specs.Listing.{understood, listing_schema}
use Rattle.sqlite_value.specs.Order.{Row}
use Rattle.sqlite_trees.specs.declared.error.StoreError.{StoreError}
use Rattle.sqlite_trees.specs.declared.error.StoreError.TheVariants as store
use Rattle.sqlite.specs.Steps.{Outlines}
use Rattle.sqlite.specs.Outline.{Outline}
use Rattle.sqlite.specs.declared.error.Error.{Error}
use Rattle.sqlite.specs.declared.error.Error.TheVariants.{SqlInputError}
use Rattle.sqlite.specs.State.{State, HasCleanDisk, KeepsCommit, Survives, IsUnchanged, IsNotRun, store_error}
use Rattle.brk_tables_sql.specs.Model.{IsTransactionStep}
use Rattle.brk_tables_sql.specs.Desk.{IsResultColumnCheckOutcome, IsCompilationOutcome}
use Rattle.brk_tables_sql.proofs.Inside.{kept_unchanged, kept_rolled, on_err}
use Rattle.brk_tables_sql.proofs.Meant.{deletes_or}

module _ (text : List ℕ) (p : Parsed) (name : Name) (is : first text ≡ Ok p) (statement : p.statement ≡ written.Delete name None []) (untimed : p.formats ≡ [])
    (unlisted : compiled listing_schema text ≡ Err NoSuchTable) where
  missing : (schema : Schema) → table_named schema name ≡ None → compiled schema text ≡ Err NoSuchTable
  unfolding compiled planned timed meaning returning shows command delete
  missing schema none = rw (is, statement, untimed, none)

  absent : (schema : Schema) → table_named schema name ≡ None → understood schema text ≡ Err NoSuchTable
  unfolding understood
  absent schema none = rw (missing schema none, unlisted)

  all_rows : (schema : Schema) (at : ℕ) (table : Table) → deleted schema at table None ≡ Ok (simple (Inner table.tree ∷ []) [] (col 1 0 ∷ []))
  unfolding deleted picked tests
  all_rows schema at table = refl

  refused_or : (schema : Schema) (at : ℕ) (table : Table) → table_named schema name ≡ Some at → slice_get schema.tables at ≡ Some table → (understood schema text ≡ Err NoSuchTable → ⊥)
  unfolding understood
  refused_or schema at table named found off =
      elim (deletes_or schema text p is untimed name at table named found None _ statement (all_rows schema at table)) [
        | inl ok ↦ (let e = rw ok at off in cc)
        | inr mis ↦ (let e = rw mis at off in cc)
      ]

  there : (schema : Schema) (at : ℕ) → table_named schema name ≡ Some at → (table : Table) × (slice_get schema.tables at ≡ Some table)
  there schema at named = elim (Rattle.std.proofs.lemmas.Option.slice_get_cases schema.tables at).1 [
    | inl found ↦ (found.0, found.2)
    | inr past ↦ absurd (omega (arith, position_within _ schema.tables 0 at named, past.0))
  ]

  -- the answer says whether the schema has a table of this name
  pub probed : (schema : Schema) (has : Bool) → IsCompilationOutcome text has schema → has ≡ is_some (table_named schema name)
  probed schema true h = go (table_named schema name) refl
    where
      go : (r : Option ℕ) → table_named schema name ≡ r → true ≡ is_some r
      go None e = absurd (let f = sym (absent schema e) ∙ h.1 in cc)
      go (Some at) e = refl
  probed schema false h = go (table_named schema name) refl
    where
      go : (r : Option ℕ) → table_named schema name ≡ r → false ≡ is_some r
      go None e = refl
      go (Some at) e = let t = there schema at e in absurd (refused_or schema at t.0 e t.1 h)

-- ---- what `prepare` says

pub not_run_kept : (sql : List ℕ) (params : Row) (old new : State) (e : Error) → IsNotRun old new sql params e → KeepsCommit old new
unfolding IsNotRun
not_run_kept sql params old new e (inl h) = kept_unchanged old new h.1
not_run_kept sql params old new e (inr h) = kept_rolled old new h.3

absent_told : (text : List ℕ) (old new : State) → IsNotRun old new text [] (SqlInputError NoSuchTable) → (understood old.now.schema text ≡ Err NoSuchTable) × IsUnchanged old new
unfolding IsNotRun
absent_told text old new (inl (inl fault, same)) = let e : fault.0 ≡ NoSuchTable = cc in (rw e at fault.1, same)
absent_told text old new (inl (inr (c, is, inl multiple), same)) = absurd (let e = multiple.1 in cc)
absent_told text old new (inl (inr (c, is, inr (inl count)), same)) = absurd (let e = count.1 in cc)
absent_told text old new (inl (inr (c, is, inr (inr clock)), same)) = absurd (let e = clock.1 in cc)
absent_told text old new (inr fails) = absurd (no_store fails.0 fails.1)
  where
    no_store : (cause : StoreError) → SqlInputError NoSuchTable ≡ store_error cause → ⊥
    no_store = elim [ store.OutOfMemory ↦ λ e. cc | store.Io ↦ λ e. cc | store.Corrupt ↦ λ e. cc | store.Full ↦ λ e. cc | store.Broken ↦ λ e. cc | store.Unstorable ↦ λ e. cc ]

there_told : (text : List ℕ) (schema : Schema) (o : Outline) → Outlines (understood schema text) o → (c : Compiled) × (understood schema text ≡ Ok c)
there_told text schema o h = go (understood schema text) refl h
  where
    go : (r : Result Compiled CompileError) → understood schema text ≡ r → Outlines r o → (c : Compiled) × (understood schema text ≡ Ok c)
    go (Ok c) e h = (c, e)
    go (Err e) _ h = absurd h

module _ (text : List ℕ) (old new : State) (survives : Survives old new (λ _. ⊥)) where
  abbrev pub Says : Bool → State → State → Type 0
  Says has before after = IsTrue before.is_open × (after.now ≡ before.now) × IsCompilationOutcome text has before.now.schema

  pub says_there : (o : Outline) → (HasCleanDisk new → IsUnchanged old new) → (HasCleanDisk new → Outlines (understood old.now.schema text) o) → IsTransactionStep {E = Error} old new (Ok true) Says
  says_there o same shape = record {
    commits_nothing = λ clean. kept_unchanged old new (same clean);
    relates_states = λ clean on. let u = same clean in (subst IsTrue (sym u.0.mode) on, (u.0.was_open, u.0.now_is, there_told text old.now.schema o (shape clean)));
    survives = survives;
  }

  pub says_absent : (e : Error) → e ≡ SqlInputError NoSuchTable → (HasCleanDisk new → IsNotRun old new text [] e) → IsTransactionStep {E = Error} old new (Ok false) Says
  says_absent e named fails =
      let told = λ (clean : HasCleanDisk new). absent_told text old new (subst (IsNotRun old new text []) named (fails clean)) in
      record {
        commits_nothing = λ clean. kept_unchanged old new (told clean).1;
        relates_states = λ clean on. let u = (told clean).1 in (subst IsTrue (sym u.0.mode) on, (u.0.was_open, u.0.now_is, (told clean).0));
        survives = survives;
      }

-- ---- what the columns of a statement say

headed : (text : List ℕ) (schema : Schema) (o : Outline) (names : List (List ℕ)) (has : Bool) → Outlines (understood schema text) o
    → (IsTrue has ↔ o.columns ≡ names) → IsResultColumnCheckOutcome text names has schema
headed text schema o names has h tells = go (understood schema text) refl h
  where
    go : (r : Result Compiled CompileError) → understood schema text ≡ r → Outlines r o → IsResultColumnCheckOutcome text names has schema
    go (Ok c) e h = (c, e, subst (λ columns. IsTrue has ↔ columns ≡ names) h.2 tells)
    go (Err e) _ h = absurd h

pub says_columns : (text : List ℕ) (old new : State) (names : List (List ℕ)) (has : Bool) (o : Outline) → Survives old new (λ _. ⊥)
    → (HasCleanDisk new → IsUnchanged old new) → (HasCleanDisk new → Outlines (understood old.now.schema text) o)
    → (IsTrue has ↔ o.columns ≡ names)
    → IsTransactionStep {E = Error} old new (Ok has)
    (λ has before after. IsTrue before.is_open × (after.now ≡ before.now) × IsResultColumnCheckOutcome text names has before.now.schema)
says_columns text old new names has o survives same shape tells = record {
  commits_nothing = λ clean. kept_unchanged old new (same clean);
  relates_states = λ clean on. let u = same clean in (subst IsTrue (sym u.0.mode) on, (u.0.was_open, u.0.now_is, headed text old.now.schema o names has (shape clean) tells));
  survives = survives;
}

-- an error tells nothing, whatever was asked
pub says_nothing : {V : Type 0} (text : List ℕ) (old new : State) (made : V → State → State → Type 0) (e : Error) (out : Result V Error) → IsErr out
    → Survives old new (λ _. ⊥) → (HasCleanDisk new → IsNotRun old new text [] e) → IsTransactionStep old new out made
says_nothing text old new made e out failed survives fails =
    record { commits_nothing = λ clean. not_run_kept text [] old new e (fails clean); relates_states = λ clean on. on_err out _ failed; survives = survives }
