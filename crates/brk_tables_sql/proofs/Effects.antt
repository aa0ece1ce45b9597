-- The effect of a statement on the trees, in a schema that may have other tables.
use Rattle.std.proofs.Common.{◌≡◌, ◌⊎◌, inl, inr, ℕ, ℤ, if◌then◌else◌, ◌==◌, ◌/◌, List, [], ◌∷◌, length, slice_get, Bool, true, false, ◌&&◌, Some, None, Option}
use Rattle.std.proofs.Common.{Ok, Err, Result, refl, sym, ap, subst, subst₂, ◌∙◌}
use Rattle.std.specs.List.{list_all, filter_map, flat_map}
use Rattle.std.specs.Prelude.{MatchBool}
use Rattle.sqlite_value.specs.Order.{Row}
use Rattle.sqlite_trees.specs.Tree.{Trees}
use Rattle.sqlite_sql.specs.Term.{Term}
use Rattle.sqlite_schema.specs.declared.schema.Schema.{Schema}
use Rattle.sqlite_schema.specs.declared.schema.Table.{Table}
use Rattle.sqlite_schema.specs.declared.schema.Reference.{Reference}
use Rattle.sqlite_schema.specs.declared.schema.Keys.{Keys}
use Rattle.sqlite_schema.specs.declared.schema.Keys.TheVariants.{Enforced}
use Rattle.sqlite_schema.specs.declared.program.Program.{Program}
use Rattle.sqlite_schema.specs.declared.command.Source.TheVariants.{Values}
use Rattle.sqlite_schema.specs.declared.command.Command.{Command}
use Rattle.sqlite_schema.specs.declared.command.Command.TheVariants.{Insert, Update, Delete}
use Rattle.sqlite_schema.specs.Rules.{ParentKey, parent_key}
use Rattle.sqlite_rules.specs.Action.{works, work_by, deed_for}
use Rattle.sqlite_rules.specs.Edit.{Edit, edit_of, taken_by, Applies}
use Rattle.sqlite_rules.specs.Calls.{ids_of}
use Rattle.sqlite_rules.specs.declared.action.Deed.{Deed}
use Rattle.sqlite_rules.specs.declared.error.Rowids.TheVariants.{Chosen, Given}
use Rattle.sqlite_syntax.specs.declared.statement.Parsed.{Parsed}
use Rattle.sqlite_resolve.specs.Compile.{compiled}
use Rattle.sqlite.specs.Effect.{Database, Answers, IsDatabase, value_rows}
use Rattle.sqlite.specs.Does.{Tally, OnRows, WritesRows, AtPlace}
use Rattle.sqlite.specs.Rows.{Task, Written, stamped, rowids_for, count_of}
use Rattle.sqlite.specs.State.{State, mode_of, Runs, Executes}
use Rattle.sqlite.proofs.Callers.{IsPlain, command_of, statement_of, runs_as, one_step}
use Rattle.sqlite.specs.Listing.{understood}
use Rattle.brk_tables_sql.proofs.Meant.{meant, known, when_understood}
use Rattle.sqlite.specs.State.{ExecutesIn}
use Rattle.sqlite_resolve.specs.declared.error.CompileError.TheVariants.{Mismatch}

-- ---- no foreign key acts

pub split : (a b : Bool) → (a && b) ≡ true → (a ≡ true) × (b ≡ true)
split true b e = (refl, e)
split false b e = absurd (cc)

and_false : (b : Bool) → (b && false) ≡ false
and_false true = refl
and_false false = refl

pub none_of : {X Y : Type 0} (h : X → Option Y) (p : X → Bool) → ((x : X) → p x ≡ true → h x ≡ None) → (xs : List X) → list_all p xs ≡ true → filter_map h xs ≡ []
none_of h p none [] all = refl
none_of h p none (x ∷ xs) all = let both = split (p x) (list_all p xs) all in rw (none x both.0, none_of h p none xs both.1)

nothing_of : {X Y : Type 0} (h : X → List Y) (p : X → Bool) → ((x : X) → p x ≡ true → h x ≡ []) → (xs : List X) → list_all p xs ≡ true → flat_map h xs ≡ []
nothing_of h p none [] all = refl
nothing_of h p none (x ∷ xs) all = let both = split (p x) (list_all p xs) all in rw (none x both.0, nothing_of h p none xs both.1)

always : {X : Type 0} (xs : List X) → list_all (λ _. true) xs ≡ true
always [] = refl
always (x ∷ xs) = always xs

idle : (depth tree : ℕ) (child : Table) (ref : Reference) (deed : Option Deed) (key : Option ParentKey) → work_by depth tree [] child ref deed key ≡ None
idle depth tree child ref None key = refl
idle depth tree child ref (Some deed) None = refl
idle depth tree child ref (Some deed) (Some key) = rw (and_false (key.0 == tree))

-- a statement that takes no row out sets nothing off, whatever the references are
pub no_work_at_insert : (schema : Schema) (keys : Keys) (depth tree : ℕ) (news : List Row) → works schema keys depth tree [] news ≡ []
no_work_at_insert schema keys depth tree news =
    nothing_of _ (λ _. true)
    (λ child _. none_of _ (λ _. true) (λ ref _. idle depth tree child ref (deed_for keys (length news == 0) ref) (parent_key schema.tables ref))
    child.references (always child.references)) schema.tables (always schema.tables)

-- ---- a statement

-- a part that gave a value did not stop on the way
pub went : {B E R : Type 0} {b : B} {Stops : E → Type 0} → ((stop : E) × Stops stop × (Ok b ≡ Err stop)) ⊎ R → R
went (inl stopped) = absurd (let e = stopped.2 in cc)
went (inr on) = on

pub same_value : {B E : Type 0} {a b : B} → ◌≡◌ {A = Result B E} (Ok a) (Ok b) → a ≡ b
same_value e = cc

-- the schema stays, and these are the trees
abbrev pub Leaves : State → State → Trees → Type 0
Leaves old new trees = (new.now.schema ≡ old.now.schema) × (new.now.trees ≡ trees)

chosen_for : (table : Table) (top : ℤ) → table.is_counted ≡ false → rowids_for table top ≡ Chosen
chosen_for table top uncounted = rw uncounted

-- a table with no AUTOINCREMENT counts nothing
not_counted : (b c : Bool) (P Q : Type 0) → b ≡ false → MatchBool (if b then c else false) P Q → Q
not_counted true c P Q off h = absurd (cc)
not_counted false c P Q off h = h

-- an edit that sets nothing off is its one step
alone : (schema : Schema) (db next after : Trees) (edit : Edit) → works schema Enforced 0 edit.table.tree (taken_by db edit) edit.news ≡ [] → after ≡ next
    → Rattle.sqlite_rules.specs.Action.Writes schema Enforced db edit (Ok next)
    → Applies schema Enforced db edit after
alone schema db next after edit none same h = subst (Applies schema Enforced db edit) (sym same) (one_step schema Enforced db next edit none h)

module _ (sql : List ℕ) (params : Row) (old new : State) (p : Parsed) (at : ℕ) (table : Table) (found : slice_get old.now.schema.tables at ≡ Some table) where
  abbrev schema : Schema
  schema = old.now.schema

  abbrev task : Task
  task = record { limit = old.step_limit; keys = Enforced; schema = schema; table = table; params = params }

  OnTable : Command → Tally → Type 0
  OnTable command tally =
      AtPlace (λ t. OnRows (record { limit = old.step_limit; keys = Enforced; schema = schema; table = t; params = params }) (mode_of old) None command
      old.now.trees) (slice_get schema.tables at) (Ok (tally, new.now))

  -- what was written, and that nothing else was
  wrote : (command : Command) (tally : Tally) → OnTable command tally → (w : Written) × WritesRows task old.now.trees command (Ok w) × Leaves old new w.trees
  unfolding OnTable
  wrote command tally h =
      let done = went (rw found at h) in
      let tested = went done.2 in
      let shown = went tested.2 in
      let now = ap (λ (p : Tally × Database). p.1) (same_value shown.2) in
      (done.0, done.1, (ap (λ (d : Database). d.schema) now, ap (λ (d : Database). d.trees) now))

  ran : (command : Command) → compiled schema sql ≡ Ok (meant p [] command) → (count : ℕ) → Executes sql params old new (Ok count)
      → Runs old new None command (statement_of sql (understood schema sql)) params count
  ran command is count h =
      let sure = known schema sql (meant p [] command) is in
      runs_as sql params old new schema refl command (ap command_of sure.0) (subst IsPlain (sym sure.0) (refl, refl)) count h

  pub inserted : table.is_counted ≡ false → (terms : List Term) (width : ℕ) → compiled schema sql ≡ Ok (meant p [] (Insert at (Values terms width)))
      → (count : ℕ) → Executes sql params old new (Ok count)
      → (new.now.schema ≡ schema)
      × Applies schema Enforced old.now.trees
      (edit_of old.now.trees table [] Chosen 0 (value_rows (stamped table params) width (length terms / width) terms)) new.now.trees × IsDatabase new.now
  unfolding OnTable
  inserted uncounted terms width is count h =
      let w = ran (Insert at (Values terms width)) is count h in
      let it = wrote (Insert at (Values terms width)) w.tally w.changed in
      let sourced = went it.1 in
      let counter = went sourced.2 in
      let edit = went counter.2 in
      let counts = went edit.2 in
      let kept = not_counted table.is_counted _ _ _ uncounted counts.1 in
      let trees : new.now.trees ≡ edit.0 = it.2.1 ∙ ap (λ (x : Written). x.trees) (same_value counts.2) ∙ same_value kept in
      let step = alone schema old.now.trees edit.0 new.now.trees (edit_of old.now.trees table [] (rowids_for table (count_of counter.0)) 0 sourced.0)
      (no_work_at_insert schema Enforced 0 table.tree (edit_of old.now.trees table [] (rowids_for table (count_of counter.0)) 0 sourced.0).news) trees
      edit.1 in (
        it.2.0,
        subst₂ (λ r rows. Applies schema Enforced old.now.trees (edit_of old.now.trees table [] r 0 rows) new.now.trees)
            (chosen_for table (count_of counter.0) uncounted) sourced.1.1 step,
        w.sound,
      )

-- what a DELETE took, and all that it set off
pub took : (sql : List ℕ) (params : Row) (old new : State) (p : Parsed) (at : ℕ) (table : Table) (found : slice_get old.now.schema.tables at ≡ Some table) (q : Program)
    → (compiled old.now.schema sql ≡ Ok (meant p [] (Delete at q))) ⊎ (compiled old.now.schema sql ≡ Err Mismatch) → (count : ℕ) → Executes sql params old new (Ok count)
    → (new.now.schema ≡ old.now.schema) × ((rows : List Row) × Answers old.now q params rows
    × Rattle.sqlite_rules.specs.Action.Writes old.now.schema Enforced old.now.trees (edit_of old.now.trees table (ids_of rows) Given 0 []) (Ok new.now.trees)) × IsDatabase new.now
unfolding ExecutesIn OnTable
took sql params old new p at table found q either count h =
    let is = when_understood old.now.schema sql h.0 (meant p [] (Delete at q)) h.1.is either in
    let w = ran sql params old new p at table found (Delete at q) is count h in
    let it = wrote sql params old new p at table found (Delete at q) w.tally w.changed in
    let got = went it.1 in
    let edit = went got.2 in
    let trees : new.now.trees ≡ edit.0 = it.2.1 ∙ ap (λ (x : Written). x.trees) (same_value edit.2) in
    let e : Edit = edit_of old.now.trees table (ids_of got.0) Given 0 [] in
    (it.2.0, (got.0, got.1, subst (λ t. Rattle.sqlite_rules.specs.Action.Writes old.now.schema Enforced old.now.trees e (Ok t)) (sym trees) edit.1), w.sound)

-- what an UPDATE took out and put in, and all that it set off
pub altered : (sql : List ℕ) (params : Row) (old new : State) (p : Parsed) (at : ℕ) (table : Table) (found : slice_get old.now.schema.tables at ≡ Some table) (q : Program)
    → (compiled old.now.schema sql ≡ Ok (meant p [] (Update at q))) ⊎ (compiled old.now.schema sql ≡ Err Mismatch) → (count : ℕ) → Executes sql params old new (Ok count)
    → (new.now.schema ≡ old.now.schema) × ((rows : List Row) × Answers old.now q params rows
    × Rattle.sqlite_rules.specs.Action.Writes old.now.schema Enforced old.now.trees (edit_of old.now.trees table (ids_of rows) Given 1 rows) (Ok new.now.trees)) × IsDatabase new.now
unfolding ExecutesIn OnTable
altered sql params old new p at table found q either count h =
    let is = when_understood old.now.schema sql h.0 (meant p [] (Update at q)) h.1.is either in
    let w = ran sql params old new p at table found (Update at q) is count h in
    let it = wrote sql params old new p at table found (Update at q) w.tally w.changed in
    let got = went it.1 in
    let edit = went got.2 in
    let trees : new.now.trees ≡ edit.0 = it.2.1 ∙ ap (λ (x : Written). x.trees) (same_value edit.2) in
    let e : Edit = edit_of old.now.trees table (ids_of got.0) Given 1 got.0 in
    (it.2.0, (got.0, got.1, subst (λ t. Rattle.sqlite_rules.specs.Action.Writes old.now.schema Enforced old.now.trees e (Ok t)) (sym trees) edit.1), w.sound)
