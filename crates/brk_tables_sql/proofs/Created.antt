-- CREATE TABLE over an arbitrary schema.
use Rattle.std.proofs.Common.{◌≡◌, ◌≢◌, ◌⊎◌, inl, inr, ℕ, zero, suc, ◌+◌, ◌==◌, List, [], ◌∷◌, ◌++◌, length, slice_get, cond, Bool, true, false, ◌||◌, is_some}
use Rattle.std.proofs.Common.{Some, None, Option, Ok, Err, refl, sym, ap, subst, ◌∙◌, arith}
use Rattle.std.specs.List.{position_from, AllByRecursion}
use Rattle.sqlite_trees.specs.Tree.{Trees}
use Rattle.sqlite_schema.specs.declared.schema.Schema.{Schema}
use Rattle.sqlite_schema.specs.declared.schema.Table.{Table}
use Rattle.sqlite_schema.specs.Names.{same_name, table_named, index_named, view_named}
use Rattle.sqlite_catalog.specs.Change.{created, next_tree, is_used, KeepsRows}
use Rattle.brk_tables_sql.specs.Desk.{IsTableAt, CreatesTableOfShape, has_no_writing_foreign_keys}
use Rattle.std.specs.List.{list_all}
use Rattle.std.proofs.Common.{append_assoc}
use Rattle.sqlite_tied.specs.Compute.{everything}
use Rattle.std.proofs.lemmas.Bool.{cases_Bool}
use Rattle.std.specs.Prelude.{slice_range}
use Rattle.sqlite.specs.Effect.{Database, IsDatabase}
use Rattle.sqlite.specs.Does.{Tally, lacks_sequence, sequence_text}
use Rattle.sqlite.specs.State.{State, Executes, ExecutesIn}
use Rattle.sqlite.proofs.Callers.{IsPlain, command_of, statement_of, runs_as}
use Rattle.sqlite_catalog.specs.Calls.{CreatesTable}
use Rattle.sqlite_rules.specs.Lists.{Has}
use Rattle.sqlite_catalog.proofs.StepLemmas.{table_below}
use Rattle.sqlite_resolve.specs.Compile.{table_defined_by}
use Rattle.brk_tables_sql.proofs.Effects.{same_value, went}
use Rattle.std.specs.Prelude.{not, ◌&&◌}
use Rattle.std.specs.Option.{option_or}
use Rattle.sqlite_ast.specs.declared.CreateTable.{CreateTable}
use Rattle.sqlite_ast.specs.declared.Statement.TheVariants as written
use Rattle.sqlite_syntax.specs.declared.statement.Parsed.{Parsed}
use Rattle.sqlite_schema.specs.declared.command.Command.TheVariants.{CreateTable as MakeTable}
use Rattle.sqlite_resolve.specs.declared.error.CompileError.{CompileError}
use Rattle.sqlite_resolve.specs.declared.error.CompileError.TheVariants.{Exists, Misuse, Unsupported}
use Rattle.sqlite_resolve.specs.declared.compiled.Compiled.{Compiled}
use Rattle.sqlite_resolve.specs.Define as define
use Rattle.sqlite_resolve.specs.Compile.{compiled, first, planned, timed, meaning, command, returning, create_table, creates, is_attached, is_reserved}
use Rattle.sqlite.specs.Listing.{understood, misses_table}
use Rattle.brk_tables_sql.proofs.Meant.{meant}

position_kept : {X : Type 0} (p : X → Bool) (xs ys : List X) (from at : ℕ) → position_from p from xs ≡ Some at → position_from p from (xs ++ ys) ≡ Some at
position_kept p [] ys from at h = absurd (cc)
position_kept p (x ∷ xs) ys from at h = go (p x) (position_kept p xs ys (from + 1) at) h
  where
    go : (b : Bool) → (position_from p (from + 1) xs ≡ Some at → position_from p (from + 1) (xs ++ ys) ≡ Some at)
        → cond b (Some from) (position_from p (from + 1) xs) ≡ Some at → cond b (Some from) (position_from p (from + 1) (xs ++ ys)) ≡ Some at
    go true more h = h
    go false more h = more h

position_new : {X : Type 0} (p : X → Bool) (xs : List X) (x : X) (from : ℕ) → position_from p from xs ≡ None → p x ≡ true → position_from p from (xs ++ x ∷ []) ≡ Some (from + length xs)
position_new p [] x from h holds = rw holds (let e : from + 0 ≡ from = omega arith in rw e)
position_new p (y ∷ xs) x from h holds = go (p y) (position_new p xs x (from + 1)) h
  where
    go : (b : Bool) → (position_from p (from + 1) xs ≡ None → p x ≡ true → position_from p (from + 1) (xs ++ x ∷ []) ≡ Some (from + 1 + length xs))
        → cond b (Some from) (position_from p (from + 1) xs) ≡ None → cond b (Some from) (position_from p (from + 1) (xs ++ x ∷ [])) ≡ Some (from + suc (length xs))
    go true more h = absurd (cc)
    go false more h = let e : from + suc (length xs) ≡ from + 1 + length xs = omega arith in rw e (more h holds)

got_before : {X : Type 0} (xs ys : List X) (at : ℕ) (x : X) → slice_get xs at ≡ Some x → slice_get (xs ++ ys) at ≡ Some x
got_before [] ys at x h = absurd (cc)
got_before (y ∷ xs) ys zero x h = h
got_before (y ∷ xs) ys (suc at) x h = got_before xs ys at x h

got_last : {X : Type 0} (xs : List X) (x : X) → slice_get (xs ++ x ∷ []) (length xs) ≡ Some x
got_last [] x = refl
got_last (y ∷ xs) x = got_last xs x

pub stays : (schema after : Schema) (more : List Table) → after.tables ≡ schema.tables ++ more → (table : Table) (at : ℕ) → IsTableAt schema table at → IsTableAt after table at
stays schema after more is table at h = record {
  named = rw is (position_kept (λ t. same_name t.name table.name) schema.tables more 0 at h.named);
  found = rw is (got_before schema.tables more at table h.found);
}

unused : (a : Option ℕ) (b c : Bool) → ((is_some a || b) || c) ≡ false → a ≡ None
unused None b c h = refl
unused (Some x) b c h = absurd (cc)

pub comes : (schema after : Schema) (table : Table) → same_name table.name table.name ≡ true → is_used schema table.name ≡ false
    → after.tables ≡ schema.tables ++ table ∷ [] → IsTableAt after table (length schema.tables)
comes schema after table same free is = record {
  named = rw is (position_new (λ t. same_name t.name table.name) schema.tables table 0
      (unused (table_named schema table.name) (is_some (index_named schema table.name)) (is_some (view_named schema table.name)) free) same
      ∙ ap Some (omega arith));
  found = rw is (got_last schema.tables table);
}

-- ---- the statement

-- a text that makes a table, over any schema: it is understood as that, or refused
pub creates_or : (schema : Schema) (text : List ℕ) (p : Parsed) (def : CreateTable) (table : Table) → first text ≡ Ok p → p.statement ≡ written.CreateTable def → p.formats ≡ []
    → define.table [] def ≡ Ok table → (length table.computed == length table.stamps.places && not def.resolves) ≡ true → def.if_missing ≡ false
    → (compiled schema text ≡ Ok (meant p [] MakeTable)) ⊎ ((e : CompileError) × (compiled schema text ≡ Err e) × (misses_table (Err e) ≡ false))
unfolding compiled planned timed meaning returning command create_table creates
creates_or schema text p def table is statement untimed defined fits fresh =
    go (is_attached schema def.name) refl (is_reserved def.name) refl (index_named schema def.name) refl (option_or (table_named schema def.name) (view_named schema def.name)) refl
  where
    go : (a : Bool) → is_attached schema def.name ≡ a → (r : Bool) → is_reserved def.name ≡ r → (i : Option ℕ) → index_named schema def.name ≡ i
        → (t : Option ℕ) → option_or (table_named schema def.name) (view_named schema def.name) ≡ t
        → (compiled schema text ≡ Ok (meant p [] MakeTable)) ⊎ ((e : CompileError) × (compiled schema text ≡ Err e) × (misses_table (Err e) ≡ false))
    go true a r rs i is' t ts = inr (Unsupported, rw (is, statement, untimed, a), refl)
    go false a true rs i is' t ts = inr (Misuse, rw (is, statement, untimed, a, rs), refl)
    go false a false rs (Some i) is' t ts = inr (Exists, rw (is, statement, untimed, a, rs, is'), refl)
    go false a false rs None is' (Some t) ts = inr (Exists, rw (is, statement, untimed, a, rs, is', ts, fresh), refl)
    go false a false rs None is' None ts = inl (rw (is, statement, untimed, a, rs, is', ts, defined, fits))

pub when_made : (schema : Schema) (text : List ℕ) (c more : Compiled) → understood schema text ≡ Ok c
    → (compiled schema text ≡ Ok more) ⊎ ((e : CompileError) × (compiled schema text ≡ Err e) × (misses_table (Err e) ≡ false)) → compiled schema text ≡ Ok more
unfolding understood
when_made schema text c more is (inl ok) = ok
when_made schema text c more is (inr off) = absurd (let e = rw (off.1, off.2) at is in cc)

all_from : {X : Type 0} (P : X → Type 0) (xs : List X) → ((x : X) → Has xs x → P x) → AllByRecursion P xs
all_from P [] f = tt
all_from P (x ∷ xs) f = (f x (inl refl), all_from P xs (λ y h. f y (inr h)))

-- ---- one table

-- what `CreatesTableOfShape` says, but that the trees obey the schema
record Comes (old new : Database) (shape : ℕ → Table) : Type 0 where
  tree : ℕ
  at : ℕ
  is_table : IsTableAt new.schema (shape tree) at
  empty : new.trees tree ≡ []
  kept : (table : Table) (place : ℕ) → IsTableAt old.schema table place → IsTableAt new.schema table place
  rows : AllByRecursion (λ t. new.trees t.tree ≡ old.trees t.tree) old.schema.tables
  apart : AllByRecursion (λ t. t.tree ≢ tree) old.schema.tables
  more : List Table
  tables : new.schema.tables ≡ old.schema.tables ++ more
  added_keys_write_nothing : list_all has_no_writing_foreign_keys more ≡ true

obeyed : (old new : Database) (shape : ℕ → Table) → Comes old new shape → IsDatabase new → CreatesTableOfShape old new shape
obeyed old new shape h sound = record {
  tree = h.tree;
  at = h.at;
  is_table = h.is_table;
  empty = h.empty;
  keeps_positions = h.kept;
  rows = h.rows;
  apart = h.apart;
  more = h.more;
  tables = h.tables;
  added_keys_write_nothing = h.added_keys_write_nothing;
  sound = sound;
}

-- the text defines this table, at tree 0, and makes it at the next one
module _ (text : List ℕ) (shape : ℕ → Table) (defined : table_defined_by text ≡ Ok (shape 0))
    (moved : (tree : ℕ) → record (shape 0) { tree = tree } ≡ shape tree) (own : same_name (shape 0).name (shape 0).name ≡ true)
    (still : has_no_writing_foreign_keys (shape 0) ≡ true) where
  makes_one : (schema after : Schema) (db trees : Trees) → CreatesTable schema text db after trees → Comes (record { schema = schema; trees = db }) (record { schema = after; trees = trees }) shape
  makes_one schema after db trees made =
      let same : made.table ≡ shape 0 = same_value (sym made.defined ∙ defined) in
      let is : after ≡ created schema (shape 0) = made.is ∙ ap (created schema) same in
      let table : Table = record (shape 0) { tree = next_tree schema } in
      let tables : after.tables ≡ schema.tables ++ table ∷ [] = ap (λ (s : Schema). s.tables) is in
      record {
        tree = next_tree schema;
        at = length schema.tables;
        is_table = subst (λ t. IsTableAt after t (length schema.tables)) (moved (next_tree schema))
            (comes schema after table own (subst (λ (t : Table). is_used schema t.name ≡ false) same made.free) tables);
        empty = made.empty;
        kept = λ other place h. stays schema after (table ∷ []) tables other place h;
        rows = made.others;
        apart = all_from (λ t. t.tree ≢ next_tree schema) schema.tables (λ t has same. omega (arith, table_below schema t has, same));
        more = table ∷ [];
        tables = tables;
        added_keys_write_nothing = rw still;
      }

all_left : {X : Type 0} (P : X → Type 0) (xs ys : List X) → AllByRecursion P (xs ++ ys) → AllByRecursion P xs
all_left P [] ys all = tt
all_left P (x ∷ xs) ys all = (all.0, all_left P xs ys all.1)

pub all_at : {X : Type 0} (P : X → Type 0) (xs : List X) (at : ℕ) (x : X) → slice_get xs at ≡ Some x → AllByRecursion P xs → P x
all_at P [] at x h all = absurd (cc)
all_at P (y ∷ xs) zero x h all = let e : y ≡ x = cc in subst P e all.0
all_at P (y ∷ xs) (suc at) x h all = all_at P xs at x h all.1

kept_twice : (a b c : Trees) (tables : List Table) → KeepsRows tables a b → KeepsRows tables b c → KeepsRows tables a c
kept_twice a b c [] p q = tt
kept_twice a b c (t ∷ tables) p q = (q.0 ∙ p.0, kept_twice a b c tables p.1 q.1)

joined : {X : Type 0} (p : X → Bool) (xs : List X) (x : X) → list_all p xs ≡ true → p x ≡ true → list_all p (xs ++ x ∷ []) ≡ true
joined p [] x all one = rw one
joined p (y ∷ xs) x all one = let both = Rattle.brk_tables_sql.proofs.Effects.split (p y) (list_all p xs) all in rw (both.0, joined p xs x both.1 one)

sequence_idle : (t : Table) → table_defined_by sequence_text ≡ Ok t → has_no_writing_foreign_keys t ≡ true
unfolding everything
sequence_idle t h = let e : _ ≡ t = same_value h in subst (λ k. has_no_writing_foreign_keys k ≡ true) e refl

-- a second table leaves the first
makes_more : (text : List ℕ) (shape : ℕ → Table) (placed : (tree : ℕ) → (shape tree).tree ≡ tree) (old mid new : Database) → Comes old mid shape
    → (table : Table) → mid.schema.tables ≡ old.schema.tables ++ table ∷ []
    → ((t : Table) → table_defined_by text ≡ Ok t → has_no_writing_foreign_keys t ≡ true) → CreatesTable mid.schema text mid.trees new.schema new.trees → Comes old new shape
makes_more text shape placed old mid new one table tables idle made =
    let more : new.schema.tables ≡ mid.schema.tables ++ (record made.table { tree = next_tree mid.schema }) ∷ [] = ap (λ (s : Schema). s.tables) made.is in
    record {
      tree = one.tree;
      at = one.at;
      is_table = stays mid.schema new.schema _ more (shape one.tree) one.at one.is_table;
      empty = subst (λ n. new.trees n ≡ mid.trees n) (placed one.tree)
          (all_at (λ t. new.trees t.tree ≡ mid.trees t.tree) mid.schema.tables one.at (shape one.tree) one.is_table.found made.others) ∙ one.empty;
      kept = λ other place h. stays mid.schema new.schema _ more other place (one.kept other place h);
      rows = kept_twice old.trees mid.trees new.trees old.schema.tables one.rows
          (all_left (λ t. new.trees t.tree ≡ mid.trees t.tree) old.schema.tables (table ∷ []) (subst (λ all. KeepsRows all mid.trees new.trees) tables made.others));
      apart = one.apart;
      more = one.more ++ (record made.table { tree = next_tree mid.schema }) ∷ [];
      tables = more ∙ ap (λ (l : List Table). l ++ (record made.table { tree = next_tree mid.schema }) ∷ []) one.tables ∙ append_assoc old.schema.tables one.more _;
      added_keys_write_nothing = joined has_no_writing_foreign_keys one.more _ one.added_keys_write_nothing (idle made.table made.defined);
    }

module _ (text : List ℕ) (shape : ℕ → Table) (defined : table_defined_by text ≡ Ok (shape 0))
    (moved : (tree : ℕ) → record (shape 0) { tree = tree } ≡ shape tree) (placed : (tree : ℕ) → (shape tree).tree ≡ tree)
    (own : same_name (shape 0).name (shape 0).name ≡ true) (p : Parsed) (def : CreateTable) (is : first text ≡ Ok p)
    (statement : p.statement ≡ written.CreateTable def) (untimed : p.formats ≡ []) (whole : slice_range text p.start p.end ≡ text)
    (table : define.table [] def ≡ Ok (shape 0)) (still : has_no_writing_foreign_keys (shape 0) ≡ true)
    (fits : (length (shape 0).computed == length (shape 0).stamps.places && not def.resolves) ≡ true) (fresh : def.if_missing ≡ false) where
  pub makes : (old new : State) (count : ℕ) → Executes text [] old new (Ok count) → CreatesTableOfShape old.now new.now shape
  unfolding ExecutesIn
  makes old new count h =
      let known = sym h.1.is in
      let sure = when_made old.now.schema text h.0 (meant p [] MakeTable) h.1.is (creates_or old.now.schema text p def (shape 0) is statement untimed table fits fresh) in
      let got = (Rattle.brk_tables_sql.proofs.Meant.known old.now.schema text (meant p [] MakeTable) sure).0 in
      let w = runs_as text [] old new old.now.schema refl MakeTable (ap command_of got) (subst IsPlain (sym got) (refl, refl)) count h in
      let told : statement_of text (understood old.now.schema text) ≡ text = ap (statement_of text) got ∙ whole in
      let all = went w.changed in
      let first = went all.1 in
      let made = subst (λ t. CreatesTable old.now.schema t old.now.trees first.0.schema first.0.trees) told first.1 in
      let one = makes_one text shape defined moved own still old.now.schema first.0.schema old.now.trees first.0.trees made in
      let now : new.now ≡ all.0 = ap (λ (q : Tally × Database). q.1) (same_value all.2) in
      let after : Comes old.now all.0 shape = elim (cases_Bool (lacks_sequence first.0.schema)) [
        | inl lacks ↦ makes_more sequence_text shape placed old.now first.0 all.0 one _ (ap (λ (s : Schema). s.tables) made.is) sequence_idle (rw lacks at first.2)
        | inr plain ↦ subst (λ d. Comes old.now d shape) (sym (same_value (rw plain at first.2))) one
      ] in
      obeyed old.now new.now shape (subst (λ d. Comes old.now d shape) (sym now) after) w.sound
