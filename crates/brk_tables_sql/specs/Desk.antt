-- The tables of one program in a database that may contain other tables. A tree is the number under
-- which a database stores the rows of a table. A stored row has its rowid at place 0 and its
-- columns at the places from 1 on; an INTEGER PRIMARY KEY is the rowid, so it has place 0.
use Rattle.std.specs.Prelude.{◌≡◌, ◌≢◌, ◌==◌, ◌↔◌, ℕ, Bool, true, false, List, [], ◌∷◌, ◌++◌, Option, Some, Ok, Err, IsTrue, not, ◌||◌, slice_get}
use Rattle.std.specs.List.{list_all, AllByRecursion}
use Rattle.std.specs.declared.cmp.Ordering.{Ordering}
use Rattle.sqlite_value.specs.Order.{Row}
use Rattle.sqlite_value.specs.declared.value.Value.TheVariants.{Null}
use Rattle.sqlite_value.specs.declared.keys.Collation.TheVariants.{Binary}
use Rattle.sqlite_value.specs.Keys.{plain}
use Rattle.sqlite_schema.specs.declared.schema.Kind.{Kind}
use Rattle.sqlite_schema.specs.declared.schema.Kind.TheVariants.{Integer, Text}
use Rattle.sqlite_schema.specs.declared.schema.Column.{Column}
use Rattle.sqlite_schema.specs.declared.schema.Reference.{Reference}
use Rattle.sqlite_schema.specs.declared.schema.Action.{Action}
use Rattle.sqlite_schema.specs.declared.schema.Action.TheVariants.{NoAction, Restrict, Cascade, SetNull, SetDefault}
use Rattle.sqlite_schema.specs.declared.schema.Table.{Table}
use Rattle.sqlite_schema.specs.declared.schema.Schema.{Schema}
use Rattle.sqlite_schema.specs.Names.{table_named}
use Rattle.sqlite.specs.Effect.{Database, IsDatabase}
use Rattle.sqlite_resolve.specs.declared.compiled.Compiled.{Compiled}
use Rattle.sqlite_resolve.specs.declared.error.CompileError.TheVariants.{NoSuchTable}
use Rattle.sqlite.specs.Listing.{understood}
use Rattle.sqlite.specs.Steps.{column_names}
use Rattle.brk_tables_sql.specs.Rows.{TreeHoldsRecords}

-- ---- The definition of a table

-- A NOT NULL column of a STRICT table, without a default, and with the collation BINARY.
abbrev pub not_null_column : Kind → List ℕ → Column
not_null_column kind name = record { name = name; kind = kind; is_strict = true; not_null = true; default = Null; collation = Binary }

-- A TEXT column (`not_null_column`).
abbrev pub text_column : List ℕ → Column
text_column = not_null_column Text

-- An INTEGER column (`not_null_column`).
abbrev pub integer_column : List ℕ → Column
integer_column = not_null_column Integer

-- An INTEGER column that may be null.
abbrev pub nullable_integer_column : List ℕ → Column
nullable_integer_column name = record (integer_column name) { not_null = false }

-- The foreign key of the column at `place` to `column` of `parent`, with NO ACTION, not deferred.
abbrev pub foreign_key : ℕ → List ℕ → List ℕ → Reference
foreign_key place parent column =
    record { columns = place ∷ []; parent = parent; parent_columns = column ∷ []; on_delete = NoAction; on_update = NoAction; is_deferred = false }

-- A table with this name, tree, columns and foreign keys (`references`), without checks,
-- AUTOINCREMENT and defaults that are no literals. `key` is the position in `columns`, from 0, of
-- its INTEGER PRIMARY KEY column, or `None`; `primary` are the places of its PRIMARY KEY, `uniques`
-- those of each UNIQUE constraint, a PRIMARY KEY that is not the rowid included. Their SQL indexes
-- are ascending in all columns, with the collation BINARY.
abbrev pub table_without_checks : List ℕ → ℕ → List Column → Option ℕ → List ℕ → List (List ℕ) → List Reference → Table
table_without_checks name tree columns key primary uniques references = record {
  name = name;
  tree = tree;
  columns = columns;
  key = key;
  primary = primary;
  uniques = uniques;
  orders = Rattle.std.specs.Prelude.map (λ _. plain) uniques;
  checks = [];
  references = references;
  computed = [];
  stamps = record { places = []; terms = []; formats = [] };
  is_counted = false;
}

-- ---- The place of a table in a schema

-- `table` is at the index `at`, from 0, of the schema's list of tables, and no earlier table has
-- the same name, in any case of ASCII letters.
pub record IsTableAt (schema : Schema) (table : Table) (at : ℕ) : Type 0 where
  pub named : table_named schema table.name ≡ Some at
  pub found : slice_get schema.tables at ≡ Some table

-- True if the foreign-key action changes or deletes the referring rows, and does not only refuse.
abbrev pub action_writes_rows : Action → Bool
action_writes_rows NoAction = false
action_writes_rows Restrict = false
action_writes_rows Cascade = true
action_writes_rows SetNull = true
action_writes_rows SetDefault = true

-- True if the foreign key, on delete or on update, changes or deletes the rows that refer by it.
abbrev pub foreign_key_writes_rows : Reference → Bool
foreign_key_writes_rows ref = action_writes_rows ref.on_delete || action_writes_rows ref.on_update

-- True if the table `t` is not at `tree`, or none of its foreign keys changes or deletes rows.
abbrev pub has_no_writing_foreign_keys_if_at : ℕ → Table → Bool
has_no_writing_foreign_keys_if_at tree t = not (t.tree == tree) || list_all (λ ref. not (foreign_key_writes_rows ref)) t.references

-- No foreign key of a table at `tree` changes or deletes rows. Vacuous if there is no such table.
abbrev pub HasNoWritingForeignKeysAt : Schema → ℕ → Type 0
HasNoWritingForeignKeysAt schema tree = list_all (has_no_writing_foreign_keys_if_at tree) schema.tables ≡ true

-- True if none of the foreign keys of the table `t` changes or deletes rows.
abbrev pub has_no_writing_foreign_keys : Table → Bool
has_no_writing_foreign_keys t = list_all (λ ref. not (foreign_key_writes_rows ref)) t.references

-- `new` has a table with the definition `shape tree`, without rows, where `tree` is of no table of
-- `old`, and all tables of `old`, at the same indexes with the same rows; it satisfies `IsDatabase`
-- and may have other tables. No foreign key of a table that `old` lacks changes or deletes rows.
pub record CreatesTableOfShape (old new : Database) (shape : ℕ → Table) : Type 0 where
  pub tree : ℕ
  pub at : ℕ
  pub is_table : IsTableAt new.schema (shape tree) at
  pub empty : new.trees tree ≡ []
  pub keeps_positions : (table : Table) (place : ℕ) → IsTableAt old.schema table place → IsTableAt new.schema table place
  pub rows : AllByRecursion (λ t. new.trees t.tree ≡ old.trees t.tree) old.schema.tables
  -- The tree of the new table belonged to no table.
  pub apart : AllByRecursion (λ t. t.tree ≢ tree) old.schema.tables
  -- The added tables, whose foreign keys write no rows.
  pub more : List Table
  pub tables : new.schema.tables ≡ old.schema.tables ++ more
  pub added_keys_write_nothing : list_all has_no_writing_foreign_keys more ≡ true
  pub sound : IsDatabase new

-- `new` results from `old` by creating the tables with these definitions, in order
-- (`CreatesTableOfShape`). For an empty list `new` equals `old`.
abbrev pub CreatesEachTable : List (ℕ → Table) → Database → Database → Type 0
CreatesEachTable [] old new = new ≡ old
CreatesEachTable (shape ∷ shapes) old new = (mid : Database) × CreatesTableOfShape old mid shape × CreatesEachTable shapes mid new

-- ---- All tables of the program

-- The tables of a program: `W` names them, and a value of `T` has a list of records for each. For
-- each table: its definition at a given tree (`shape`), the proof that it has this tree (`placed`),
-- the type of its records (`Item`), the row of a record (`encode`), their order (`order`), and its
-- list in a value of `T` (`list`).
pub record ProgramTables (W T : Type 0) : Type 1 where
  pub shape : W → ℕ → Table
  pub placed : (w : W) (tree : ℕ) → (shape w tree).tree ≡ tree
  pub Item : W → Type 0
  pub encode : (w : W) → Item w → Row
  pub order : (w : W) → Item w → Item w → Ordering
  pub list : (w : W) → T → List (Item w)

-- The database contains all tables of the program `desk`, at the trees `tree`, which are distinct,
-- with the records of `t`. No foreign key of a table changes or deletes rows at these trees. The
-- database satisfies `IsDatabase` and may contain other tables.
pub record HasTables {W T : Type 0} (desk : ProgramTables W T) (t : T) (tree : W → ℕ) (db : Database) : Type 0 where
  pub place : W → ℕ
  pub is_table : (w : W) → IsTableAt db.schema (desk.shape w (tree w)) (place w)
  pub apart : (v w : W) → tree v ≡ tree w → v ≡ w
  pub keys_write_nothing : (w : W) → HasNoWritingForeignKeysAt db.schema (tree w)
  -- The rows list the schema and satisfy its constraints: a reopened database finds this schema.
  pub sound : IsDatabase db
  pub rows : (w : W) → TreeHoldsRecords (desk.shape w (tree w)) (desk.encode w) (desk.order w) (desk.list w t) (db.trees (tree w))

-- As `HasTables`, for those tables `w` of the program for which `In w` holds.
pub record HasSelectedTables {W T : Type 0} (desk : ProgramTables W T) (In : W → Type 0) (t : T) (tree : W → ℕ) (db : Database) : Type 0 where
  pub place : W → ℕ
  pub is_table : (w : W) → In w → IsTableAt db.schema (desk.shape w (tree w)) (place w)
  pub apart : (v w : W) → In v → In w → tree v ≡ tree w → v ≡ w
  pub keys_write_nothing : (w : W) → In w → HasNoWritingForeignKeysAt db.schema (tree w)
  pub sound : IsDatabase db
  pub rows : (w : W) → In w → TreeHoldsRecords (desk.shape w (tree w)) (desk.encode w) (desk.order w) (desk.list w t) (db.trees (tree w))

-- The schemas of `old` and `new` are equal. The rows of each table that is at none of the trees
-- `tree` are unchanged, unless a foreign key of that table changes or deletes rows.
pub record PreservesUnrelatedTables {W : Type 0} (tree : W → ℕ) (old new : Database) : Type 0 where
  pub schema : new.schema ≡ old.schema
  pub rows : AllByRecursion (λ k. ((w : W) → k.tree ≢ tree w) → HasNoWritingForeignKeysAt old.schema k.tree
      → new.trees k.tree ≡ old.trees k.tree) old.schema.tables

-- For all records `t` and trees `tree`: if `old` contains the tables with `t` there (`HasTables`),
-- `new` contains them with `f t`, the schema is unchanged, and so is each other table, unless a
-- foreign key of its own changes or deletes rows. Vacuous if `old` lacks one of these tables.
abbrev pub ChangesTablesBy : {W T : Type 0} → ProgramTables W T → (T → T) → Database → Database → Type 0
ChangesTablesBy {W} {T} desk f old new =
    (t : T) (tree : W → ℕ) → HasTables desk t tree old → HasTables desk (f t) tree new × PreservesUnrelatedTables tree old new

-- `P` holds for the records in the program's tables. Vacuous if the database lacks one of these.
abbrev pub TablesSatisfy : {W T : Type 0} → ProgramTables W T → (T → Type 0) → Database → Type 0
TablesSatisfy {W} {T} desk P db = (t : T) (tree : W → ℕ) → HasTables desk t tree db → P t

-- Each table of `old` is in `new`, with the same index and rows. `new` may have more tables.
pub record PreservesAllTables (old new : Database) : Type 0 where
  pub more : List Table
  pub tables : new.schema.tables ≡ old.schema.tables ++ more
  pub rows : AllByRecursion (λ t. new.trees t.tree ≡ old.trees t.tree) old.schema.tables

-- True: the statement `text` compiles in the schema. False: it does not, because a table that it
-- names does not exist. If it fails for another reason, neither is an outcome.
abbrev pub IsCompilationOutcome : List ℕ → Bool → Schema → Type 0
IsCompilationOutcome text true schema = (c : Compiled) × (understood schema text ≡ Ok c)
IsCompilationOutcome text false schema = understood schema text ≡ Err NoSuchTable

-- `text` compiles; `has` is true if and only if its columns are named exactly `names`, in order.
abbrev pub IsResultColumnCheckOutcome : List ℕ → List (List ℕ) → Bool → Schema → Type 0
IsResultColumnCheckOutcome text names has schema = (c : Compiled) × (understood schema text ≡ Ok c) × (IsTrue has ↔ column_names c ≡ names)
