-- A key occurs once in a table, by its rowid or by the index of its UNIQUE constraint.
use Rattle.std.proofs.Common.{◌≡◌, ℕ, List, Bool, true, false, not, ◌&&◌, Some, slice_get, refl, sym, ◌∙◌, inl, inr, eq-eqb}
use Rattle.std.specs.List.{AllByRecursion, list_any}
use Rattle.std.specs.Prelude.{slice_index_or}
use Rattle.std.proofs.lemmas.Bool.{cases_Bool}
use Rattle.sqlite_value.specs.Order.{Row}
use Rattle.sqlite_value.specs.Keys.{plain}
use Rattle.sqlite_trees.specs.Tree.{rowid}
use Rattle.sqlite_rules.specs.Lists.{Has}
use Rattle.sqlite_rules.proofs.ListLemmas.{all_has, test_has, some_from}
use Rattle.sqlite_schema.specs.declared.schema.Table.{Table}
use Rattle.sqlite_schema.specs.declared.schema.Index.{Index}
use Rattle.sqlite_schema.specs.declared.schema.Constraint.TheVariants.{Unique}
use Rattle.sqlite_schema.specs.Rules.{agree, clashes, guards, differ, passes}
use Rattle.sqlite_catalog.specs.Listing.{IsGuarded, automatic}
use Rattle.sqlite.specs.Effect.{Database, IsDatabase}
use Rattle.brk_tables_sql.proofs.Created.{all_at}

no_both : (a b : Bool) → not (a && b) ≡ true → a ≡ true → b ≡ false
no_both true true h e = absurd (let f = h in cc)
no_both true false h e = refl
no_both false b h e = absurd (let f = e in cc)

none_has : (p : Row → Bool) (rows : List Row) (r : Row) → list_any p rows ≡ false → Has rows r → p r ≡ false
none_has p rows r none there = elim (cases_Bool (p r)) [ inl e ↦ absurd (let f = sym none ∙ some_from p rows r there e in cc) | inr e ↦ e ]

guarded_by : (table : Table) (at : ℕ) (key : List ℕ) (tree : ℕ) → guards (automatic table at key tree) table ≡ true
guarded_by table at key tree = eq-eqb table.tree table.tree refl

-- two rows with two rowids differ in the columns of a UNIQUE
pub unique_rows : (db : Database) (at : ℕ) (table : Table) (key : List ℕ) → IsDatabase db → slice_get db.schema.tables at ≡ Some table → slice_get table.uniques 0 ≡ Some key
    → (r s : Row) → Has (db.trees table.tree) r → Has (db.trees table.tree) s → differ (rowid s) (rowid r) ≡ true → agree (slice_index_or table.orders 0 plain) key s key r ≡ false
unique_rows db at table key sound found keyed r s hr hs apart =
    let guard = all_at (IsGuarded db.schema.indexes) db.schema.tables at table found sound.lists.guarded 0 key keyed in
    let index : Index = automatic table 0 key guard.0 in
    let rows = all_at (λ t. AllByRecursion (λ row. passes Unique db.schema db.trees t row ≡ true) (db.trees t.tree)) db.schema.tables at table found (sound.obeys.rules Unique) in
    let mine = test_has (λ i. not (guards i table && clashes i.order i.columns (db.trees table.tree) r)) db.schema.indexes index (all_has _ (db.trees table.tree) r rows hr) guard.1 in
    let none = no_both (guards index table) (clashes index.order index.columns (db.trees table.tree) r) mine (guarded_by table 0 key guard.0) in
    let one = none_has (λ other. agree index.order index.columns other index.columns r && differ (rowid other) (rowid r)) (db.trees table.tree) s none hs in
    no_left _ _ one apart
  where
    no_left : (a b : Bool) → (a && b) ≡ false → b ≡ true → a ≡ false
    no_left true true h e = absurd (let f = h in cc)
    no_left true false h e = absurd (let f = e in cc)
    no_left false b h e = refl
