-- A database that holds some rows of the tables of a schema is defined as a desk defines it, and
-- has the schema.
use Rattle.std.proofs.Common.{◌≡◌, ◌∙◌, ℕ, suc, zero, List, [], ◌∷◌, map, length, slice_get, true, false, not, Some, None, refl, sym, ap, subst, inl, inr}
use Rattle.std.specs.List.Sorted.{IsPermutation}
use Rattle.std.proofs.lemmas.List.Sorted.{length_permutation}
use Rattle.sqlite_value.specs.Order.{Row}
use Rattle.sqlite_rules.specs.Lists.{Has}
use Rattle.sqlite_rules.proofs.ListLemmas.{all_from, has_filtered}
use Rattle.sqlite_schema.specs.Names.{table_named}
use Rattle.sqlite_schema.specs.declared.schema.Table.{Table}
use Rattle.sqlite.specs.Effect.{Database}
use Rattle.brk_model.specs.Schemas.{Schema}
use Rattle.brk_model.specs.Tables.{Tables}
use Rattle.brk_tables_sql.proofs.Order.{has_permuted}
use Rattle.brk_tables_sql.specs.Desk.{HasNoWritingForeignKeysAt, IsTableAt}
use Rattle.brk_tables_sql.specs.Rows.{cells_in_column_order}
use Rattle.brk_tables_schema.specs.Cells.{optional_natural_as_value, natural_as_value}
use Rattle.brk_tables_schema.specs.Desk.{DeskTable, TheDesk, all_tables, schema_has_table, table_name, table_definition_has_tree, table_definition_at_tree, tables_in_schema}
use Rattle.brk_tables_schema.specs.Made.{HasDeskTablesInSchema, IsTableOfSchema}
use Rattle.brk_tables_schema.specs.Shapes.{desk_row_table}
use Rattle.brk_tables_schema.specs.Desk.{tables_of_later_schemas}
use Rattle.brk_tables_scan.specs.Schemas.{DatabaseHasSchema, HasTableWithNames, TablesWithSchemaNamesAreDeskTables, HasDistinctRowids, IsOneDeskRowOfSchema, table_and_column_names}
use Rattle.brk_tables_scan.proofs.Listed.{names_alike}

some_same : {X : Type 0} (x y : X) → Some x ≡ Some y → x ≡ y
some_same x y e = cc

-- ---- a list that is a permutation of one row

pub one_row : (x : Row) (rows : List Row) → IsPermutation (x ∷ []) rows → rows ≡ x ∷ []
one_row x [] p = absurd (let e = length_permutation (x ∷ []) [] p in cc)
one_row x (y ∷ []) p = ap (λ z. z ∷ []) (only (has_permuted (x ∷ []) (y ∷ []) y p (inl refl)))
  where
    only : Has (x ∷ []) y → y ≡ x
    only (inl e) = e
    only (inr none) = absurd none
one_row x (y ∷ z ∷ rows) p = absurd (let e : suc (suc (length rows)) ≡ suc zero = length_permutation (x ∷ []) (y ∷ z ∷ rows) p in cc)

-- ---- where a table stands

module _ (desk : Schema) (t : Tables) (db : Database) (has : HasDeskTablesInSchema desk t db) where
  abbrev tree : DeskTable → ℕ
  tree = has.0

  is_table : (w : DeskTable) → IsTableOfSchema desk w → IsTableAt db.schema (table_definition_at_tree w (tree w)) (has.1.place w)
  is_table w of = has.1.is_table w of

  -- whatever is found by its name is the desk's
  found_table : (w : DeskTable) → IsTableOfSchema desk w → (at : ℕ) (table : Table) → table_named db.schema (table_name w) ≡ Some at
      → slice_get db.schema.tables at ≡ Some table → table ≡ table_definition_at_tree w (tree w)
  found_table w of at table named found =
      let e : at ≡ has.1.place w = some_same at (has.1.place w) (sym named ∙ ap (λ n. table_named db.schema n.name) (names_alike w 0 (tree w)) ∙ (is_table w of).named) in
      some_same table (table_definition_at_tree w (tree w)) (sym found ∙ ap (slice_get db.schema.tables) e ∙ (is_table w of).found)

  at_its_tree : (w : DeskTable) → IsTableOfSchema desk w → (at n : ℕ) → IsTableAt db.schema (table_definition_at_tree w n) at → n ≡ tree w
  at_its_tree w of at n s =
      let e : table_definition_at_tree w n ≡ table_definition_at_tree w (tree w) =
      found_table w of at (table_definition_at_tree w n) (ap (λ n. table_named db.schema n.name) (names_alike w 0 n) ∙ s.named) s.found in
      sym (table_definition_has_tree w n) ∙ ap (λ (table : Table). table.tree) e ∙ table_definition_has_tree w (tree w)

  there : (w : DeskTable) → IsTableOfSchema desk w → HasTableWithNames db.schema (table_and_column_names (table_definition_at_tree w 0))
  there w of = (
    has.1.place w,
    table_definition_at_tree w (tree w),
    record {
      named = ap (λ n. table_named db.schema n.name) (names_alike w 0 (tree w)) ∙ (is_table w of).named;
      found = (is_table w of).found;
      columns = ap (λ n. n.columns) (names_alike w (tree w) 0);
    },
  )

  -- ---- the row of DESK

  desk_row_shown : map (cells_in_column_order (desk_row_table (tree TheDesk))) (db.trees (tree TheDesk))
      ≡ (natural_as_value 1 ∷ natural_as_value desk.number ∷ optional_natural_as_value t.last ∷ []) ∷ []
  desk_row_shown = one_row (natural_as_value 1 ∷ natural_as_value desk.number ∷ optional_natural_as_value t.last ∷ [])
      (map (cells_in_column_order (desk_row_table (tree TheDesk))) (db.trees (tree TheDesk))) (has.1.rows TheDesk refl).shown

  the_row : (at n : ℕ) → IsTableAt db.schema (desk_row_table n) at → IsOneDeskRowOfSchema desk (map (cells_in_column_order (desk_row_table n)) (db.trees n))
  the_row at n s = (
    optional_natural_as_value t.last,
    subst
        (λ k. map (cells_in_column_order (desk_row_table k)) (db.trees k)
        ≡ (natural_as_value 1 ∷ natural_as_value desk.number ∷ optional_natural_as_value t.last ∷ []) ∷ []) (sym (at_its_tree TheDesk refl at n s))
        desk_row_shown,
  )

  not_not : (b : _) → not b ≡ true → b ≡ false
  not_not true h = absurd (let e = h in cc)
  not_not false h = refl

  pub desk_is_there : DatabaseHasSchema desk db
  desk_is_there = record {
    tables = all_from (λ w. HasTableWithNames db.schema (table_and_column_names (table_definition_at_tree w 0))) (tables_in_schema desk)
        (λ w listed. there w (has_filtered (schema_has_table desk) all_tables w listed).1);
    later = all_from (λ w. table_named db.schema (table_name w) ≡ None) (tables_of_later_schemas desk)
        (λ w listed. (has.2 w (not_not (schema_has_table desk w) (has_filtered (λ w. not (schema_has_table desk w)) all_tables w listed).1)).0);
    row = the_row;
  }

  pub desk_is_defined : TablesWithSchemaNamesAreDeskTables desk db
  desk_is_defined _ = record {
    sound = has.1.sound;
    shaped = λ w of at table named found.
        let e : table ≡ table_definition_at_tree w (tree w) = found_table w of at table named found in
        let n : tree w ≡ table.tree = sym (ap (λ (u : Table). u.tree) e ∙ table_definition_has_tree w (tree w)) in
        e ∙ ap (table_definition_at_tree w) n;
    apart = λ v w a b i j n p q. has.1.apart v w a b (sym (at_its_tree v a i n p) ∙ at_its_tree w b j n q);
    keys_write_nothing = λ w of at n s. subst (HasNoWritingForeignKeysAt db.schema) (sym (at_its_tree w of at n s)) (has.1.keys_write_nothing w of);
    keyed = λ w of at n s. let rows = has.1.rows w of in subst (λ k. HasDistinctRowids (db.trees k)) (sym (at_its_tree w of at n s)) (record { keyed = rows.keyed; apart = rows.apart });
  }
