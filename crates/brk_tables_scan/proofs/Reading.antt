-- The tables of a schema in a database, with the rows that were read.
use Rattle.std.proofs.Common.{◌≡◌, ℕ, Bool, true, false, not, List, [], ◌∷◌, map, Some, None, refl, sym, ap, subst, ◌∙◌, inl, inr, arith}
use Rattle.std.specs.Prelude.{◌&&◌, ◌≤◌}
use Rattle.std.proofs.lemmas.Bool.{cases_Bool, and_parts}
use Rattle.sqlite_rules.proofs.ListLemmas.{all_has, has_kept}
use Rattle.sqlite_value.specs.Order.{Row}
use Rattle.sqlite_schema.specs.Names.{table_named}
use Rattle.sqlite.specs.Effect.{Database}
use Rattle.brk_model.specs.Schemas.{Schema, third_schema}
use Rattle.brk_model.specs.Tables.{Tables}
use Rattle.brk_model.specs.Form.{satisfies_form_condition, has_utf8_texts}
use Rattle.brk_tables_sql.specs.Desk.{IsTableAt}
use Rattle.brk_trade_rows.specs.declared.schema.Schema as known
use Rattle.brk_trade_rows.specs.declared.schema.Schema.TheVariants.{First, Second, Third}
use Rattle.brk_trade_rows.specs.Schemas.{abstract_schema}
use Rattle.brk_tables_schema.specs.Desk.{DeskTable, all_tables, encoded_row, schema_has_table, rows_of_table_in_schema, table_definition_at_tree, tables_in_schema, table_name}
use Rattle.brk_tables_schema.specs.Made.{HasDeskTablesInSchema, IsTableOfSchema}
use Rattle.brk_tables_schema.proofs.Which.{all_listed}
use Rattle.brk_tables_schema.specs.Desk.{tables_of_later_schemas}
use Rattle.brk_tables_scan.specs.Schemas.{DatabaseHasSchema, HasTableWithNames, TablesWithSchemaNamesAreDeskTables, HasDeskDefinitions, table_and_column_names}
use Rattle.brk_tables_scan.specs.Whole.{ShowsRowsIfInSchema}
use Rattle.brk_tables_scan.specs.Raw.{raw_rows_of_table}
use Rattle.brk_tables_scan.specs.declared.all_tables.RawSheets.{RawSheets}
use Rattle.brk_tables_scan.specs.Decoded.{are_raw_sheets_well_formed}
use Rattle.brk_tables_scan.proofs.FormedTables.{tables_formed}
use Rattle.brk_tables_scan.proofs.Listed.{same_name_at}

-- only no records have no rows
pub unshown : {X : Type 0} (f : X → Row) (xs : List X) → map f xs ≡ [] → xs ≡ []
unshown f [] e = refl
unshown f (x ∷ xs) e = absurd (let g = e in cc)

module _ (desk : Schema) (db : Database) (has : DatabaseHasSchema desk db) (defined : TablesWithSchemaNamesAreDeskTables desk db) where
  pub table_of : (w : DeskTable) → IsTableOfSchema desk w → HasTableWithNames db.schema (table_and_column_names (table_definition_at_tree w 0))
  table_of w of = all_has (λ w. HasTableWithNames db.schema (table_and_column_names (table_definition_at_tree w 0))) (tables_in_schema desk) w has.tables
      (has_kept (schema_has_table desk) all_tables w (all_listed w) of)

  alike : HasDeskDefinitions desk db
  alike = defined has.tables

  -- where a table stands, if the schema has it
  abbrev tree_if : (w : DeskTable) (b : Bool) → schema_has_table desk w ≡ b → ℕ
  tree_if w true of = (table_of w of).1.tree
  tree_if w false lacks = 0

  abbrev place_if : (w : DeskTable) (b : Bool) → schema_has_table desk w ≡ b → ℕ
  place_if w true of = (table_of w of).0
  place_if w false lacks = 0

  abbrev pub tree : DeskTable → ℕ
  tree w = tree_if w (schema_has_table desk w) refl

  abbrev pub place : DeskTable → ℕ
  place w = place_if w (schema_has_table desk w) refl

  stood : (w : DeskTable) (b : Bool) (e : schema_has_table desk w ≡ b) → b ≡ true → IsTableAt db.schema (table_definition_at_tree w (tree_if w b e)) (place_if w b e)
  stood w true of sure =
      let t = table_of w of in
      record {
        named = subst (λ name. table_named db.schema name ≡ Some t.0) (same_name_at w 0 t.1.tree) t.2.named;
        found = t.2.found ∙ ap Some (alike.shaped w of t.0 t.1 t.2.named t.2.found);
      }
  stood w false lacks sure = absurd (let f = sure in cc)

  pub is_table : (w : DeskTable) → IsTableOfSchema desk w → IsTableAt db.schema (table_definition_at_tree w (tree w)) (place w)
  is_table w of = stood w (schema_has_table desk w) refl of

  -- what was read is what the tables hold
  pub rows_read : (kept : List Row) (raw : RawSheets) → ((w : DeskTable) → ShowsRowsIfInSchema desk w (raw_rows_of_table kept raw w) db) → (t : Tables)
      → ((w : DeskTable) → map (encoded_row w) (rows_of_table_in_schema desk w t) ≡ raw_rows_of_table kept raw w) → HasDeskTablesInSchema desk t db
  rows_read kept raw shown t are = (
    tree,
    record {
      place = place;
      is_table = is_table;
      apart = λ v w a b same. alike.apart v w a b (place v) (place w) (tree v) (is_table v a) (subst (λ n. IsTableAt db.schema (table_definition_at_tree w n) (place w)) (sym same) (is_table w b));
      keys_write_nothing = λ w of. alike.keys_write_nothing w of (place w) (tree w) (is_table w of);
      sound = alike.sound;
      rows = λ w of. ((shown w).0 of (place w) (tree w) (is_table w of)).table_holds_records (rows_of_table_in_schema desk w t) alike.sound
          (alike.keyed w of (place w) (tree w) (is_table w of)) (are w);
    },
    λ w lacks. (
      all_has (λ w. table_named db.schema (table_name w) ≡ None) (tables_of_later_schemas desk) w has.later (has_kept (λ w. not (schema_has_table desk w)) all_tables w (all_listed w) (ap not lacks)),
      unshown (encoded_row w) (rows_of_table_in_schema desk w t) (are w ∙ (shown w).1 lacks),
    ),
  )

-- the rows of tables are those that are shown, also where the schema lacks the table
rows_shown : (desk : Schema) (db : Database) (kept : List Row) (raw : RawSheets) → ((w : DeskTable) → ShowsRowsIfInSchema desk w (raw_rows_of_table kept raw w) db) → (t : Tables)
    → HasDeskTablesInSchema desk t db → (w : DeskTable) → raw_rows_of_table kept raw w ≡ map (encoded_row w) (rows_of_table_in_schema desk w t)
rows_shown desk db kept raw shown t h w = by_test (schema_has_table desk w) refl
  where
    by_test : (b : Bool) → schema_has_table desk w ≡ b → raw_rows_of_table kept raw w ≡ map (encoded_row w) (rows_of_table_in_schema desk w t)
    by_test true of = ((shown w).0 of (h.1.place w) (h.0 w) (h.1.is_table w of)).rows_encode_records (rows_of_table_in_schema desk w t) (h.1.rows w of)
    by_test false lacks = (shown w).1 lacks ∙ sym (ap (map (encoded_row w)) (h.2 w lacks).1)

-- no tables in form have rows of which one has no form
pub none_in_form : (desk : Schema) → desk.greatest_qty ≤ third_schema.greatest_qty → (db : Database) (kept : List Row) (raw : RawSheets)
    → ((w : DeskTable) → ShowsRowsIfInSchema desk w (raw_rows_of_table kept raw w) db) → are_raw_sheets_well_formed desk kept raw ≡ false → (t : Tables)
    → HasDeskTablesInSchema desk t db → satisfies_form_condition desk t && has_utf8_texts t ≡ false
none_in_form desk narrow db kept raw shown unformed t h = elim (cases_Bool (satisfies_form_condition desk t && has_utf8_texts t)) [
  | inl e ↦
      let p = and_parts (satisfies_form_condition desk t) (has_utf8_texts t) e in
      let sure = tables_formed desk narrow t kept raw (rows_shown desk db kept raw shown t h) p.0 p.1 in
      absurd (let clash = sym sure ∙ unformed in cc)
  | inr e ↦ e
]

-- each schema has narrower limits than the third, or the same
pub narrower : (schema : known.Schema) → (abstract_schema schema).greatest_qty ≤ third_schema.greatest_qty
narrower First = omega arith
narrower Second = omega arith
narrower Third = omega arith
