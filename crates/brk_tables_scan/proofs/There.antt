-- The names and columns of the tables, and the row of DESK, decide if a database that is defined as
-- a desk defines it has a schema.
use Rattle.std.proofs.Common.{◌≡◌, ◌∙◌, ◌↔◌, true, false, Bool, List, [], ◌∷◌, map, Some, refl, sym, ap, subst, inl, inr}
use Rattle.std.specs.Prelude.{IsTrue}
use Rattle.std.specs.List.Sorted.{IsPermutation}
use Rattle.std.proofs.lemmas.Bool.{cases_Bool}
use Rattle.std.proofs.lemmas.List.Sorted.{IsPermutation-sym}
use Rattle.sqlite_value.specs.Order.{Row}
use Rattle.sqlite_schema.specs.Names.{table_named}
use Rattle.sqlite.specs.Effect.{Database}
use Rattle.brk_model.specs.Schemas.{Schema}
use Rattle.brk_tables_sql.specs.Desk.{IsTableAt}
use Rattle.brk_tables_sql.specs.Rows.{cells_in_column_order}
use Rattle.brk_tables_schema.specs.Cells.{natural_as_value}
use Rattle.brk_tables_schema.specs.Desk.{TheDesk, table_definition_at_tree}
use Rattle.brk_tables_schema.specs.Shapes.{desk_row_table}
use Rattle.brk_tables_scan.specs.Schemas.{DatabaseHasSchema, HasTablesOfSchema, TablesWithSchemaNamesAreDeskTables, LacksTablesOfLaterSchemas, IsOneDeskRowOfSchema}
use Rattle.brk_tables_scan.specs.Whole.{ShowsAllRows}
use Rattle.brk_tables_scan.proofs.Defined.{one_row}
use Rattle.brk_tables_scan.proofs.Listed.{same_name_at}

module _ (desk : Schema) (db : Database) where
  -- where they are not all there, the desk is not
  pub desk_is_not : (has b : Bool) → (IsTrue has ↔ HasTablesOfSchema desk db.schema × LacksTablesOfLaterSchemas desk db.schema) → has ≡ false → b ≡ false → IsTrue b ↔ DatabaseHasSchema desk db
  desk_is_not has b told e other = ((λ sure. absurd (let f = sym other ∙ sure in cc)), (λ (there : DatabaseHasSchema desk db). absurd (let f = sym e ∙ told.1 (there.tables, there.later) in cc)))

  -- where they are, DESK tells by its row
  pub row_tells : TablesWithSchemaNamesAreDeskTables desk db → HasTablesOfSchema desk db.schema × LacksTablesOfLaterSchemas desk db.schema
      → (b : Bool) (rows : List Row) → ShowsAllRows TheDesk rows db → (b ≡ true → IsOneDeskRowOfSchema desk rows)
      → (b ≡ false → IsOneDeskRowOfSchema desk rows → ⊥) → IsTrue b ↔ DatabaseHasSchema desk db
  row_tells defined tables b rows shown first other = (there, back)
    where
      there : IsTrue b → DatabaseHasSchema desk db
      there e = record {
        tables = tables.0;
        later = tables.1;
        row = λ at tree s.
            let says = first e in
            let x : Row = natural_as_value 1 ∷ natural_as_value desk.number ∷ says.0 ∷ [] in
            let all : IsPermutation (map (cells_in_column_order (desk_row_table tree)) (db.trees tree)) (x ∷ []) =
            subst (IsPermutation (map (cells_in_column_order (desk_row_table tree)) (db.trees tree))) says.1 (shown at tree s).all in (
              says.0,
              one_row x (map (cells_in_column_order (desk_row_table tree)) (db.trees tree))
                  (IsPermutation-sym (map (cells_in_column_order (desk_row_table tree)) (db.trees tree)) (x ∷ []) all),
            );
      }

      says_so : DatabaseHasSchema desk db → IsOneDeskRowOfSchema desk rows
      says_so has =
          let t = has.tables.0 in
          let same : t.1 ≡ table_definition_at_tree TheDesk t.1.tree = (defined has.tables).shaped TheDesk refl t.0 t.1 t.2.named t.2.found in
          let s : IsTableAt db.schema (table_definition_at_tree TheDesk t.1.tree) t.0 =
          record {
            named = subst (λ name. table_named db.schema name ≡ Some t.0) (same_name_at TheDesk 0 t.1.tree) t.2.named;
            found =
                t.2.found ∙ ap Some same;
          } in
          let r = has.row t.0 t.1.tree s in
          let x : Row = natural_as_value 1 ∷ natural_as_value desk.number ∷ r.0 ∷ [] in
          (r.0, one_row x rows (subst (λ l. IsPermutation l rows) r.1 (shown t.0 t.1.tree s).all))

      back : DatabaseHasSchema desk db → IsTrue b
      back has = elim (cases_Bool b) [ inl e ↦ e | inr e ↦ absurd (other e (says_so has)) ]
