-- A database with the tables of one schema satisfies the premise for every schema: the tables that
-- it lacks, it has by no name.
use Rattle.std.proofs.Common.{◌≡◌, ◌∙◌, ℕ, Bool, true, false, Some, None, refl, sym, ap}
use Rattle.sqlite_schema.specs.Names.{table_named}
use Rattle.sqlite.specs.Effect.{Database}
use Rattle.brk_model.specs.Schemas.{Schema}
use Rattle.brk_model.specs.Tables.{Tables}
use Rattle.brk_trade_rows.specs.Schemas.{abstract_schema}
use Rattle.brk_tables_sql.specs.Desk.{IsTableAt}
use Rattle.brk_tables_schema.specs.Desk.{DeskTable, schema_has_table, table_name, table_definition_at_tree}
use Rattle.brk_tables_schema.specs.Made.{HasDeskTablesInSchema, IsTableOfSchema}
use Rattle.brk_tables_scan.specs.Schemas.{TablesWithDeskNamesAreDeskTables, HasDeskDefinitions}
use Rattle.brk_tables_scan.proofs.Defined.{desk_is_defined, desk_is_there}
use Rattle.brk_tables_scan.proofs.Listed.{same_name_at}

module _ (a : Schema) (t : Tables) (db : Database) (has : HasDeskTablesInSchema a t db) where
  alike : HasDeskDefinitions a db
  alike = desk_is_defined a t db has (desk_is_there a t db has).tables

  -- a table that is found by its name is one of its schema
  is_of : (w : DeskTable) (at : ℕ) → table_named db.schema (table_name w) ≡ Some at → IsTableOfSchema a w
  is_of w at named = by_test (schema_has_table a w) refl
    where
      by_test : (b : Bool) → schema_has_table a w ≡ b → IsTableOfSchema a w
      by_test true e = e
      by_test false e = absurd (let clash : None ≡ Some at = sym (has.2 w e).0 ∙ named in cc)

  named_at : (w : DeskTable) (at n : ℕ) → IsTableAt db.schema (table_definition_at_tree w n) at → table_named db.schema (table_name w) ≡ Some at
  named_at w at n s = ap (table_named db.schema) (same_name_at w 0 n) ∙ s.named

  pub defined_over : (b : Schema) → HasDeskDefinitions b db
  defined_over b = record {
    sound = alike.sound;
    shaped = λ w of at table named found. alike.shaped w (is_of w at named) at table named found;
    apart = λ v w p q i j tree m n. alike.apart v w (is_of v i (named_at v i tree m)) (is_of w j (named_at w j tree n)) i j tree m n;
    keys_write_nothing = λ w of at tree s. alike.keys_write_nothing w (is_of w at (named_at w at tree s)) at tree s;
    keyed = λ w of at tree s. alike.keyed w (is_of w at (named_at w at tree s)) at tree s;
  }

  pub defined_whole : TablesWithDeskNamesAreDeskTables db
  defined_whole schema _ = defined_over (abstract_schema schema)
