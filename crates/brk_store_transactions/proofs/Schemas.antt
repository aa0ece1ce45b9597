-- The rows of a desk of schema 3, and the one schema of a desk.
use Rattle.std.proofs.Common.{◌≡◌, ◌∙◌, true, false, List, Some, refl, sym, ap}
use Rattle.sqlite_value.specs.Order.{Row}
use Rattle.sqlite.specs.Effect.{Database}
use Rattle.brk_model.specs.Schemas.{Schema, third_schema}
use Rattle.brk_model.specs.Tables.{Tables}
use Rattle.brk_trade_rows.specs.declared.schema.Schema as known
use Rattle.brk_trade_rows.specs.declared.schema.Schema.TheVariants.{First, Second, Third}
use Rattle.brk_trade_rows.specs.Schemas.{abstract_schema}
use Rattle.brk_tables_sql.specs.Desk.{IsTableAt}
use Rattle.brk_tables_sql.proofs.Grown.{all_there, some_there}
use Rattle.brk_tables_schema.specs.Desk.{DeskTable, TheDesk, CashMoves, SettleRules, desk_tables_of_schema}
use Rattle.brk_tables_schema.specs.Shapes.{desk_row_table}
use Rattle.brk_tables_schema.specs.Made.{HasDeskTables, HasDeskTablesInSchema, IsTableOfSchema}
use Rattle.brk_tables_scan.specs.Schemas.{DatabaseHasSchema, TablesWithDeskNamesAreDeskTables, TablesWithSchemaNamesAreDeskTables, HasDeskDefinitions, IsOneDeskRowOfSchema}
use Rattle.brk_tables_scan.proofs.Defined.{desk_is_defined, desk_is_there}

-- in the third schema all tables are there
of_third : (w : DeskTable) → IsTableOfSchema third_schema w
of_third CashMoves = refl
of_third SettleRules = refl
of_third w = refl

pub third_rows : (t : Tables) (db : Database) → HasDeskTablesInSchema third_schema t db → HasDeskTables t db
third_rows t db has = (has.0, all_there (desk_tables_of_schema third_schema) t (IsTableOfSchema third_schema) has.0 db of_third has.1)

pub rows_third : (t : Tables) (db : Database) → HasDeskTables t db → HasDeskTablesInSchema third_schema t db
rows_third t db has = (
  has.0,
  some_there (desk_tables_of_schema third_schema) t (IsTableOfSchema third_schema) has.0 db has.1,
  λ w none. absurd (let e : true ≡ false = sym (of_third w) ∙ none in cc),
)

-- a database with the definitions of the third schema has those of any schema whose tables it has by
-- their names and columns
narrowed : (schema : Schema) (db : Database) → HasDeskDefinitions third_schema db → HasDeskDefinitions schema db
narrowed schema db m = record {
  sound = m.sound;
  shaped = λ w of. m.shaped w (of_third w);
  apart = λ v w a b. m.apart v w (of_third v) (of_third w);
  keys_write_nothing = λ w of. m.keys_write_nothing w (of_third w);
  keyed = λ w of. m.keyed w (of_third w);
}

pub rows_defined : (t : Tables) (db : Database) → HasDeskTables t db → TablesWithDeskNamesAreDeskTables db
rows_defined t db has schema tables =
    let third = rows_third t db has in
    narrowed (abstract_schema schema) db (desk_is_defined third_schema t db third (desk_is_there third_schema t db third).tables)

pub desk_of_rows : (t : Tables) (db : Database) → HasDeskTables t db → DatabaseHasSchema third_schema db
desk_of_rows t db has = desk_is_there third_schema t db (rows_third t db has)

-- ---- the number in DESK tells the schema

same_schema : (a b : known.Schema) → (abstract_schema a).number ≡ (abstract_schema b).number → a ≡ b
same_schema First First e = refl
same_schema First Second e = absurd (let f : 1 ≡ 2 = e in cc)
same_schema First Third e = absurd (let f : 1 ≡ 3 = e in cc)
same_schema Second First e = absurd (let f : 2 ≡ 1 = e in cc)
same_schema Second Second e = refl
same_schema Second Third e = absurd (let f : 2 ≡ 3 = e in cc)
same_schema Third First e = absurd (let f : 3 ≡ 1 = e in cc)
same_schema Third Second e = absurd (let f : 3 ≡ 2 = e in cc)
same_schema Third Third e = refl

said_alike : (a b : Schema) (rows : List Row) → IsOneDeskRowOfSchema a rows → IsOneDeskRowOfSchema b rows → a.number ≡ b.number
said_alike a b rows h k = let e = sym h.1 ∙ k.1 in cc

pub one_desk : (a b : known.Schema) (t : Tables) (db : Database) → DatabaseHasSchema (abstract_schema a) db → HasDeskTablesInSchema (abstract_schema b) t db → a ≡ b
one_desk a b t db there has =
    let is_table = has.1.is_table TheDesk refl in
    same_schema a b
    (said_alike (abstract_schema a) (abstract_schema b) _ (there.row (has.1.place TheDesk) (has.0 TheDesk) is_table)
    ((desk_is_there (abstract_schema b) t db has).row (has.1.place TheDesk) (has.0 TheDesk) is_table))

-- where its tables are there as a desk makes them
pub two_desks : (b : known.Schema) (db : Database) → TablesWithSchemaNamesAreDeskTables third_schema db → DatabaseHasSchema third_schema db → DatabaseHasSchema (abstract_schema b) db → Third ≡ b
two_desks b db defined there other =
    let alike = defined there.tables in
    let first = there.tables.0 in
    let shaped : first.1 ≡ desk_row_table first.1.tree = alike.shaped TheDesk refl first.0 first.1 first.2.named first.2.found in
    let is_table : IsTableAt db.schema (desk_row_table first.1.tree) first.0 = record { named = first.2.named; found = first.2.found ∙ ap Some shaped } in
    same_schema Third b (said_alike third_schema (abstract_schema b) _ (there.row first.0 first.1.tree is_table) (other.row first.0 first.1.tree is_table))

-- only the third has the first day of one-day settlement
pub third_has_rule : (schema : known.Schema) → (abstract_schema schema).has_settle_rule_table ≡ true → schema ≡ Third
third_has_rule First e = absurd (let f : false ≡ true = e in cc)
third_has_rule Second e = absurd (let f : false ≡ true = e in cc)
third_has_rule Third e = refl

pub older_has_none : (schema : known.Schema) → (abstract_schema schema).has_settle_rule_table ≡ false → schema ≡ Third → ⊥
older_has_none First e f = absurd (let g : First ≡ Third = f in cc)
older_has_none Second e f = absurd (let g : Second ≡ Third = f in cc)
older_has_none Third e f = absurd (let g : true ≡ false = e in cc)
