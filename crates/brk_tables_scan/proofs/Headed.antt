-- Tables that exist by name have the columns of a schema exactly if a SELECT of all columns shows
-- these.
use Rattle.std.proofs.Common.{◌≡◌, ◌∙◌, ◌↔◌, inl, inr, ℕ, zero, suc, ◌+◌, ◌<◌, List, [], ◌∷◌, map, take, length, get_or, Bool, true, false, not, ◌||◌}
use Rattle.std.proofs.Common.{Option, Some, None, is_some, refl, sym, ap, subst, arith, add-one, slice_get, Result}
use Rattle.std.specs.Prelude.{IsTrue}
use Rattle.std.specs.Borrow.{Bor}
use Rattle.std.specs.List.{AllByRecursion, list_all, list_any}
use Rattle.std.proofs.lemmas.Bool.{and_parts}
use Rattle.std.proofs.lemmas.List.{take-map}
use Rattle.std.proofs.lemmas.Option.{slice_get_cases}
use Rattle.sqlite_rules.proofs.RowLemmas.{position_within}
use Rattle.sqlite_schema.specs.declared.schema.Schema.{Schema}
use Rattle.sqlite_schema.specs.declared.schema.Table.{Table}
use Rattle.sqlite_schema.specs.Names.{table_named}
use Rattle.sqlite.specs.State.{State}
use Rattle.brk_money.specs.declared.fault.StoreFailed.{StoreFailed}
use Rattle.brk_tables_sql.specs.Desk.{IsResultColumnCheckOutcome}
use Rattle.brk_tables_sql.specs.Model.{IsTransactionStep}
use Rattle.brk_model.specs.Schemas.{Schema as Desk}
use Rattle.brk_trade_rows.specs.declared.schema.Schema as known
use Rattle.brk_trade_rows.specs.declared.schema.Schema.TheVariants.{First, Second, Third}
use Rattle.brk_trade_rows.specs.Schemas.{abstract_schema}
use Rattle.brk_tables_schema.specs.Desk.{DeskTable, all_tables, table_name, table_definition_at_tree, tables_in_schema}
use Rattle.brk_tables_schema.specs.Desk.{tables_of_later_schemas}
use Rattle.brk_tables_scan.specs.Present.{has_exact_table_names, has_table_named}
use Rattle.brk_tables_scan.specs.Headings.{IsHeadingCheckOutcome, heading_of_borrowed_texts, heading_of_table, select_all_text}
use Rattle.brk_tables_scan.specs.Schemas.{HasTableWithNames, HasTablesOfSchema, LacksTablesOfLaterSchemas, table_and_column_names}
use Rattle.brk_tables_scan.proofs.Stars.{columns_told}

-- ---- one after another

abbrev pub Told : Type 0
Told = Bor (List ℕ) × Bor (List (Bor (List ℕ)))

module _ (schema : Schema) (d : Told) where
  -- all before it, and not this one
  pub wrong_at : (all : List Told) (i : ℕ) → i < length all → IsHeadingCheckOutcome (map heading_of_borrowed_texts (take i all)) true schema
      → IsResultColumnCheckOutcome (heading_of_borrowed_texts (get_or all i d)).0 (heading_of_borrowed_texts (get_or all i d)).1 false schema
      → IsHeadingCheckOutcome (map heading_of_borrowed_texts all) false schema
  wrong_at [] i lt before this = absurd (omega (arith, lt))
  wrong_at (t ∷ all) zero lt before this = inl (this, refl)
  wrong_at (t ∷ all) (suc i) lt (inl (other, e)) this = absurd (let f = e in cc)
  wrong_at (t ∷ all) (suc i) lt (inr (one, before)) this = inr (one, wrong_at all i (omega (arith, lt)) before this)

  next_at : (all : List Told) (i : ℕ) → i < length all → IsHeadingCheckOutcome (map heading_of_borrowed_texts (take i all)) true schema
      → IsResultColumnCheckOutcome (heading_of_borrowed_texts (get_or all i d)).0 (heading_of_borrowed_texts (get_or all i d)).1 true schema
      → IsHeadingCheckOutcome (map heading_of_borrowed_texts (take (suc i) all)) true schema
  next_at [] i lt before this = absurd (omega (arith, lt))
  next_at (t ∷ all) zero lt before this = inr (this, refl)
  next_at (t ∷ all) (suc i) lt (inl (other, e)) this = absurd (let f = e in cc)
  next_at (t ∷ all) (suc i) lt (inr (one, before)) this = inr (one, next_at all i (omega (arith, lt)) before this)

  -- all before it, and this one
  pub right_at : (all : List Told) (i : ℕ) → i < length all → IsHeadingCheckOutcome (map heading_of_borrowed_texts (take i all)) true schema
      → IsResultColumnCheckOutcome (heading_of_borrowed_texts (get_or all i d)).0 (heading_of_borrowed_texts (get_or all i d)).1 true schema
      → IsHeadingCheckOutcome (map heading_of_borrowed_texts (take (i + 1) all)) true schema
  right_at all i lt before this = rw (add-one i) (next_at all i lt before this)

-- ---- the tables of a schema are the first of all tables

pub headings_in_schema : (schema : known.Schema) (all : List Told) → map heading_of_borrowed_texts all ≡ map heading_of_table all_tables
    → map heading_of_borrowed_texts (take (length (tables_in_schema (abstract_schema schema))) all) ≡ map heading_of_table (tables_in_schema (abstract_schema schema))
headings_in_schema First all is = sym (take-map heading_of_borrowed_texts 20 all) ∙ ap (take 20) is
headings_in_schema Second all is = sym (take-map heading_of_borrowed_texts 21 all) ∙ ap (take 21) is
headings_in_schema Third all is = sym (take-map heading_of_borrowed_texts 22 all) ∙ ap (take 22) is

pub step_in_schema : (a b : State) (r : Result Bool StoreFailed) (schema : known.Schema) (n : ℕ) (all : List Told)
    → IsTransactionStep {V = Bool} {E = StoreFailed} a b r (λ has a b. (b.now ≡ a.now) × IsHeadingCheckOutcome (map heading_of_borrowed_texts (take n all)) has a.now.schema)
    → n ≡ length (tables_in_schema (abstract_schema schema)) → map heading_of_borrowed_texts all ≡ map heading_of_table all_tables
    → IsTransactionStep {V = Bool} {E = StoreFailed} a b r (λ has a b. (b.now ≡ a.now) × IsHeadingCheckOutcome (map heading_of_table (tables_in_schema (abstract_schema schema))) has a.now.schema)
step_in_schema a b r schema n all step count is =
    subst (λ hs. IsTransactionStep {V = Bool} {E = StoreFailed} a b r (λ has a b. (b.now ≡ a.now) × IsHeadingCheckOutcome hs has a.now.schema))
    (ap (λ n. map heading_of_borrowed_texts (take n all)) count ∙ headings_in_schema schema all is) step

-- ---- of a desk

module _ (schema : Schema) where
  found_at : (name : List ℕ) (at : ℕ) → table_named schema name ≡ Some at → (table : Table) × (slice_get schema.tables at ≡ Some table)
  found_at name at named = elim (slice_get_cases schema.tables at).1 [
    | inl found ↦ (found.0, found.2)
    | inr past ↦ absurd (omega (arith, position_within _ schema.tables 0 at named, past.0))
  ]

  -- one that shows its columns has them
  table_there : (w : DeskTable) → has_table_named schema w ≡ true
      → IsResultColumnCheckOutcome (select_all_text w) (table_and_column_names (table_definition_at_tree w 0)).columns true schema
      → HasTableWithNames schema (table_and_column_names (table_definition_at_tree w 0))
  table_there w there shows = go (table_named schema (table_name w)) refl
    where
      go : (r : Option ℕ) → table_named schema (table_name w) ≡ r → HasTableWithNames schema (table_and_column_names (table_definition_at_tree w 0))
      go None none = absurd (let f = sym there ∙ ap is_some none in cc)
      go (Some at) named =
          let t = found_at (table_name w) at named in
          (at, t.0, record { named = named; found = t.1; columns = sym (columns_told w schema at t.0 named t.1 shows.0 shows.1) ∙ shows.2.0 refl })

  -- and one that has them shows them
  columns_shown : (w : DeskTable) → HasTableWithNames schema (table_and_column_names (table_definition_at_tree w 0))
      → IsResultColumnCheckOutcome (select_all_text w) (table_and_column_names (table_definition_at_tree w 0)).columns false schema → ⊥
  columns_shown w has shows =
      let e : false ≡ true = shows.2.1 (columns_told w schema has.0 has.1 has.2.named has.2.found shows.0 shows.1 ∙ has.2.columns) in
      cc

  told_by : (ws : List DeskTable) → list_all (has_table_named schema) ws ≡ true → (has : Bool) → IsHeadingCheckOutcome (map heading_of_table ws) has schema
      → IsTrue has ↔ AllByRecursion (λ w. HasTableWithNames schema (table_and_column_names (table_definition_at_tree w 0))) ws
  told_by [] there has e = ((λ _. tt), (λ _. e))
  told_by (w ∷ ws) there has (inl (wrong, e)) = (
    (λ sure. absurd (let f = sym e ∙ sure in cc)),
    (λ (all : AllByRecursion (λ w. HasTableWithNames schema (table_and_column_names (table_definition_at_tree w 0))) (w ∷ ws)). absurd
        (columns_shown w all.0 wrong)),
  )
  told_by (w ∷ ws) there has (inr (right, rest)) =
      let p = and_parts (has_table_named schema w) (list_all (has_table_named schema) ws) there in
      let more = told_by ws p.1 has rest in
      ((λ sure. (table_there w p.0 right, more.0 sure)), (λ (all : AllByRecursion (λ w. HasTableWithNames schema (table_and_column_names (table_definition_at_tree w 0))) (w ∷ ws)). more.1 all.1))

  -- a name that no table has
  unnamed : (o : Option ℕ) → is_some o ≡ false → o ≡ None
  unnamed None h = refl
  unnamed (Some n) h = absurd (let e = h in cc)

  none_named : (ws : List DeskTable) → list_any (has_table_named schema) ws ≡ false → AllByRecursion (λ w. table_named schema (table_name w) ≡ None) ws
  none_named [] h = tt
  none_named (w ∷ ws) h = go (has_table_named schema w) refl h (λ off. none_named ws off)
    where
      go : (b : Bool) → has_table_named schema w ≡ b → (b || list_any (has_table_named schema) ws) ≡ false
          → (list_any (has_table_named schema) ws ≡ false → AllByRecursion (λ w. table_named schema (table_name w) ≡ None) ws)
          → AllByRecursion (λ w. table_named schema (table_name w) ≡ None) (w ∷ ws)
      go true e h more = absurd (let f = h in cc)
      go false e h more = (unnamed (table_named schema (table_name w)) e, more h)

  named_none : (ws : List DeskTable) → AllByRecursion (λ w. table_named schema (table_name w) ≡ None) ws → list_any (has_table_named schema) ws ≡ false
  named_none [] all = refl
  named_none (w ∷ ws) all = rw (all.0) (named_none ws all.1)

  -- tables that are there have their names
  all_named : (ws : List DeskTable) → AllByRecursion (λ w. HasTableWithNames schema (table_and_column_names (table_definition_at_tree w 0))) ws → list_all (has_table_named schema) ws ≡ true
  all_named [] all = refl
  all_named (w ∷ ws) all = rw (all.0.2.named) (all_named ws all.1)

  module _ (desk : Desk) where
    pub columns_tell : has_exact_table_names desk schema ≡ true → (has : Bool) → IsHeadingCheckOutcome (map heading_of_table (tables_in_schema desk)) has schema
        → IsTrue has ↔ HasTablesOfSchema desk schema × LacksTablesOfLaterSchemas desk schema
    columns_tell there has heads =
        let p = and_parts (list_all (has_table_named schema) (tables_in_schema desk)) (not (list_any (has_table_named schema) (tables_of_later_schemas desk))) there in
        let told = told_by (tables_in_schema desk) p.0 has heads in
        ((λ sure. (told.0 sure, none_named (tables_of_later_schemas desk) (not_not _ p.1))), (λ (both : HasTablesOfSchema desk schema × LacksTablesOfLaterSchemas desk schema). told.1 both.0))
      where
        not_not : (b : Bool) → not b ≡ true → b ≡ false
        not_not true h = absurd (let e = h in cc)
        not_not false h = refl

    pub none_there : (has : Bool) → has_exact_table_names desk schema ≡ false → has ≡ false → IsTrue has ↔ HasTablesOfSchema desk schema × LacksTablesOfLaterSchemas desk schema
    none_there has e other = (
      (λ sure. absurd (let f = sym other ∙ sure in cc)),
      (λ (both : HasTablesOfSchema desk schema × LacksTablesOfLaterSchemas desk schema).
          absurd (let sure : has_exact_table_names desk schema ≡ true =
          rw (all_named (tables_in_schema desk) both.0, named_none (tables_of_later_schemas desk) both.1) refl in let f = sym sure ∙ e in cc)),
    )
