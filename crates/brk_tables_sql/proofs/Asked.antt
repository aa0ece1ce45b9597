-- A whole SELECT of named columns of one table, with WHERE and ORDER BY: what it compiles to in each
-- schema that has the table.
use Rattle.std.proofs.Common.{◌≡◌, ◌∙◌, ◌⊎◌, ℕ, suc, ◌+◌, ◌-◌, ◌<◌, ◌≤◌, nat_lt, List, [], ◌∷◌, map, length, Bool, true, false, Option, None, Some, Ok, Err, refl, sym, ap, arith, slice_get}
use Rattle.std.specs.Prelude.{◌&&◌, option_map}
use Rattle.std.specs.List.{list_all}
use Rattle.std.proofs.lemmas.Bool.{and_parts}
use Rattle.std.proofs.lemmas.Bool.Decides.{nat_tests}
use Rattle.sqlite_schema.specs.declared.schema.Schema.{Schema}
use Rattle.sqlite_schema.specs.declared.schema.Table.{Table}
use Rattle.sqlite_sql.specs.Term.{Term}
use Rattle.sqlite_ast.specs.declared.Expr.{Expr}
use Rattle.sqlite_ast.specs.declared.Arm.{Arm}
use Rattle.sqlite_ast.specs.declared.Expr.TheOpen.{Core-F, Select-F, Source-F}
use Rattle.sqlite_ast.specs.declared.Expr.TheViews.{out-roll-Core, out-roll-Select, out-roll-Source}
use Rattle.sqlite_ast.specs.declared.Shown.{Shown}
use Rattle.sqlite_ast.specs.declared.Sort.{Sort}
use Rattle.sqlite_resolve.specs.declared.scope.Output.{Output}
use Rattle.sqlite_resolve.specs.declared.state.Carried.{Carried}
use Rattle.sqlite_resolve.specs.Lowering.{fresh, max_budget, nothing}
use Rattle.sqlite_resolve.specs.Scope.{Name}
use Rattle.sqlite_resolve.specs.Expr.{lower, lower_to}
use Rattle.sqlite_resolve.specs.Terms.{conjuncts}
use Rattle.sqlite_resolve.specs.Body.{outputs, result, matching, joins, join, shared, inner_join, tests as testing}
use Rattle.sqlite_resolve.specs.Select.{outermost, inside, paging, ungrouped}
use Rattle.sqlite_resolve.specs.Program.{query}
use Rattle.sqlite_resolve.specs.declared.error.CompileError.TheVariants.{Mismatch}
use Rattle.sqlite_schema.specs.declared.command.Command.TheVariants.{Select}
use Rattle.brk_tables_sql.proofs.Meant.{meant, reads_or}
use Rattle.brk_tables_sql.proofs.Pick.{selection}
use Rattle.sqlite_resolve.specs.Order.{sorts}
use Rattle.sqlite_resolve.specs.Compile.{compiled, first}
use Rattle.sqlite_draft.specs.declared.join.Step.TheVariants.{Inner}
use Rattle.sqlite_ast.specs.declared.Statement.TheVariants as statement
use Rattle.sqlite_ast.specs.declared.Origin.TheVariants as origin
use Rattle.sqlite_ast.specs.declared.Source.{Source, roll-Source}
use Rattle.sqlite_ast.specs.declared.Core.{Core, roll-Core}
use Rattle.sqlite_ast.specs.declared.Select as ast
use Rattle.brk_tables_sql.specs.Desk.{IsTableAt}
use Rattle.brk_tables_sql.proofs.Texts.{read}
use Rattle.brk_tables_sql.proofs.Returning.{no_returning}
use Rattle.sqlite_resolve.specs.declared.compiled.Compiled.{Compiled}
use Rattle.sqlite.specs.Listing.{understood}
use Rattle.brk_tables_sql.proofs.Scoped.{over_one}
use Rattle.brk_tables_sql.proofs.Selecting.{level_one, named_is, query_is}
use Rattle.brk_tables_sql.proofs.Conditions.{Tests, single, also, is_found, written_tests, are_found}
use Rattle.brk_tables_sql.proofs.Lowered.{tests_term, one, output_at, sort_at, key_at, last_of}
use Rattle.brk_tables_sql.proofs.Steps.{left, cost_of, levels, tests_lower, outputs_are, keys_are}

-- the columns shown, the tests of WHERE, the columns of ORDER BY and whether each falls, LIMIT and OFFSET
pub record Ask : Type 0 where
  pub shown : List ℕ
  pub tests : Option Tests
  pub by : List (ℕ × Bool)
  pub limit : Option Expr
  pub offset : Option Expr

abbrev pub filter_of : Table → Option Tests → List Term
filter_of table None = []
filter_of table (Some ts) = conjuncts (tests_term table ts)

abbrev pub tests_found : Table → Option Tests → Bool
tests_found table None = true
tests_found table (Some ts) = are_found table ts

abbrev pub tests_cost : Option Tests → ℕ
tests_cost None = 0
tests_cost (Some ts) = cost_of ts

-- each column that is named is one of the table, and there are few enough of them
abbrev pub is_sound : Table → Ask → Bool
is_sound table ask =
    (list_all (is_found table) ask.shown && tests_found table ask.tests)
    && (list_all (λ k. is_found table k.0) ask.by && nat_lt (length ask.shown + (tests_cost ask.tests + length ask.by)) 600)

abbrev pub place_named : Name → Source-F Expr Shown Arm Core ast.Select Sort Source
place_named name = record { is_left = false; origin = origin.Table name; alias = None; on = None; using = [] }

abbrev pub source_of : Table → Source
source_of table = roll-Source (place_named table.name)

abbrev pub parts_of : Table → Ask → Core-F Expr Shown Arm Core ast.Select Sort Source
parts_of table ask = record {
  distinct = false;
  shown = map (one table) ask.shown;
  from = source_of table ∷ [];
  filter = option_map (written_tests table) ask.tests;
  group = [];
  having = None;
}

abbrev pub core_of : Table → Ask → Core
core_of table ask = roll-Core (parts_of table ask)

abbrev pub clauses_of : Table → Ask → Select-F Expr Shown Arm Core ast.Select Sort Source
clauses_of table ask = record { with = []; first = core_of table ask; others = []; order = map (sort_at table) ask.by; limit = ask.limit; offset = ask.offset }

abbrev pub select_of : Table → Ask → ast.Select
select_of table ask = ast.roll-Select (clauses_of table ask)

abbrev pub columns_of : Table → Ask → List Output
columns_of table ask = map (output_at table) ask.shown

-- what a text is read as
abbrev pub IsRead : List ℕ → ast.Select → Type 0
IsRead text s = (first text ≡ Ok (read text)) × ((read text).formats ≡ []) × ((read text).statement ≡ statement.Select s)

abbrev after_tests : Carried → Option Tests → Carried
after_tests last None = last
after_tests last (Some ts) = nothing

levels_are : (schema : Schema) (at : ℕ) (table : Table) (found : slice_get schema.tables at ≡ Some table) (name : Name) (shown : List Output) (a b : Bool)
    (ts : Tests) (depth : ℕ) → levels schema at table found name shown a b ts depth ≡ levels schema at table found name shown a b ts 0 + depth
levels_are schema at table found name shown a b (single t) depth = omega arith
levels_are schema at table found name shown a b (also ts t) depth = let e = levels_are schema at table found name shown a b ts depth in omega arith

low : (schema : Schema) (at : ℕ) (table : Table) (found : slice_get schema.tables at ≡ Some table) (name : Name) (shown : List Output) (a b : Bool)
    (ts : Tests) → levels schema at table found name shown a b ts 0 + 3 ≤ cost_of ts
low schema at table found name shown a b (single t) = omega arith
low schema at table found name shown a b (also ts t) = let e = low schema at table found name shown a b ts in omega arith

module _ (schema : Schema) (at : ℕ) (table : Table) (h : IsTableAt schema table at) (ask : Ask) where
  columns : List Output
  columns = columns_of table ask

  shows : list_all (is_found table) ask.shown ≡ true → (rest : ℕ) → max_budget ≡ length ask.shown + suc rest
      → result lower (outermost schema) (level_one table.name at []) (core_of table ask) (fresh 2 max_budget) ≡ Ok (columns_of table ask, left (suc rest) (last_of table nothing ask.shown))
  unfolding result outputs
  shows f rest is = rw (out-roll-Core (parts_of table ask)) (outputs_are schema at table h.found table.name [] true true ask.shown f max_budget rest is nothing [])

  below : (n : ℕ) → nat_lt n 600 ≡ true → n < 600
  below n e = grind (arith, nat_tests)

  matches : (tests : Option Tests) → tests_found table tests ≡ true → (b rest : ℕ) → b ≡ tests_cost tests + suc rest → nat_lt (tests_cost tests) 600 ≡ true → (last : Carried)
      → matching lower (outermost schema) (level_one table.name at (columns_of table ask)) (core_of table (record ask { tests = tests })) (left b last)
      ≡ Ok (record { steps = Inner table.tree ∷ []; filter = filter_of table tests }, left (suc rest) (after_tests last tests))
  unfolding matching joins join shared inner_join testing
  matches None f b rest is few last =
      let same : b ≡ suc rest = omega arith in
      rw (out-roll-Core (parts_of table (record ask { tests = None })), out-roll-Source (place_named table.name), h.found, same) refl
  matches (Some ts) f b rest is few last = rw (out-roll-Core (parts_of table (record ask { tests = Some ts })), out-roll-Source (place_named table.name), h.found, lowers) refl
    where
      depth : ℕ
      depth = 698 - levels schema at table h.found table.name (columns_of table ask) false true ts 0

      deep : suc (suc (levels schema at table h.found table.name (columns_of table ask) false true ts depth)) ≡ 700
      deep =
          let a = levels_are schema at table h.found table.name (columns_of table ask) false true ts depth in
          let c = low schema at table h.found table.name (columns_of table ask) false true ts in
          let d : cost_of ts < 600 = below (cost_of ts) few in
          omega arith

      lowers : lower (over_one schema at table.name (columns_of table ask) [] false true) (written_tests table ts) (left b last) ≡ Ok (tests_term table ts, left (suc rest) nothing)
      lowers = ap (λ n. lower_to n (over_one schema at table.name (columns_of table ask) [] false true) (written_tests table ts) (left b last)) (sym deep)
          ∙ tests_lower schema at table h.found table.name (columns_of table ask) false true ts f depth b rest is last

  sorted : list_all (λ k. is_found table k.0) ask.by ≡ true → (b rest : ℕ) → b ≡ length ask.by + suc rest → (last : Carried)
      → sorts lower (inside schema (level_one table.name at (columns_of table ask)) false) (columns_of table ask) (map (sort_at table) ask.by) (left b last)
      ≡ Ok (map (key_at table) ask.by, left (suc rest) (last_of table last (map (λ k. k.0) ask.by)))
  unfolding sorts
  sorted f b rest is last = keys_are schema at table h.found table.name (columns_of table ask) false true ask.shown ask.by f b rest is last []

  module _ (sound : is_sound table ask ≡ true) (page : Term × Term) (paged : paging schema (select_of table ask) ≡ Ok page) where
    abbrev n1 : ℕ
    n1 = length ask.shown

    spent : n1 + (tests_cost ask.tests + length ask.by) < 600
    spent = below _ (and_parts _ _ (and_parts _ _ sound).1).1

    few : nat_lt (tests_cost ask.tests) 600 ≡ true
    few = at_most (tests_cost ask.tests) (let e = spent in omega arith)
      where
        at_most : (n : ℕ) → n < 600 → nat_lt n 600 ≡ true
        at_most n h = grind (arith, nat_tests)

    abbrev last1 : Carried
    last1 = last_of table nothing ask.shown

    abbrev rest1 : ℕ
    rest1 = max_budget - (n1 + 1)

    abbrev rest2 : ℕ
    rest2 = max_budget - (n1 + tests_cost ask.tests + 1)

    abbrev rest3 : ℕ
    rest3 = max_budget - (n1 + tests_cost ask.tests + length ask.by + 1)

    names_found : list_all (is_found table) ask.shown ≡ true
    names_found = (and_parts _ _ (and_parts _ _ sound).0).0

    means : query schema (select_of table ask)
        ≡ Ok (
          (
            ungrouped (Inner table.tree ∷ []) (filter_of table ask.tests) (columns_of table ask) false (map (key_at table) ask.by) page.0 page.1,
            map (λ o. o.name) (columns_of table ask),
            map (λ o. o.carried.collation) (columns_of table ask),
          ),
          [],
        )
    means =
        let parts = out-roll-Core (parts_of table ask) in
        let clauses = out-roll-Select (clauses_of table ask) in
        let origin = out-roll-Source (place_named table.name) in
        let core = named_is schema (core_of table ask) (source_of table) table.name at h.named (ap (λ c. c.from) parts) (ap (λ c. c.origin) origin) (ap (λ c. c.alias) origin) (ap (λ c. c.using) origin)
        (columns_of table ask) (left (suc rest1) last1) (record { steps = Inner table.tree ∷ []; filter = filter_of table ask.tests }) (left (suc rest2) (after_tests last1 ask.tests))
        (shows names_found rest1 (let e = spent in omega arith))
        (matches ask.tests (and_parts _ _ (and_parts _ _ sound).0).1 (suc rest1) rest2 (let e = spent in omega arith) few last1)
        (map (sort_at table) ask.by) (map (key_at table) ask.by) (left (suc rest3) _) page (ap (λ c. c.group) parts) (ap (λ c. c.having) parts)
        (sorted (and_parts _ _ (and_parts _ _ sound).1).0 (suc rest2) rest3 (let e = spent in omega arith) (after_tests last1 ask.tests)) in
        let plain = rw (ap (λ c. c.distinct) parts) at core in
        query_is schema (select_of table ask) (core_of table ask) (source_of table) table.name page _ (ap (λ c. c.with) clauses) (ap (λ c. c.first) clauses) (ap (λ c. c.others) clauses)
        (ap (λ c. c.from) parts) (ap (λ c. c.origin) origin) paged (rw (ap (λ c. c.order) clauses) plain)

    pub asked : (text : List ℕ) → IsRead text (select_of table ask)
        → (compiled schema text ≡ Ok (meant (read text) [] (Select
        (record { lets = []; body = selection table.tree (filter_of table ask.tests) (map (λ o. o.term) (columns_of table ask)) (map (key_at table) ask.by) page })
        (map (λ o. o.name) (columns_of table ask)))))
        ⊎ (compiled schema text ≡ Err Mismatch)
    unfolding ungrouped
    asked text is = reads_or schema text (read text) is.0 is.1 (select_of table ask) _ _ _ is.2 means

-- ---- of any schema that has the table, and wherever its rows are

-- the text asks this of the table, with this page
pub record IsAsked (shape : ℕ → Table) (text : List ℕ) (ask : Ask) (page : Term × Term) : Type 0 where
  pub reads : (tree : ℕ) → IsRead text (select_of (shape tree) ask)
  pub sound : (tree : ℕ) → is_sound (shape tree) ask ≡ true
  pub paged : (schema : Schema) (tree : ℕ) → paging schema (select_of (shape tree) ask) ≡ Ok page

-- a text has no RETURNING, whatever the schema is
abbrev pub IsPlain : List ℕ → Type 0
IsPlain text = (schema : Schema) (c : Compiled) → understood schema text ≡ Ok c → c.returning ≡ None

module _ (shape : ℕ → Table) (text : List ℕ) (ask : Ask) (page : Term × Term) (is : IsAsked shape text ask page) where
  pub asks : (schema : Schema) (at tree : ℕ) → IsTableAt schema (shape tree) at
      → (compiled schema text
      ≡ Ok (meant (read text) [] (Select
      (record {
        lets = [];
        body = selection (shape tree).tree (filter_of (shape tree) ask.tests) (map (λ o. o.term) (columns_of (shape tree) ask)) (map (key_at (shape tree)) ask.by) page;
      })
      (map (λ o. o.name) (columns_of (shape tree) ask)))))
      ⊎ (compiled schema text ≡ Err Mismatch)
  asks schema at tree h = asked schema at (shape tree) h ask (is.sound tree) page (is.paged schema tree) text (is.reads tree)

  pub asks_plainly : IsPlain text
  asks_plainly = let r = is.reads 0 in no_returning text (read text) (select_of (shape 0) ask) r.0 r.1 r.2
