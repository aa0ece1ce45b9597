-- A SELECT over one table, with no WITH, GROUP BY or HAVING, and no second part.
use Rattle.std.proofs.Common.{◌≡◌, ℕ, Bool, List, [], ◌∷◌, ◌++◌, map, true, false, None, Some, Ok, Err, refl}
use Rattle.sqlite_value.specs.declared.keys.Key.{Key}
use Rattle.sqlite_sql.specs.Term.{Term}
use Rattle.sqlite_schema.specs.declared.schema.Schema.{Schema}
use Rattle.sqlite_schema.specs.Names.{table_named}
use Rattle.sqlite_ast.specs.declared.Source.{Source, out-Source}
use Rattle.sqlite_ast.specs.declared.Origin.TheVariants.{Table}
use Rattle.sqlite_ast.specs.declared.Core.{Core, out-Core}
use Rattle.sqlite_ast.specs.declared.Sort.{Sort}
use Rattle.sqlite_ast.specs.declared.Select.{Select, out-Select}
use Rattle.sqlite_resolve.specs.declared.scope.Output.{Output}
use Rattle.sqlite_resolve.specs.declared.scope.Level.{Level}
use Rattle.sqlite_resolve.specs.declared.state.State.{State}
use Rattle.sqlite_resolve.specs.declared.body.Joined.{Joined}
use Rattle.sqlite_resolve.specs.Lowering.{fresh, max_budget}
use Rattle.sqlite_resolve.specs.Scope.{Name}
use Rattle.sqlite_resolve.specs.Expr.{lower}
use Rattle.sqlite_resolve.specs.Order.{sorts, keys}
use Rattle.sqlite_resolve.specs.Body.{body, bounds, result, matching, tests}
use Rattle.sqlite_resolve.specs.Select.{outermost, inside, parts, having, named, assembled, ungrouped, paging}
use Rattle.sqlite_resolve.specs.Program.{query, query_to, level, with, whole, alone, single, sources, source, viewing}
use Rattle.sqlite_resolve.specs.declared.error.CompileError.{CompileError}
use Rattle.sqlite_resolve.specs.declared.error.CompileError.TheVariants.{TooBig, NoSuchTable}
use Rattle.brk_tables_sql.proofs.Scoped.{bound_is}

abbrev pub level_one : Name → ℕ → List Output → Level
level_one name at shown = record { tables = record { name = name; table = at; slot = 1; shared = [] } ∷ []; shown = shown }

abbrev pub plainly : State → State
plainly s = record s { aggregates = [] }

module _ (schema : Schema) (core : Core) (source : Source) (name : Name) (at : ℕ) (named_at : table_named schema name ≡ Some at) (from : (out-Core core).from ≡ source ∷ [])
    (origin : (out-Source source).origin ≡ Table name) (alias : (out-Source source).alias ≡ None) (using : (out-Source source).using ≡ []) where
  bounds_is : bounds schema (source ∷ []) (fresh 1 max_budget) ≡ Ok (record { name = name; table = at; slot = 1; shared = [] } ∷ [], fresh 2 max_budget)
  unfolding bounds
  bounds_is = rw (bound_is schema name at named_at source origin alias using (fresh 1 max_budget) refl)

  module _ (columns : List Output) (s2 : State) (joined : Joined) (s3 : State) (shows : result lower (outermost schema) (level_one name at []) core (fresh 2 max_budget) ≡ Ok (columns, s2))
      (matches : matching lower (outermost schema) (level_one name at columns) core s2 ≡ Ok (joined, plainly s3)) where
    pub body_is : body lower (outermost schema) core (fresh 1 max_budget) ≡ Ok (record { level = level_one name at columns; steps = joined.steps; filter = joined.filter }, plainly s3)
    unfolding body
    body_is = rw (from, bounds_is, shows, matches)

    pub parts_is : (by : List Sort) (order : List (Term × Key)) (s4 : State) → (out-Core core).group ≡ [] → (out-Core core).having ≡ None
        → sorts lower (inside schema (level_one name at columns) false) columns by (plainly s3) ≡ Ok (order, s4)
        → parts schema core by (fresh 1 max_budget)
        ≡ Ok (
          record {
            body = record { level = level_one name at columns; steps = joined.steps; filter = joined.filter };
            is_grouped = false;
            keys =
                [];
            collations = [];
            having = [];
            order = order;
          },
          s4,
        )
    unfolding parts keys having tests
    parts_is by order s4 grouped unhaving sorted = rw (body_is, grouped, unhaving, sorted)

    pub named_is : (by : List Sort) (order : List (Term × Key)) (s4 : State) (page : Term × Term) → (out-Core core).group ≡ [] → (out-Core core).having ≡ None
        → sorts lower (inside schema (level_one name at columns) false) columns by (plainly s3) ≡ Ok (order, s4)
        → named schema core by page
        ≡ Ok (ungrouped (joined.steps ++ s4.steps) joined.filter columns (out-Core core).distinct order page.0 page.1, map (λ o. o.name) columns, map (λ o. o.carried.collation) columns)
    unfolding named assembled
    named_is by order s4 page a b sorted = rw (parts_is by order s4 a b sorted)

-- an error of the columns that are shown: above 2,000, or none
abbrev pub error_of : Bool → CompileError
error_of true = TooBig
error_of false = NoSuchTable

-- what the columns are refused for, the SELECT is
pub named_off : (schema : Schema) (core : Core) (source : Source) (name : Name) (at : ℕ) → table_named schema name ≡ Some at
    → (out-Core core).from ≡ source ∷ [] → (out-Source source).origin ≡ Table name
    → (out-Source source).alias ≡ None → (out-Source source).using ≡ [] → (e : CompileError) (by : List Sort) (page : Term × Term)
    → result lower (outermost schema) (level_one name at []) core (fresh 2 max_budget) ≡ Err e → named schema core by page ≡ Err e
unfolding named parts body
named_off schema core source name at named_at from origin alias using e by page off = rw (from, bounds_is schema core source name at named_at from origin alias using, off)

pub query_off : (schema : Schema) (s : Select) (core : Core) (source' : Source) (name : Name) (page : Term × Term) (big : Bool)
    → (out-Select s).with ≡ [] → (out-Select s).first ≡ core → (out-Select s).others ≡ [] → (out-Core core).from ≡ source' ∷ [] → (out-Source source').origin ≡ Table name
    → paging schema s ≡ Ok page → named schema core (out-Select s).order page ≡ Err (error_of big) → query schema s ≡ Err (error_of big)
unfolding query query_to level with whole alone single sources source viewing
query_off schema s core source' name page true a first b from origin paged named = rw (a, paged, b, first, from, origin, named)
query_off schema s core source' name page false a first b from origin paged named = rw (a, paged, b, first, from, origin, named)

pub query_is : (schema : Schema) (s : Select) (core : Core) (source' : Source) (name : Name) (page : Term × Term) (shown : _)
    → (out-Select s).with ≡ [] → (out-Select s).first ≡ core → (out-Select s).others ≡ [] → (out-Core core).from ≡ source' ∷ [] → (out-Source source').origin ≡ Table name
    → paging schema s ≡ Ok page → named schema core (out-Select s).order page ≡ Ok shown → query schema s ≡ Ok (shown, [])
unfolding query query_to level with whole alone single sources source viewing
query_is schema s core source' name page shown a first b from origin paged named = rw (a, paged, b, first, from, origin, named)
