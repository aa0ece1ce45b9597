-- The columns of an unknown table, by preparing a SELECT of all of them that is never executed.
use Rattle.std.proofs.Common.{◌≡◌, ◌⊎◌, ◌∙◌, nat_lt, ℕ, ◌+◌, pos, negsuc, List, [], ◌∷◌, ◌++◌, map, length, Bool, true, false, None, Some, Ok, Err, refl, sym, ap, append-nil, slice_get}
use Rattle.sqlite_value.specs.declared.value.Value.TheVariants.{Int}
use Rattle.sqlite_sql.specs.Term.{lit}
use Rattle.sqlite_schema.specs.declared.schema.Schema.{Schema}
use Rattle.sqlite_schema.specs.declared.schema.Table.{Table}
use Rattle.sqlite_schema.specs.declared.schema.Column.{Column}
use Rattle.sqlite_schema.specs.declared.command.Command.TheVariants.{Select}
use Rattle.sqlite_schema.specs.Names.{table_named}
use Rattle.sqlite_syntax.specs.declared.statement.Parsed.{Parsed}
use Rattle.sqlite_ast.specs.declared.Statement.TheVariants as written
use Rattle.sqlite_ast.specs.declared.Shown.TheVariants.{All}
use Rattle.sqlite_ast.specs.declared.Origin.TheVariants as origin
use Rattle.sqlite_ast.specs.declared.Source.{Source, roll-Source}
use Rattle.sqlite_ast.specs.declared.Core.{Core, roll-Core}
use Rattle.sqlite_ast.specs.declared.Select as ast
use Rattle.sqlite_draft.specs.declared.join.Step.TheVariants.{Inner}
use Rattle.sqlite_draft.specs.Query.{query_of}
use Rattle.sqlite_resolve.specs.declared.scope.Output.{Output}
use Rattle.sqlite_resolve.specs.declared.scope.Bound.{Bound}
use Rattle.sqlite_resolve.specs.declared.error.CompileError.TheVariants.{TooBig, NoSuchTable, Mismatch}
use Rattle.sqlite_resolve.specs.declared.compiled.Compiled.{Compiled}
use Rattle.sqlite_resolve.specs.Lowering.{fresh, max_budget}
use Rattle.sqlite_resolve.specs.Scope.{Name, is_among}
use Rattle.sqlite_resolve.specs.Expr.{lower}
use Rattle.sqlite_resolve.specs.Body.{result, matching, columns_from}
use Rattle.sqlite_resolve.specs.Select.{outermost, ungrouped}
use Rattle.sqlite_resolve.specs.Program.{query as meaning}
use Rattle.sqlite_resolve.specs.Compile.{compiled, first}
use Rattle.sqlite.specs.Listing.{understood, listing_schema}
use Rattle.sqlite.specs.Steps.{column_names}
use Rattle.sqlite_tied.specs.Compute.{everything}
use Rattle.brk_tables_sql.proofs.Partly.{sql_lowering_definitions}
use Rattle.brk_tables_sql.proofs.Effects.{same_value}
use Rattle.brk_tables_sql.proofs.Meant.{meant, known, when_understood, reads_or, reads_off}
use Rattle.brk_tables_sql.proofs.Selecting.{level_one, named_is, named_off, query_is, query_off, error_of}

abbrev source : Name → Source
source name = roll-Source (record { is_left = false; origin = origin.Table name; alias = None; on = None; using = [] })

abbrev core : Name → Core
core name = roll-Core (record { distinct = false; shown = All ∷ []; from = source name ∷ []; filter = None; group = []; having = None })

-- SELECT * FROM the table of this name
abbrev pub star : Name → ast.Select
star name = ast.roll-Select (record { with = []; first = core name; others = []; order = []; limit = None; offset = None })

abbrev bound_at : Name → ℕ → Bound
bound_at name at = record { name = name; table = at; slot = 1; shared = [] }

push : {X Y : Type 0} (f : X → Y) (xs : List X) (x : X) (ys : List Y) → map f (xs ++ x ∷ []) ++ ys ≡ map f xs ++ f x ∷ ys
push f [] x ys = refl
push f (y ∷ xs) x ys = ap (λ zs. f y ∷ zs) (push f xs x ys)

names_from : (name : Name) (table : Table) (at k : ℕ) (done : List Output) (cs : List Column)
    → map (λ o. o.name) (columns_from None table (bound_at name at) k done cs) ≡ map (λ o. o.name) done ++ map (λ c. c.name) cs
unfolding is_among
names_from name table at k done [] = sym (append-nil (map (λ o. o.name) done))
names_from name table at k done (c ∷ cs) = names_from name table at (k + 1) (done ++ _ ∷ []) cs ∙ push (λ o. o.name) done _ (map (λ c. c.name) cs)

module _ (text : List ℕ) (p : Parsed) (name : Name) (is : first text ≡ Ok p) (statement : p.statement ≡ written.Select (star name)) (untimed : p.formats ≡ [])
    (unlisted : compiled listing_schema text ≡ Err NoSuchTable)
    (schema : Schema) (at : ℕ) (table : Table) (named : table_named schema name ≡ Some at) (found : slice_get schema.tables at ≡ Some table) where
  abbrev all : List Output
  all = columns_from None table (bound_at name at) 0 [] table.columns

  module _ (few : nat_lt 2000 (length all) ≡ false) (some : nat_lt 0 (length all) ≡ true) where
    shows : result lower (outermost schema) (level_one name at []) (core name) (fresh 2 max_budget) ≡ Ok (all, fresh 2 max_budget)
    unfolding sql_lowering_definitions
    shows = rw (found, few, some)

    matches : (columns : List Output)
        → matching lower (outermost schema) (level_one name at columns) (core name) (fresh 2 max_budget)
        ≡ Ok (record { steps = Inner table.tree ∷ []; filter = [] }, fresh 2 max_budget)
    unfolding sql_lowering_definitions
    matches columns = rw found

    meaning_is : meaning schema (star name)
        ≡ Ok (
          (
            ungrouped (Inner table.tree ∷ []) [] all false [] (lit (Int (negsuc 0))) (lit (Int (pos 0))),
            map (λ o. o.name) all,
            map
                (λ o. o.carried.collation) all,
          ),
          [],
        )
    unfolding everything
    meaning_is = query_is schema (star name) (core name) (source name) name (lit (Int (negsuc 0)), lit (Int (pos 0))) _ refl refl refl refl refl refl
        (named_is schema (core name) (source name) name at named refl refl refl refl all (fresh 2 max_budget)
        (record { steps = Inner table.tree ∷ []; filter = [] }) (fresh 2 max_budget) shows (matches all) [] [] (fresh 2 max_budget) _ refl refl refl)

    star_or : (compiled schema text
        ≡ Ok (meant p [] (Select
        (record { lets = []; body = query_of (ungrouped (Inner table.tree ∷ []) [] all false [] (lit (Int (negsuc 0))) (lit (Int (pos 0)))) })
        (map (λ o. o.name) all)))) ⊎ (compiled schema text ≡ Err Mismatch)
    unfolding everything
    star_or = reads_or schema text p is untimed (star name) _ (map (λ o. o.name) all) _ statement meaning_is

  off : (big : Bool) → result lower (outermost schema) (level_one name at []) (core name) (fresh 2 max_budget) ≡ Err (error_of big) → compiled schema text ≡ Err (error_of big)
  unfolding everything
  off big refused = reads_off schema text p is untimed (star name) (error_of big) statement
      (query_off schema (star name) (core name) (source name) name (lit (Int (negsuc 0)), lit (Int (pos 0))) big refl refl refl refl refl refl
      (named_off schema (core name) (source name) name at named refl refl refl refl (error_of big) [] _ refused))

  too_many : nat_lt 2000 (length all) ≡ true → result lower (outermost schema) (level_one name at []) (core name) (fresh 2 max_budget) ≡ Err TooBig
  unfolding sql_lowering_definitions
  too_many many = rw (found, many)

  none_at_all : nat_lt 2000 (length all) ≡ false → nat_lt 0 (length all) ≡ false → result lower (outermost schema) (level_one name at []) (core name) (fresh 2 max_budget) ≡ Err NoSuchTable
  unfolding sql_lowering_definitions
  none_at_all few none = rw (found, few, none)

  never : (big : Bool) (c : Compiled) → compiled schema text ≡ Err (error_of big) → understood schema text ≡ Ok c → ⊥
  unfolding understood
  never true c e is = let f = rw e at is in cc
  never false c e is = let f = rw (e, unlisted) at is in cc

  -- it shows the columns of the table
  pub shown_columns : (c : Compiled) → understood schema text ≡ Ok c → column_names c ≡ map (λ c. c.name) table.columns
  shown_columns c is = go (nat_lt 2000 (length all)) refl (nat_lt 0 (length all)) refl
    where
      go : (many : Bool) → nat_lt 2000 (length all) ≡ many → (some : Bool) → nat_lt 0 (length all) ≡ some → column_names c ≡ map (λ c. c.name) table.columns
      go true m s e = absurd (never true c (off true (too_many m)) is)
      go false m false e = absurd (never false c (off false (none_at_all m e)) is)
      go false m true e =
          let sure = (known schema text _ (when_understood schema text c _ is (star_or m e))).0 in
          let same : c ≡ _ = same_value (sym is ∙ sure) in
          ap column_names same ∙ names_from name table at 0 [] table.columns
